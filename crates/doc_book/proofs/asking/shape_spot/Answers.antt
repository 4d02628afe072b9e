use Rattle.units.specs.declared.geometry.Axis.TheVariants as axes
use Rattle.axis_project.proofs.ItemVariables.{shape_has_variable}
use Rattle.doc_book.proofs.asking.shape_spot.Goals as goal

pub place-requires-clause-stands : goal.place-requires-clause-stands
place-requires-clause-stands c = shape_has_variable c.args.scene.now axes.X c.args.name.now c.requires.stands

pub place-requires-2-clause-stands : goal.place-requires-2-clause-stands
place-requires-2-clause-stands c = shape_has_variable c.args.scene.now axes.Y c.args.name.now c.requires.stands
