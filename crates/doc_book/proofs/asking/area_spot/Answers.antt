use Rattle.units.specs.declared.geometry.Axis.TheVariants as axes
use Rattle.axis_project.proofs.ItemVariables.{area_has_variables}
use Rattle.doc_book.proofs.asking.area_spot.Goals as goal

pub place-requires-clause-stands : goal.place-requires-clause-stands
place-requires-clause-stands c = (area_has_variables c.args.scene.now axes.X c.args.name.now c.requires.stands).0

pub place-requires-2-clause-stands : goal.place-requires-2-clause-stands
place-requires-2-clause-stands c = (area_has_variables c.args.scene.now axes.Y c.args.name.now c.requires.stands).0

pub place-requires-3-clause-stands : goal.place-requires-3-clause-stands
place-requires-3-clause-stands c = (area_has_variables c.args.scene.now axes.X c.args.name.now c.requires.stands).1

pub place-requires-4-clause-stands : goal.place-requires-4-clause-stands
place-requires-4-clause-stands c = (area_has_variables c.args.scene.now axes.Y c.args.name.now c.requires.stands).1
