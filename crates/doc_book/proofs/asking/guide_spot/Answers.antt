use Rattle.axis_project.proofs.ItemVariables.{guide_has_variable, guide_whole}
use Rattle.doc_book.proofs.asking.guide_spot.Goals as goal

pub place-requires-clause-stands : goal.place-requires-clause-stands
place-requires-clause-stands c =
    guide_has_variable c.args.scene.now c.args.name.now c.guide.result.now (guide_whole c.args.scene.now c.args.name.now c.args.at c.guide.result.now c.requires.stands c.guide.ensures.value)
