use Rattle.edit_rules.proofs.Changing.{guide_named, guide_can_move}
use Rattle.edit_rules.proofs.applying.standing_guide.Goals as goal

pub returns-clause-named : goal.returns-clause-named
returns-clause-named c = guide_named c.args.scene.now c.args.name.now c.guide_found.result c.guide_found.ensures.value

pub returns-clause-few : goal.returns-clause-few
returns-clause-few c = λ few. guide_can_move c.args.scene.now c.args.name.now c.guide_found.result c.guide_found.ensures.value few
