use Rattle.edit_rules.proofs.Changing.{shape_named, shape_can_move}
use Rattle.edit_rules.proofs.applying.standing_shape.Goals as goal

pub returns-clause-named : goal.returns-clause-named
returns-clause-named c = shape_named c.args.scene.now c.args.name.now c.shape_found.result c.shape_found.ensures.value

pub returns-clause-few : goal.returns-clause-few
returns-clause-few c = λ few. shape_can_move c.args.scene.now c.args.name.now c.shape_found.result c.shape_found.ensures.value few
