use Rattle.std.proofs.Common.{arith}
use Rattle.edit_rules.proofs.applying.move_to.Goals as goal

pub overflow_add-shape : goal.overflow_add-shape
overflow_add-shape c =
    let few = c.standing_shape-shape.ensures.few c.requires.few in
    record { fits = omega (arith, few) }
