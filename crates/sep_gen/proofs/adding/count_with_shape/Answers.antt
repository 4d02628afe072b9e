use Rattle.std.proofs.Common.{◌∙◌, refl}
use Rattle.sep_gen.proofs.Additions.{with_shape}
use Rattle.sep_gen.proofs.adding.count_with_shape.Goals as goal

pub returns : goal.returns
returns c =
    λ shape. with_shape c.args.scene.now c.args.axis c.count.result c.count.ensures.value shape c.from.result _ (c.from.ensures ∙ c.count-2.ensures.value) refl
