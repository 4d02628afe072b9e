use Rattle.std.proofs.Common.{refl}
use Rattle.sep_gen.proofs.Additions.{with_compound}
use Rattle.sep_gen.proofs.adding.count_with_align.Goals as goal

pub returns : goal.returns
returns c = λ name line. with_compound c.args.scene.now c.args.axis c.count.result c.count.ensures.value _ c.of_aligned.result _ c.of_aligned.ensures.value refl
