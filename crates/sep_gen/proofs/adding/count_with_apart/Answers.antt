use Rattle.std.proofs.Common.{refl}
use Rattle.sep_gen.proofs.Additions.{with_compound}
use Rattle.sep_gen.proofs.adding.count_with_apart.Goals as goal

pub returns : goal.returns
returns c = λ name a b gap exact. with_compound c.args.scene.now c.args.axis c.count.result c.count.ensures.value _ c.of_apart.result _ c.of_apart.ensures.value refl
