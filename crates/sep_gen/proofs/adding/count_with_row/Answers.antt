use Rattle.std.proofs.Common.{refl}
use Rattle.sep_gen.proofs.Additions.{with_compound}
use Rattle.sep_gen.proofs.adding.count_with_row.Goals as goal

pub returns-clause-spread : goal.returns-clause-spread
returns-clause-spread c = λ name gap. with_compound c.args.scene.now c.args.axis c.count.result c.count.ensures.value _ c.of_row.result _ c.of_row.ensures.value refl

pub returns-clause-rank : goal.returns-clause-rank
returns-clause-rank c = λ name gap. with_compound c.args.scene.now c.args.axis c.count.result c.count.ensures.value _ c.of_row.result _ c.of_row.ensures.value refl
