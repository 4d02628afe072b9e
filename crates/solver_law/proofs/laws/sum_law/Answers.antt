use Rattle.std.proofs.Common.{IsTrue}
use Rattle.solver_law.proofs.State.{mix-state}
use Rattle.solver_law.proofs.laws.sum_law.Goals as goal

pub returns : goal.returns
returns c = λ p on pushed c t a b h g. mix-state p (λ k. IsTrue (on k)) (λ k. IsTrue (pushed k)) c t a b h g
