-- Places say that there is no positive cycle.
use Rattle.std.proofs.Common.{◌↔◌, ℤ, List, IsTrue, false, arith}
use Rattle.std.proofs.lemmas.Bool.{false≢true}
use Rattle.units.specs.declared.geometry.Sep.{Sep}
use Rattle.units.specs.Separation.{SatisfiesAll}
use Rattle.cycle_test.specs.Cycle.{HasPositiveCycle}
use Rattle.cycle_test.proofs.Cancel.{never_both}

pub no_cycle : (seps : List Sep) (ys : List ℤ) → SatisfiesAll ys 1 seps → IsTrue false ↔ HasPositiveCycle seps
no_cycle seps ys satisfied = (λ says. absurd (false≢true says), λ has. absurd (never_both seps has.0 ys 1 has.1 (omega arith) satisfied))
