use Rattle.std.proofs.Common.{◌≢◌, ◌<◌, ℕ}
use Rattle.block_sums.specs.Legs.{variable_at}
use Rattle.block_sums.proofs.blocks.is_reached.Given as goal

abbrev pub invariant-loop-leg : goal.invariant-loop-leg
invariant-loop-leg l = (j : ℕ) → j < l.leg-index → variable_at l.legs j ≢ l.variable
