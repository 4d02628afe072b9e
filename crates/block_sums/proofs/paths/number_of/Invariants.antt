use Rattle.std.proofs.Common.{◌≢◌, ◌-◌, ◌<◌, ℕ, length}
use Rattle.block_sums.specs.Legs.{variable_at}
use Rattle.block_sums.proofs.paths.number_of.Given as goal

abbrev pub invariant-loop-number : goal.invariant-loop-number
invariant-loop-number l = (j : ℕ) → j < l.number → variable_at l.legs j ≢ l.variable

abbrev pub decreases-loop-number : goal.decreases-loop-number
decreases-loop-number l = length l.legs - l.number
