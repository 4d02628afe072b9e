use Rattle.std.proofs.Common.{ℕ, ◌<◌}
use Rattle.units.specs.Separation.{Satisfies, separation_at}
use Rattle.cycle_test.proofs.rising.are_met.Given as goal

-- the first ones are satisfied
abbrev pub invariant-loop-at : goal.invariant-loop-at
invariant-loop-at l = (i : ℕ) → i < l.at → Satisfies l.places 1 (separation_at l.seps i)
