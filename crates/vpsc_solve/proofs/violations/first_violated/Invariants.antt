use Rattle.std.proofs.Common.{◌<◌, ℕ, None}
use Rattle.vpsc_solve.specs.Places.{IsBrokenAt}
use Rattle.vpsc_solve.proofs.violations.first_violated.Given as goal

abbrev pub invariant-loop-number : goal.invariant-loop-number
invariant-loop-number l = (k : ℕ) → k < l.number → IsBrokenAt l.problem l.places k None
