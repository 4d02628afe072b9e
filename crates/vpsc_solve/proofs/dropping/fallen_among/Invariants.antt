use Rattle.std.proofs.Common.{◌≡◌, ◌<◌, ℕ, true, get_or}
use Rattle.units.specs.Separation.{separation_at}
use Rattle.vpsc_solve.specs.Places.{is_settled}
use Rattle.vpsc_solve.specs.Hints.{AreSeen}
use Rattle.vpsc_solve.proofs.dropping.fallen_among.Given as goal

abbrev pub invariant-loop-number : goal.invariant-loop-number
invariant-loop-number l = record {
  seen : AreSeen l.problem l.active l.seen;
  all : (i : ℕ) → i < l.number-index → is_settled l.seen (separation_at l.problem.separations (get_or l.active i 0)).left ≡ true;
}
