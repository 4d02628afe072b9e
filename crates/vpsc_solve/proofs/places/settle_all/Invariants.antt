use Rattle.std.proofs.Common.{◌≡◌, ◌<◌, ℕ, get_or, true}
use Rattle.vpsc_solve.specs.Places.{is_settled, AreSettled}
use Rattle.vpsc_solve.proofs.places.settle_all.Given as goal

abbrev pub invariant-loop-root : goal.invariant-loop-root
invariant-loop-root l = record {
  settled : AreSettled l.problem l.active l.fn.places l.places l.settled;
  roots : (k : ℕ) → k < l.root-index → is_settled l.settled (get_or l.roots k 0) ≡ true;
}
