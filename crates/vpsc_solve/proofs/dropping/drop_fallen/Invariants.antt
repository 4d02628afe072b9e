use Rattle.std.proofs.Common.{ℕ, List, length}
use Rattle.block_sums.specs.Solving.{IsActive}
use Rattle.vpsc_solve.specs.Hints.{AreDropped}
use Rattle.vpsc_solve.proofs.dropping.drop_fallen.Given as goal

abbrev pub invariant-drops : goal.invariant-drops
invariant-drops l = record {
  active : IsActive l.problem l.active.items;
  dropped : (ks after : List ℕ) → AreDropped l.problem l.active.items ks after → (all : List ℕ) × AreDropped l.problem l.fn.active.items all after;
}

abbrev pub decreases-drops : goal.decreases-drops
decreases-drops l = length l.active.items
