use Rattle.std.proofs.Common.{ℕ, ℤ, length}
use Rattle.block_sums.specs.Solving.{Active, IsActive}
use Rattle.vpsc_solve.specs.Stops.{IsUnderWay, AreTouched, DiffersAt}
use Rattle.vpsc_solve.proofs.closing.close_gap.Given as goal

abbrev pub invariant-stops : goal.invariant-stops
invariant-stops l = record {
  active : IsActive l.problem l.active.items;
  off : ¬ Active l.active.items l.closing;
  own : AreTouched l.problem l.touched.items l.closing;
  differs : DiffersAt l.problem l.fn.active.items l.active.items l.touched.items;
  way : (bound : ℤ) (factor : ℕ) → IsUnderWay l.problem (Active l.fn.active.items) l.closing bound factor → IsUnderWay l.problem (Active l.active.items) l.closing bound factor;
}

abbrev pub decreases-stops : goal.decreases-stops
decreases-stops l = length l.active.items
