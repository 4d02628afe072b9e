use Rattle.std.proofs.Common.{ℕ, List, [], drop}
use Rattle.block_sums.specs.Solving.{IsActive}
use Rattle.vpsc_solve.specs.Hints.{AreLabelled, AreTaken}
use Rattle.vpsc_solve.proofs.hints.joining.Given as goal

abbrev pub invariant-loop-number : goal.invariant-loop-number
invariant-loop-number l = record {
  active : IsActive l.problem l.active.items;
  labelled : AreLabelled l.problem l.active.items l.labels.items;
  taken : (after : List ℕ) → AreTaken l.problem l.active.items (drop l.number-index l.hint) after → AreTaken l.problem [] l.hint after;
}
