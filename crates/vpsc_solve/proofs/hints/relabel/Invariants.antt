use Rattle.std.proofs.Common.{◌≡◌, ◌<◌, ◌≤◌, ℕ}
use Rattle.vpsc_solve.specs.Hints.{label_at, relabelled}
use Rattle.vpsc_solve.proofs.hints.relabel.Given as goal

abbrev pub invariant-loop-label : goal.invariant-loop-label
invariant-loop-label l = record {
  done : (i : ℕ) → i < l.label-index → label_at l.labels i ≡ relabelled l.from l.to (label_at l.fn.labels i);
  rest : (i : ℕ) → l.label-index ≤ i → label_at l.labels i ≡ label_at l.fn.labels i;
}
