use Rattle.std.proofs.Common.{◌≡◌, ◌<◌, ℕ, length, get_or}
use Rattle.axis_project.proofs.joining.alone.Given as goal

abbrev pub invariant-loop-var : goal.invariant-loop-var
invariant-loop-var l = record {
  as_long : length l.labels.items ≡ l.var;
  own : (v : ℕ) → v < l.var → get_or l.labels.items v 0 ≡ v;
}
