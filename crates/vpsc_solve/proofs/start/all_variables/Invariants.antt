use Rattle.std.proofs.Common.{◌≡◌, ◌<◌, ℕ, length, get_or}
use Rattle.vpsc_solve.proofs.start.all_variables.Given as goal

abbrev pub invariant-loop-variable : goal.invariant-loop-variable
invariant-loop-variable l = record {
  counted : length l.all.items ≡ l.variable;
  each : (k : ℕ) → k < l.variable → get_or l.all.items k 0 ≡ k;
}
