use Rattle.std.proofs.Common.{◌≡◌, ◌≤◌, take}
use Rattle.std.specs.Prelude.{count_by}
use Rattle.summary_text.specs.Counts.{is_verdict}
use Rattle.summary_text.proofs.counting.count_in.Given as goal

abbrev pub invariant-loop-at : goal.invariant-loop-at
invariant-loop-at l = (l.count ≡ count_by (is_verdict l.which) (take l.at l.replies)) × (l.count ≤ l.at)
