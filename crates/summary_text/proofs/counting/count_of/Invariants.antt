use Rattle.std.proofs.Common.{◌≡◌, ◌≤◌, ◌*◌, take}
use Rattle.summary_text.specs.Counts.{count_of}
use Rattle.summary_text.proofs.counting.count_of.Given as goal

abbrev pub invariant-loop-at : goal.invariant-loop-at
invariant-loop-at l = (l.count ≡ count_of l.which (take l.at l.replies)) × (l.count ≤ 2000 * l.at)
