use Rattle.std.proofs.Common.{◌≡◌, ◌≤◌, take}
use Rattle.doc_book.specs.History.{frame_count}
use Rattle.summary_text.proofs.counting.frame_count.Given as goal

abbrev pub invariant-loop-at : goal.invariant-loop-at
invariant-loop-at l = (l.count ≡ frame_count (take l.at l.history)) × (l.count ≤ l.at)
