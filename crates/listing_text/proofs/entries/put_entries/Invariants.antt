use Rattle.std.proofs.Common.{◌≡◌, ℕ, [], take, drop}
use Rattle.doc_book.specs.History.{standing}
use Rattle.doc_book.specs.Legal.{AllMayFollow}
use Rattle.doc_book.specs.Listing.{text_lines, entry_lines}
use Rattle.listing_text.proofs.Puts.{PutsSoFar}
use Rattle.listing_text.proofs.entries.put_entries.Given as goal

abbrev pub invariant-loop-place : goal.invariant-loop-place
invariant-loop-place g l = record {
  so_far : PutsSoFar (g.K.Sink.put l.fn.sink) (g.K.Sink.put l.sink) (g.K.Sink.faults l.fn.sink) (g.K.Sink.faults l.sink)
      (text_lines (entry_lines [] 0 l.history)) (text_lines (entry_lines (take l.place l.history) l.place (drop l.place l.history)));
  edits : l.stand ≡ standing (take l.place l.history);
  legal : (budget : ℕ) × AllMayFollow (take l.place l.history) budget (drop l.place l.history);
}
