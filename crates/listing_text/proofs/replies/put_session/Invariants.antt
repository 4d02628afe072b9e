use Rattle.std.proofs.Common.{◌≡◌, ◌+◌, length, drop}
use Rattle.doc_book.specs.Listing.{text_lines, reply_lines, session_lines}
use Rattle.listing_text.proofs.Puts.{PutsSoFar}
use Rattle.listing_text.proofs.replies.put_session.Given as goal

abbrev pub invariant-loop-at : goal.invariant-loop-at
invariant-loop-at g l = record {
  so_far : PutsSoFar (g.K.Sink.put l.fn.sink) (g.K.Sink.put l.sink) (g.K.Sink.faults l.fn.sink) (g.K.Sink.faults l.sink)
      (text_lines (reply_lines l.session (session_lines l.session l.lines) l.replies))
      (text_lines (reply_lines l.session (session_lines l.session (drop l.at l.lines)) (drop l.next l.replies)));
  as_many : l.next + length (session_lines l.session (drop l.at l.lines)) ≡ length l.replies;
}
