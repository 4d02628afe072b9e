use Rattle.std.proofs.Common.{◌+◌, drop}
use Rattle.doc_book.specs.Listing.{text_lines, sessions_lines}
use Rattle.listing_text.specs.Replies.{SessionsHaveReplies}
use Rattle.listing_text.proofs.Puts.{PutsSoFar}
use Rattle.listing_text.proofs.replies.put_replies.Given as goal

abbrev pub invariant-loop-index : goal.invariant-loop-index
invariant-loop-index g l = record {
  so_far : PutsSoFar (g.K.Sink.put l.fn.sink) (g.K.Sink.put l.sink) (g.K.Sink.faults l.fn.sink) (g.K.Sink.faults l.sink)
      (text_lines (sessions_lines 1 l.lines l.replies)) (text_lines (sessions_lines (l.index + 1) l.lines (drop l.index l.replies)));
  have : SessionsHaveReplies (l.index + 1) l.lines (drop l.index l.replies);
}
