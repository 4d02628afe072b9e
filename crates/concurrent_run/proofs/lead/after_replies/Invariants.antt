use Rattle.std.proofs.Common.{◌≤◌, take, All}
use Rattle.doc_book.specs.Replies.{after_of}
use Rattle.concurrent_run.proofs.lead.after_replies.Given as goal

abbrev pub invariant-loop-reply : goal.invariant-loop-reply
invariant-loop-reply l = All (λ r. after_of r ≤ l.front) (take l.reply-index l.replies)
