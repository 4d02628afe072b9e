use Rattle.std.proofs.Common.{arith, ap, ◌∙◌, ◌≤◌}
use Rattle.doc_book.specs.Replies.{after_of}
use Rattle.concurrent_run.proofs.Latest.{more_replies, all_taken}
use Rattle.concurrent_run.proofs.lead.after_replies.Goals as goal

pub loop-reply-preserved : goal.loop-reply-preserved
loop-reply-preserved c = let m = c.max-front.ensures in more_replies c.args.replies.now c.loop-reply.reply-index c.loop-reply.front c.after.result c.max-front.result c.reply-item.result c.loop-reply-test.true c.loop-reply.invariant (c.after.ensures ∙ ap after_of c.reply-item.is) (omega (arith, m)) (omega (arith, m))

pub returns : goal.returns
returns c = all_taken (λ r. after_of r ≤ c.loop-reply.front) c.args.replies.now c.loop-reply.reply-index c.loop-reply-test.false c.loop-reply.auto.reply-index-end c.loop-reply.invariant
