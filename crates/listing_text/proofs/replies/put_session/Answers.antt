use Rattle.std.proofs.Common.{◌≡◌, ◌∙◌, ◌<◌, sym, length, drop, ◌+◌}
use Rattle.std.proofs.lemmas.Result.{err_from_is_err_and}
use Rattle.listing_text.proofs.Elements.{rest_of}
use Rattle.listing_text.proofs.Lines.{reply_lines_step}
use Rattle.listing_text.proofs.Puts.{one_more, stopped}
use Rattle.listing_text.proofs.Sessions.{has_reply, one_reply}
use Rattle.listing_text.proofs.replies.put_session.Goals as goal

pub bounds-replies-next : goal.bounds-replies-next
bounds-replies-next g c =
    let of : c.index-lines-at.result.session ≡ c.args.session = sym c.from.ensures ∙ c.if-from-session.false in
    has_reply c.args.session c.args.lines.now c.loop-at.at c.index-lines-at.result c.loop-at-test.true c.index-lines-at.is of c.loop-at.next (length c.args.replies.now) c.loop-at.invariant.as_many

pub returns-in_err-put_reply : goal.returns-in_err-put_reply
returns-in_err-put_reply g c =
    let p = err_from_is_err_and c.from_residual.result c.from_residual.ensures.1 in
    let k = c.loop-at.at in
    let n = c.loop-at.next in
    let of : c.index-lines-at.result.session ≡ c.args.session = sym c.from.ensures ∙ c.if-from-session.false in
    let within : n < length c.args.replies.now = has_reply c.args.session c.args.lines.now k c.index-lines-at.result c.loop-at-test.true c.index-lines-at.is of n (length c.args.replies.now) c.loop-at.invariant.as_many in
    rw (p.1, p.2) (stopped _ _ _ _ _ _ _ _ _ _ c.in_err-put_reply.field-0.0 c.loop-at.invariant.so_far
    (reply_lines_step c.args.session (drop k c.args.lines.now) (drop n c.args.replies.now) c.index-lines-at.result c.index-replies-next.result (drop (k + 1) c.args.lines.now) (drop (n + 1) c.args.replies.now)
    (rest_of c.args.lines.now k c.index-lines-at.result c.loop-at-test.true c.index-lines-at.is)
    (rest_of c.args.replies.now n c.index-replies-next.result within c.index-replies-next.is) of)
    c.in_err-put_reply.ensures)

pub loop-at-preserved : goal.loop-at-preserved
loop-at-preserved g c =
    let k = c.loop-at.at in
    let n = c.loop-at.next in
    let of : c.index-lines-at.result.session ≡ c.args.session = sym c.from.ensures ∙ c.if-from-session.false in
    let within : n < length c.args.replies.now = has_reply c.args.session c.args.lines.now k c.index-lines-at.result c.loop-at-test.true c.index-lines-at.is of n (length c.args.replies.now) c.loop-at.invariant.as_many in
    record {
      so_far = one_more _ _ _ _ _ _ _ _ _ _ c.loop-at.invariant.so_far
          (reply_lines_step c.args.session (drop k c.args.lines.now) (drop n c.args.replies.now) c.index-lines-at.result c.index-replies-next.result (drop (k + 1) c.args.lines.now) (drop (n + 1) c.args.replies.now)
          (rest_of c.args.lines.now k c.index-lines-at.result c.loop-at-test.true c.index-lines-at.is)
          (rest_of c.args.replies.now n c.index-replies-next.result within c.index-replies-next.is) of)
          c.in_ok-put_reply.ensures.whole c.in_ok-put_reply.ensures.calm;
      as_many = one_reply c.args.session c.args.lines.now k c.index-lines-at.result c.loop-at-test.true c.index-lines-at.is of n (length c.args.replies.now) c.loop-at.invariant.as_many;
    }
