use Rattle.std.proofs.lemmas.Result.{err_from_is_err_and}
use Rattle.listing_text.proofs.Puts.{one_more, stopped}
use Rattle.listing_text.proofs.Sessions.{sessions_step, replies_next}
use Rattle.listing_text.proofs.replies.put_replies.Goals as goal

pub returns-in_err-put_session : goal.returns-in_err-put_session
returns-in_err-put_session g c =
    let p = err_from_is_err_and c.from_residual.result c.from_residual.ensures.1 in
    rw (p.1, p.2) (stopped _ _ _ _ _ _ _ _ _ _ c.in_err-put_session.field-0.0 c.loop-index.invariant.so_far
    (sessions_step c.args.lines.now c.args.replies.now c.loop-index.index c.index-replies-index.result c.loop-index-test.true c.index-replies-index.is c.as_slice.result.now c.as_slice.ensures)
    c.in_err-put_session.ensures)

pub put_session-requires : goal.put_session-requires
put_session-requires g c =
    (replies_next c.args.lines.now c.args.replies.now c.loop-index.index c.index-replies-index.result c.loop-index-test.true c.index-replies-index.is c.as_slice.result.now c.as_slice.ensures
    c.loop-index.invariant.have).0.as_many

pub loop-index-preserved : goal.loop-index-preserved
loop-index-preserved g c = record {
  so_far = one_more _ _ _ _ _ _ _ _ _ _ c.loop-index.invariant.so_far
      (sessions_step c.args.lines.now c.args.replies.now c.loop-index.index c.index-replies-index.result c.loop-index-test.true c.index-replies-index.is c.as_slice.result.now c.as_slice.ensures)
      c.in_ok-put_session.ensures.whole c.in_ok-put_session.ensures.calm;
  have = (replies_next c.args.lines.now c.args.replies.now c.loop-index.index c.index-replies-index.result c.loop-index-test.true c.index-replies-index.is c.as_slice.result.now c.as_slice.ensures
      c.loop-index.invariant.have).1;
}
