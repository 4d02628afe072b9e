use Rattle.std.proofs.lemmas.Result.{err_from_is_err_and}
use Rattle.session_run.proofs.Playing.{IsPlayedAlone-more, IsPlayedInPart-at}
use Rattle.session_run.proofs.alone.play_lines.Goals as goal

pub loop-line-preserved : goal.loop-line-preserved
loop-line-preserved g c =
    IsPlayedAlone-more _ _ _ c.args.lines.now c.loop-line.line-index c.loop-line.lists.items _ c.line-item.result
    c.loop-line.invariant c.requires.lines c.loop-line-test.true c.line-item.is c.in_ok-play_next.ensures

pub returns-in_err-play_next : goal.returns-in_err-play_next
returns-in_err-play_next g c =
    let p = err_from_is_err_and c.from_residual-in_err-play_next.result c.from_residual-in_err-play_next.ensures.1 in
    rw p.1 (IsPlayedInPart-at c.args.book.now c.loop-line.book c.play_next.new.book c.args.lines.now c.loop-line.line-index c.loop-line.lists.items c.line-item.result
    c.loop-line.invariant c.loop-line-test.true c.line-item.is c.in_err-play_next.ensures)
