use Rattle.std.proofs.Common.{ap}
use Rattle.std.specs.Option.{is_some}
use Rattle.editor_run.proofs.Concurrent.{last_ended, beside_to_end}
use Rattle.editor_run.proofs.beside.play_beside.Goals as goal

pub finish_all-requires-clause-ended : goal.finish_all-requires-clause-ended
finish_all-requires-clause-ended g c κs within = ap is_some c.in_ok-beside.ensures.ended

pub finish_all-requires-clause-last : goal.finish_all-requires-clause-last
finish_all-requires-clause-last g c κs within = last_ended c.in_ok-beside.beside.book.history c.in_ok-beside.ensures.place c.in_ok-beside.ensures.ended c.in_ok-beside.ensures.last

pub returns : goal.returns
returns g c =
    beside_to_end c.args.frames c.args.workers c.args.script.now c.in_ok-beside.beside.book c.finish_all.new.book c.in_ok-beside.beside.replies c.in_ok-beside.beside.tallies
    c.in_ok-beside.ensures c.in_ok-finish_all.ensures.grown c.requires.workers.0 c.history-legal.ensures.legal c.in_ok-finish_all.ensures.finished
