use Rattle.concurrent_run.proofs.Turning.{ended_behind}
use Rattle.concurrent_run.proofs.lead.end.Goals as goal

pub returns-then-try_end-clause-ended : goal.returns-then-try_end-clause-ended
returns-then-try_end-clause-ended g c = ended_behind c.args.book.now c.args.run.now c.loop.run c.try_end.new.run c.loop.invariant.0 c.loop.invariant.1 c.if-try_end.ensures.ended
