use Rattle.concurrent_run.proofs.Turning.{led}
use Rattle.concurrent_run.proofs.lead.lead.Goals as goal

pub returns-clause-led : goal.returns-clause-led
returns-clause-led g c = led c.args.book.now c.args.run.now c.catch_up.new.run c.end.new.run c.play_all.new.sessions c.after_sessions-front.result c.requires.run.2 c.catch_up.ensures.went c.catch_up.ensures.own c.catch_up.ensures.front c.after_sessions-front.ensures c.end.ensures.went c.end.ensures.ended
