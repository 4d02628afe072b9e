use Rattle.std.proofs.Common.{◌∙◌}
use Rattle.concurrent_run.proofs.Turning.{asked_seen, asked_went, asked_own}
use Rattle.concurrent_run.proofs.lead.seen.Goals as goal

pub returns-clause-went : goal.returns-clause-went
returns-clause-went g c = asked_went c.args.book.now c.args.run.now c.ask.new.pass c.unwrap-name.result c.ask.result c.requires c.ask.ensures.same c.ask.ensures.turn

pub returns-clause-own : goal.returns-clause-own
returns-clause-own g c = asked_own c.args.book.now c.args.run.now c.ask.new.pass c.unwrap-name.result c.ask.result c.requires c.ask.ensures.same c.ask.ensures.turn

pub returns-clause-seen : goal.returns-clause-seen
returns-clause-seen g c = c.front_of.ensures ∙ asked_seen c.args.book.now c.args.run.now c.ask.new.pass c.unwrap-name.result c.ask.result c.requires c.ask.ensures.same c.ask.ensures.turn
