use Rattle.std.proofs.Common.{◌≡◌, sym, subst}
use Rattle.std.specs.Prelude.{MatchBool}
use Rattle.concurrent_run.specs.Leading.{IsEnded}
use Rattle.concurrent_run.proofs.Turning.{entered_went, entered_ended}
use Rattle.concurrent_run.proofs.lead.try_end.Goals as goal

pub returns-clause-went : goal.returns-clause-went
returns-clause-went g c = entered_went c.args.book.now c.args.run.now c.end.new.pass c.end.result c.requires c.end.ensures.same c.end.ensures.turn

pub returns-clause-ended : goal.returns-clause-ended
returns-clause-ended g c = subst (λ b. MatchBool b (IsEnded c.args.run.now c.end.new.pass) (c.end.new.pass.own ≡ c.args.run.now.own)) (sym c.stands.ensures) (entered_ended c.args.book.now.terms.frames c.args.run.now c.end.new.pass c.end.result c.end.ensures.turn)
