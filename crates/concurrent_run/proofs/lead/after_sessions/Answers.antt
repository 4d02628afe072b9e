use Rattle.std.proofs.Common.{arith, subst}
use Rattle.concurrent_run.specs.Leading.{AllBefore}
use Rattle.concurrent_run.proofs.Latest.{more_sessions, all_taken}
use Rattle.concurrent_run.proofs.lead.after_sessions.Goals as goal

pub loop-session-preserved : goal.loop-session-preserved
loop-session-preserved c = let m = c.max-front.ensures in more_sessions c.args.sessions.now c.loop-session.session-index c.loop-session.front c.after_session.result c.max-front.result c.session-item.result c.loop-session-test.true c.loop-session.invariant
    (subst (λ s. AllBefore c.after_session.result s) c.session-item.is c.after_session.ensures) (omega (arith, m)) (omega (arith, m))

pub returns : goal.returns
returns c = all_taken (AllBefore c.loop-session.front) c.args.sessions.now c.loop-session.session-index c.loop-session-test.false c.loop-session.auto.session-index-end c.loop-session.invariant
