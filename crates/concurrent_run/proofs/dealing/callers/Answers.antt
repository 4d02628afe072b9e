use Rattle.std.proofs.Common.{◌∙◌}
use Rattle.concurrent_run.proofs.Dealt.{session_push, worker_push}
use Rattle.concurrent_run.proofs.dealing.callers.Goals as goal

pub loop-session-preserved : goal.loop-session-preserved
loop-session-preserved c = c.in_ok-push.ensures.items ∙ session_push c.loop-session.whos.items c.loop-session.session c.loop-session.invariant

pub loop-worker-preserved : goal.loop-worker-preserved
loop-worker-preserved c = c.in_ok-push-2.ensures.items ∙ worker_push c.loop-worker.whos.items c.loop-worker.worker c.loop-worker.invariant
