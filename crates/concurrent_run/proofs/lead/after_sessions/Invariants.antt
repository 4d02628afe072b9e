use Rattle.std.proofs.Common.{take, All}
use Rattle.concurrent_run.specs.Leading.{AllBefore}
use Rattle.concurrent_run.proofs.lead.after_sessions.Given as goal

abbrev pub invariant-loop-session : goal.invariant-loop-session
invariant-loop-session l = All (AllBefore l.front) (take l.session-index l.sessions)
