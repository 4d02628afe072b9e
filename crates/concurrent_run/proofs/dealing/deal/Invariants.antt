use Rattle.concurrent_run.proofs.Dealt.{AreDealt}
use Rattle.concurrent_run.proofs.dealing.deal.Given as goal

abbrev pub invariant-loop-pass : goal.invariant-loop-pass
invariant-loop-pass l = AreDealt l.fn.book l.yielded l.sessions.items l.others.items
