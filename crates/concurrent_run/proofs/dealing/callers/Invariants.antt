use Rattle.std.proofs.Common.{◌≡◌, ◌++◌}
use Rattle.turn_table.specs.Counting.{numbers_from}
use Rattle.concurrent_run.proofs.dealing.callers.Given as goal

abbrev pub invariant-loop-session : goal.invariant-loop-session
invariant-loop-session l = l.whos.items ≡ numbers_from 1 l.session

abbrev pub invariant-loop-worker : goal.invariant-loop-worker
invariant-loop-worker l = l.whos.items ≡ numbers_from 1 8 ++ numbers_from 11 l.worker
