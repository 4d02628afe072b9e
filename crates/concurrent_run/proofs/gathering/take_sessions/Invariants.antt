use Rattle.std.proofs.Common.{◌≡◌, ◌++◌, map, Some}
use Rattle.std.specs.Vec.{vec_capacity}
use Rattle.concurrent_run.specs.Gathering.{session_pass, session_replies}
use Rattle.concurrent_run.proofs.gathering.take_sessions.Given as goal

abbrev pub invariant-loop-session : goal.invariant-loop-session
invariant-loop-session l = record {
  passes : l.passes.items ≡ l.fn.passes.items ++ map session_pass l.yielded;
  lists : map Some l.lists.items ≡ map session_replies l.yielded;
  room : vec_capacity l.passes ≡ vec_capacity l.fn.passes;
  space : vec_capacity l.lists ≡ vec_capacity l.fn.lists;
}
