use Rattle.std.proofs.Common.{◌≡◌, [], replicate}
use Rattle.session_run.proofs.alone.no_replies.Given as goal

abbrev pub invariant-loop : goal.invariant-loop
invariant-loop l = l.lists.items ≡ replicate l.counter []
