use Rattle.std.proofs.Common.{◌≡◌}
use Rattle.concurrent_run.specs.Leading.{WentOn}
use Rattle.concurrent_run.proofs.lead.end.Given as goal

abbrev pub invariant-loop : goal.invariant-loop
invariant-loop g l = WentOn l.fn.book l.fn.run l.run × (l.run.own ≡ l.fn.run.own)
