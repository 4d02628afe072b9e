use Rattle.std.proofs.Common.{◌≡◌, replicate, []}
use Rattle.cycle_test.proofs.verdict.unreached.Given as goal

abbrev pub invariant-loop : goal.invariant-loop
invariant-loop l = l.reaches.items ≡ replicate l.counter (record { value = 0; path = [] })
