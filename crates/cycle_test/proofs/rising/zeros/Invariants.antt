use Rattle.std.proofs.Common.{◌≡◌, length}
use Rattle.cycle_test.proofs.rising.zeros.Given as goal

abbrev pub invariant-loop : goal.invariant-loop
invariant-loop l = length l.places.items ≡ l.counter
