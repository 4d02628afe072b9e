use Rattle.std.proofs.Common.{◌≡◌, ◌*◌, ◌-◌, length}
use Rattle.cycle_test.specs.Search.{IsState, value_sum}
use Rattle.cycle_test.proofs.verdict.test.Given as goal

abbrev pub invariant-rounds : goal.invariant-rounds
invariant-rounds l = (length l.reaches.items ≡ l.n) × IsState l.seps l.reaches.items

abbrev pub decreases-rounds : goal.decreases-rounds
decreases-rounds l = l.n * (1000000 * l.n) - value_sum l.reaches.items
