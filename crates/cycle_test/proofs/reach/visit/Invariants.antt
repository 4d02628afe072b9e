use Rattle.std.proofs.Common.{◌≡◌, nat_eq, false, take}
use Rattle.std.specs.List.{list_any}
use Rattle.cycle_test.specs.Cycle.{starts}
use Rattle.cycle_test.proofs.reach.visit.Given as goal

-- no arc passed so far starts at the variable
abbrev pub invariant-loop-k : goal.invariant-loop-k
invariant-loop-k l = list_any (nat_eq l.variable) (starts l.seps (take l.k l.path)) ≡ false
