use Rattle.std.proofs.Common.{◌≡◌, [], take, drop}
use Rattle.edit_rules.specs.Refusals.{first_twice}
use Rattle.edit_rules.proofs.repeats.first_twice.Given as goal

abbrev pub invariant-loop-at : goal.invariant-loop-at
invariant-loop-at l = first_twice [] l.names ≡ first_twice (take l.at l.names) (drop l.at l.names)
