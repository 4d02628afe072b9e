use Rattle.std.proofs.Common.{◌≡◌, take}
use Rattle.cycle_test.specs.Search.{values}
use Rattle.cycle_test.proofs.verdict.places_of.Given as goal

abbrev pub invariant-loop-reach : goal.invariant-loop-reach
invariant-loop-reach l = l.places.items ≡ values (take l.reach-index l.reaches)
