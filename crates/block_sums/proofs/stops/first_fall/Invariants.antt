use Rattle.block_sums.specs.Stops.{IsFirst}
use Rattle.block_sums.proofs.stops.first_fall.Given as goal

abbrev pub invariant-loop-at : goal.invariant-loop-at
invariant-loop-at l = IsFirst l.seps l.pushed.block.legs.items l.pushed.block.weights.items l.pushed.block.moments.items l.pushed.marks.items l.at l.fn.before l.first
