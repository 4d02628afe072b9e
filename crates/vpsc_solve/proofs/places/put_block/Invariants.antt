use Rattle.vpsc_solve.specs.Places.{ArePut}
use Rattle.vpsc_solve.proofs.places.put_block.Given as goal

abbrev pub invariant-loop-at : goal.invariant-loop-at
invariant-loop-at l = ArePut l.block.legs.items l.block.weights.items l.block.moments.items l.at l.fn.places l.places l.fn.settled l.settled
