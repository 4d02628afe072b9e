use Rattle.block_certificate.specs.Values.{ArePlaced}
use Rattle.block_certificate.proofs.certificate.write_places.Given as goal

abbrev pub invariant-loop-at : goal.invariant-loop-at
invariant-loop-at l = ArePlaced l.block.legs.items l.block.weights.items l.block.moments.items l.at l.initial.places l.places l.initial.placed l.placed
