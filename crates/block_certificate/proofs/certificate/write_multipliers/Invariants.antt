use Rattle.block_certificate.specs.Values.{AreWritten}
use Rattle.block_certificate.proofs.certificate.write_multipliers.Given as goal

abbrev pub invariant-loop-at : goal.invariant-loop-at
invariant-loop-at l = AreWritten l.block.legs.items l.block.weights.items l.block.moments.items l.at l.initial.multipliers l.multipliers
