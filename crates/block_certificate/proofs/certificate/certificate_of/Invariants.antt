use Rattle.block_certificate.specs.Values.{AreSettled}
use Rattle.block_certificate.proofs.certificate.certificate_of.Given as goal

abbrev pub invariant-loop-root : goal.invariant-loop-root
invariant-loop-root l = AreSettled l.problem l.active l.root l.places.items l.multipliers.items l.placed.items
