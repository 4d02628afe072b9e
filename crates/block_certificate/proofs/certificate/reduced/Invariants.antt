use Rattle.std.proofs.Common.{take}
use Rattle.block_certificate.specs.Values.{AreReduced}
use Rattle.block_certificate.proofs.certificate.reduced.Given as goal

abbrev pub invariant-loop-fraction : goal.invariant-loop-fraction
invariant-loop-fraction l = AreReduced (take l.fraction-index l.fractions) l.lowest.items
