use Rattle.vpsc_solve.specs.Hints.{AreMarked}
use Rattle.vpsc_solve.proofs.dropping.mark.Given as goal

abbrev pub invariant-loop-leg : goal.invariant-loop-leg
invariant-loop-leg l = AreMarked l.legs l.leg-index l.fn.seen l.seen
