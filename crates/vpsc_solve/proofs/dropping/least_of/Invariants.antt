use Rattle.vpsc_solve.specs.Hints.{IsLeastOf}
use Rattle.vpsc_solve.proofs.dropping.least_of.Given as goal

abbrev pub invariant-loop-at : goal.invariant-loop-at
invariant-loop-at l = IsLeastOf l.seps l.block.legs.items l.block.weights.items l.block.moments.items l.at l.least
