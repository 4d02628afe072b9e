use Rattle.block_sums.proofs.Climbing.{IsClimbing}
use Rattle.block_sums.proofs.paths.path.Given as goal

abbrev pub invariant-loop-at : goal.invariant-loop-at
invariant-loop-at l = IsClimbing l.problem.separations l.active l.legs.items l.from l.at l.steps

abbrev pub decreases-loop-at : goal.decreases-loop-at
decreases-loop-at l = l.at
