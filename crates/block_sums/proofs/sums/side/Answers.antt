use Rattle.std.proofs.Common.{length, ◌∙◌}
use Rattle.block_sums.proofs.Balancing.{below-rest}
use Rattle.block_sums.proofs.sums.side.Goals as goal

pub sums_of-requires-clause-below : goal.sums_of-requires-clause-below
sums_of-requires-clause-below c = below-rest c.args.active.now c.deref.result.now c.args.sep (length c.args.problem.now.separations) (c.deref.ensures.value ∙ c.in_ok-rest.ensures) c.requires.open.below
