use Rattle.vpsc_solve.proofs.Negative.{least-next}
use Rattle.vpsc_solve.proofs.dropping.least_of.Goals as goal

pub loop-at-preserved : goal.loop-at-preserved
loop-at-preserved c = least-next c.args.seps.now c.args.block.now.legs.items c.args.block.now.weights.items c.args.block.now.moments.items c.loop-at.at c.loop-at.least c.fallen_at.result c.lower-least.result c.loop-at.invariant c.fallen_at.ensures c.lower-least.ensures
