use Rattle.block_sums.proofs.Soonest.{first-none, first-step}
use Rattle.block_sums.proofs.stops.first_fall.Goals as goal

pub loop-at-init : goal.loop-at-init
loop-at-init c = first-none _ _ _ _ _ _ c.requires.before

pub loop-at-preserved : goal.loop-at-preserved
loop-at-preserved c = first-step c.args.seps.now c.args.pushed.now.block.legs.items c.args.pushed.now.block.weights.items c.args.pushed.now.block.moments.items c.args.pushed.now.marks.items c.loop-at.at c.args.before c.loop-at.first c.threshold_at.result c.earlier-first.result c.requires.before c.loop-at.invariant c.threshold_at.ensures c.earlier-first.ensures
