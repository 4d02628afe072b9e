use Rattle.byte_edge.proofs.Front.{puts_more_from}
use Rattle.byte_edge.proofs.writing.put_all.Goals as goal

pub loop-at-preserved : goal.loop-at-preserved
loop-at-preserved g c = puts_more_from _ _ _ _ _ _ _ _ _ c.loop-at.invariant c.in_ok-count.ensures.fits c.in_ok-count.ensures.grown c.in_ok-count.ensures.calm
