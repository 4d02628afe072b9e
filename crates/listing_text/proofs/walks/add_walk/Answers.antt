use Rattle.listing_text.proofs.Lines.{arcs_more, grows}
use Rattle.listing_text.proofs.walks.add_walk.Goals as goal

pub loop-at-preserved : goal.loop-at-preserved
loop-at-preserved c =
    grows _ _ _ _ _ _ c.in_ok-add_arc.ensures (arcs_more c.args.arcs.now c.loop-at.at _ c.loop-at-test.true) c.loop-at.invariant
