use Rattle.std.proofs.Common.{◌<◌, rules, length}
use Rattle.vpsc_solve.proofs.Placing.{put-first, put-next}
use Rattle.vpsc_solve.proofs.places.put_block.Goals as goal

pub loop-at-init : goal.loop-at-init
loop-at-init c = put-first c.args.block.now.legs.items c.args.block.now.weights.items c.args.block.now.moments.items c.args.places.now c.args.settled.now

pub loop-at-preserved : goal.loop-at-preserved
loop-at-preserved c =
    let b = c.args.block.now in
    let among : c.loop-at.at < length b.legs.items = search rules in
    let fits : c.index.result.now.variable < length c.loop-at.places = search rules in
    let fits' : c.index.result.now.variable < length c.loop-at.settled = search rules in
    put-next b.legs.items b.weights.items b.moments.items c.loop-at.at c.args.places.now c.loop-at.places c.args.settled.now c.loop-at.settled c.index.result.now c.place_of-place.result among c.index.ensures fits fits' c.place_of-place.ensures c.loop-at.invariant
