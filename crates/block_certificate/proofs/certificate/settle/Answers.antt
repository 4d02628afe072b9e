use Rattle.block_certificate.proofs.Resting.{offsets-near}
use Rattle.block_certificate.proofs.Settling.{settles}
use Rattle.block_certificate.proofs.certificate.settle.Goals as goal

pub write_places-requires-clause-near : goal.write_places-requires-clause-near
write_places-requires-clause-near c = offsets-near c.args.problem.now.separations c.args.active.now c.args.root _ c.in_ok-block.ensures.sums.tree.tree c.in_ok-block.ensures.bounded.short

pub returns : goal.returns
returns c =
    let b = c.in_ok-block.block in
    let e = c.in_ok-block.ensures in
    settles c.args.problem.now c.args.active.now c.args.root b.legs.items b.weights.items b.moments.items c.args.places.now c.write_places.new.places c.args.multipliers.now c.write_multipliers.new.multipliers
    c.args.placed.now c.write_places.new.placed
    (record { bounded = c.requires.bounded; forest = c.requires.active; sums = e.sums; within = e.within; short = e.bounded.short; heavy = e.heavy; tells = e.tells })
    c.requires.settled c.write_multipliers.ensures c.write_places.ensures
