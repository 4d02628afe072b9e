use Rattle.vpsc_solve.proofs.Placing.{legs-near, block-settled, root-settled, still-settled}
use Rattle.vpsc_solve.proofs.places.settle_block.Goals as goal

pub put_block-requires-clause-near : goal.put_block-requires-clause-near
put_block-requires-clause-near c = legs-near c.args.problem.now c.args.active.now c.args.root c.in_ok-block.block.legs.items c.in_ok-block.ensures.sums.tree.tree c.in_ok-block.ensures.bounded.short

pub returns-clause-so_far : goal.returns-clause-so_far
returns-clause-so_far c =
    let b = c.in_ok-block.block in
    let e = c.in_ok-block.ensures in
    λ before h. block-settled c.args.problem.now c.args.active.now c.args.root b.legs.items b.weights.items b.moments.items before c.args.places.now c.put_block.new.places c.args.settled.now c.put_block.new.settled
    c.requires.active e.sums e.bounded e.heavy e.within c.put_block.ensures h

pub returns-clause-there : goal.returns-clause-there
returns-clause-there c =
    let b = c.in_ok-block.block in
    root-settled c.args.problem.now c.args.active.now c.args.root b.legs.items b.weights.items b.moments.items c.args.places.now c.put_block.new.places c.args.settled.now c.put_block.new.settled c.in_ok-block.ensures.sums c.put_block.ensures

pub returns-clause-still : goal.returns-clause-still
returns-clause-still c =
    let b = c.in_ok-block.block in
    λ i e. still-settled b.legs.items b.weights.items b.moments.items c.args.places.now c.put_block.new.places c.args.settled.now c.put_block.new.settled i c.put_block.ensures e
