use Rattle.std.proofs.Common.{length, ◌∙◌, rules}
use Rattle.block_sums.proofs.Balancing.{below-rest, pull-of}
use Rattle.block_sums.proofs.sums.pull.Goals as goal

pub sums_of-requires-2-clause-below : goal.sums_of-requires-2-clause-below
sums_of-requires-2-clause-below c = below-rest c.args.active.now c.deref.result.now c.args.sep (length c.args.problem.now.separations) (c.deref.ensures.value ∙ c.in_ok-rest.ensures) c.requires.open.below

pub returns : goal.returns
returns c =
    pull-of c.args.problem.now c.args.active.now c.args.sep c.in_ok-whole.whole.weight c.in_ok-whole.whole.moment c.in_ok-side.side.weight c.in_ok-side.side.moment c.pulled.result _ c.deref.result.now c.reduced.result c.of.result
    c.in_ok-whole.ensures.above (search rules) (c.deref.ensures.value ∙ c.in_ok-rest.ensures) c.in_ok-whole.ensures.sums c.in_ok-side.ensures.sums c.pulled.ensures.value (search rules) c.reduced.ensures.same c.reduced.ensures.lowest
