use Rattle.std.proofs.Common.{rules}
use Rattle.block_sums.proofs.Climbing.{found-all}
use Rattle.block_sums.proofs.blocks.block.Goals as goal

pub returns : goal.returns
returns c =
    found-all c.args.problem.now c.args.active.now c.args.v _ c.in_ok-legs.legs.items c.deref.result.now c.reached_below.result c.in_ok-legs.ensures.tree c.in_ok-legs.ensures.within (search rules) c.deref.ensures.value c.reached_below.ensures
