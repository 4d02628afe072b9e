use Rattle.std.proofs.Common.{◌+◌, ap, arith}
use Rattle.sep_gen.specs.Counted.{group_count}
use Rattle.sep_gen.proofs.Counts.{sum-next}
use Rattle.sep_gen.proofs.counting.of_groups.Goals as goal

pub loop-at-preserved : goal.loop-at-preserved
loop-at-preserved c =
    let few = c.of_grouped-total.ensures.few in
    let so_far = c.loop-at.invariant.1 in (
      sum-next group_count c.args.scene.now.groups c.loop-at.at c.group.result.now c.loop-at.total _ _ c.group.ensures.value (ap (λ n. c.loop-at.total + n) c.of_grouped-total.ensures.value) c.loop-at.invariant.0,
      omega arith,
    )
