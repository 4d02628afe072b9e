use Rattle.std.proofs.Common.{◌+◌, ap, arith}
use Rattle.sep_gen.specs.Counted.{compound_count}
use Rattle.sep_gen.proofs.Counts.{sum-next}
use Rattle.sep_gen.proofs.counting.of_compounds.Goals as goal

pub loop-at-preserved : goal.loop-at-preserved
loop-at-preserved c =
    let few = c.of_rule-total.ensures.few in
    let so_far = c.loop-at.invariant.1 in (
      sum-next (compound_count c.args.axis c.args.scene.now.guides) c.args.scene.now.compounds c.loop-at.at c.compound.result.now c.loop-at.total _ _ c.compound.ensures.value (ap (λ n. c.loop-at.total + n) c.of_rule-total.ensures.value) c.loop-at.invariant.0,
      omega arith,
    )
