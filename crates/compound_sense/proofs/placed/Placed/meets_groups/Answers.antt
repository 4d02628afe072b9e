use Rattle.scene_model.specs.Meaning.{MeetsGroup}
use Rattle.compound_sense.proofs.Rests.{all-next}
use Rattle.compound_sense.proofs.placed.Placed.meets_groups.Goals as goal

pub loop-at-preserved : goal.loop-at-preserved
loop-at-preserved c =
    all-next (MeetsGroup c.args.self.now.scene.now c.args.self.now.axis c.args.self.now.places.now c.args.self.now.denominator) c.args.self.now.scene.now.groups c.loop-at.at c.group.result.now c.meets_group.result c.group.ensures.value c.if-not-meets_group.false c.meets_group.ensures c.loop-at.invariant
