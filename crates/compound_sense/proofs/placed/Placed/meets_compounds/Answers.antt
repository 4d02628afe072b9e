use Rattle.scene_model.specs.Meaning.{MeetsCompound}
use Rattle.compound_sense.proofs.Rests.{all-next}
use Rattle.compound_sense.proofs.placed.Placed.meets_compounds.Goals as goal

pub loop-at-preserved : goal.loop-at-preserved
loop-at-preserved c =
    all-next (MeetsCompound c.args.self.now.scene.now c.args.self.now.axis c.args.self.now.places.now c.args.self.now.denominator) c.args.self.now.scene.now.compounds c.loop-at.at c.compound.result.now c.meets_rule.result c.compound.ensures.value c.if-not-meets_rule.false c.meets_rule.ensures c.loop-at.invariant
