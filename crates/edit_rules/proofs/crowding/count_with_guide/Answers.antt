use Rattle.std.proofs.Common.{ap, sym, ◌∙◌}
use Rattle.scene_model.specs.Items.{stands}
use Rattle.sep_gen.proofs.Changing.{same_with_new_guide}
use Rattle.edit_rules.proofs.crowding.count_with_guide.Goals as goal

pub returns : goal.returns
returns c = λ guide named.
    c.count.ensures.value
    ∙ sym (same_with_new_guide c.args.scene.now c.args.axis guide c.count-guides.ensures.sound (ap (stands c.args.scene.now) named ∙ c.requires))
