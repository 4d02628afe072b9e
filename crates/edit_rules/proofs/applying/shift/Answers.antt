use Rattle.std.proofs.Common.{ap, ◌∙◌, refl, arith, rules}
use Rattle.scene_model.specs.Items.{thing_named}
use Rattle.scene_model.proofs.Sound.{IsSound-set_guide}
use Rattle.edit_rules.proofs.applying.shift.Goals as goal

pub overflow_add-guide : goal.overflow_add-guide
overflow_add-guide c =
    let few = c.standing_guide-guide.ensures.few c.requires.few in
    record { fits = omega (arith, few) }

pub set-requires-clause-sound : goal.set-requires-clause-sound
set-requires-clause-sound c =
    IsSound-set_guide c.args.scene.now _ c.standing_guide-guide.result c.count-guides.ensures.sound (search (rules, c.requires.near))
    (ap (thing_named c.args.scene.now) c.standing_guide-guide.ensures.named ∙ c.standing_guide-guide.ensures.value) refl
