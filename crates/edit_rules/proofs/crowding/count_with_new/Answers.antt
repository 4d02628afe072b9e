use Rattle.std.proofs.Common.{◌≡◌, None, subst}
use Rattle.scene_model.specs.declared.items.Sort.TheVariants as sort
use Rattle.edit_rules.specs.declared.edits.Edit.{Edit}
use Rattle.edit_rules.specs.Naming.{naming}
use Rattle.edit_rules.specs.Refusals.{taken_refusal}
use Rattle.edit_rules.proofs.Accepting.{free_name}
use Rattle.edit_rules.proofs.crowding.count_with_new.Goals as goal

pub count_with_guide-requires : goal.count_with_guide-requires
count_with_guide-requires c =
    let d = c.args.scene.now in
    free_name d (record { name = c.in-Guide.name; sort = sort.Guide }) (subst (λ (e : Edit). taken_refusal d (naming e).makes ≡ None) c.in-Guide.is c.requires.free)
