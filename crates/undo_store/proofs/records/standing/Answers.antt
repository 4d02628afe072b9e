use Rattle.std.proofs.Common.{◌≡◌, Some, refl, sym, ◌∙◌, subst}
use Rattle.std.specs.Prelude.{IsSome}
use Rattle.scene_model.specs.Items.{thing_at}
use Rattle.scene_model.proofs.Places.{item_found, sort_at}
use Rattle.undo_store.proofs.records.standing.Goals as goal

pub copy_of_item-requires : goal.copy_of_item-requires
copy_of_item-requires c =
    let found = item_found c.args.scene.now c.args.name.now c.unwrap-item.result (sym c.lookup.ensures.value ∙ c.unwrap-item.ensures) in
    subst IsSome (sym found.1) refl

pub returns-clause-whole : goal.returns-clause-whole
returns-clause-whole c =
    let item = c.unwrap-item.result in
    subst (λ s. thing_at c.args.scene.now s item.at ≡ Some c.in_ok-thing.thing) (sort_at c.args.scene.now item.sort item.at c.in_ok-thing.thing c.in_ok-thing.ensures) c.in_ok-thing.ensures
