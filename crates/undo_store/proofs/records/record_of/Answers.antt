use Rattle.std.proofs.Common.{inl, inr, refl, ap, ◌∙◌}
use Rattle.scene_model.specs.Items.{thing_found}
use Rattle.edit_rules.specs.Effects.{edited}
use Rattle.edit_rules.proofs.Accepting.{drop_fits, remove_fits, unlink_fits}
use Rattle.undo_store.proofs.Accepted.{is_accepted, makes, finds_shape, changes_shape, finds_guide, changes_guide, takes}
use Rattle.undo_store.proofs.records.record_of.Goals as goal

pub returns-in-Put : goal.returns-in-Put
returns-in-Put c =
    let d = c.args.scene.now in
    let e = c.args.edit.now in
    let n = c.in-Put.name in
    let sound = c.count-shapes.ensures.sound in
    let ok = c.requires.accepted in
    elim c.in-Put.is [
      | inl w ↦ makes d sound e _ ok w.5 n _ refl refl
      | inr (inl w) ↦ makes d sound e _ ok w.2 n _ refl refl
      | inr (inr (inl w)) ↦ makes d sound e _ ok w.2 n _ refl refl
      | inr (inr (inr (inl w))) ↦ makes d sound e _ ok w.3 n _ refl refl
      | inr (inr (inr (inr (inl w)))) ↦ makes d sound e _ ok w.3 n _ refl refl
      | inr (inr (inr (inr (inr (inl w))))) ↦ makes d sound e _ ok w.3 n _ refl refl
      | inr (inr (inr (inr (inr (inr (inl w)))))) ↦ makes d sound e _ ok w.5 n _ refl refl
      | inr (inr (inr (inr (inr (inr (inr (inl w))))))) ↦ makes d sound e _ ok w.2 n _ refl refl
      | inr (inr (inr (inr (inr (inr (inr (inr w))))))) ↦ makes d sound e _ ok w.6 n _ refl refl
    ]

pub standing-requires-in-Size : goal.standing-requires-in-Size
standing-requires-in-Size c =
    let d = c.args.scene.now in
    let e = c.args.edit.now in
    let n = c.in-Size.name in
    let sound = c.count-shapes.ensures.sound in
    let ok = c.requires.accepted in
    elim c.in-Size.is [
      | inl w ↦ finds_shape d sound e _ ok w.2 n refl
      | inr (inl w) ↦ finds_shape d sound e _ ok w.2 n refl
      | inr (inr (inl w)) ↦ finds_guide d sound e _ ok w.1 n refl
      | inr (inr (inr (inl w))) ↦ finds_shape d sound e _ ok w n refl
      | inr (inr (inr (inr w))) ↦ finds_shape d sound e _ ok w n refl
    ]

pub returns-in_ok-thing-in-Size : goal.returns-in_ok-thing-in-Size
unfolding edited
returns-in_ok-thing-in-Size c =
    let d = c.args.scene.now in
    let e = c.args.edit.now in
    let n = c.in-Size.name in
    let t = c.in_ok-thing-in-Size.thing in
    let sound = c.count-shapes.ensures.sound in
    let ok = c.requires.accepted in
    let found = ap (thing_found d) c.in_ok-thing-in-Size.ensures.found ∙ c.in_ok-thing-in-Size.ensures.whole in
    elim c.in-Size.is [
      | inl w ↦ changes_shape d sound e _ ok w.2 n _ t refl refl (λ s. refl) found
      | inr (inl w) ↦ changes_shape d sound e _ ok w.2 n _ t refl refl (λ s. refl) found
      | inr (inr (inl w)) ↦ changes_guide d sound e _ ok w.1 n _ t refl refl (λ g. refl) found
      | inr (inr (inr (inl w))) ↦ changes_shape d sound e _ ok w n _ t refl refl (λ s. refl) found
      | inr (inr (inr (inr w))) ↦ changes_shape d sound e _ ok w n _ t refl refl (λ s. refl) found
    ]

pub standing-requires : goal.standing-requires
standing-requires c =
    let d = c.args.scene.now in
    let e = c.args.edit.now in
    let n = c.in-Remove.name in
    let sound = c.count-shapes.ensures.sound in
    let ok = c.requires.accepted in
    elim c.in-Remove.is [
      | inl w ↦ (remove_fits d n (is_accepted d sound e _ ok w) sound).0
      | inr (inl w) ↦ (unlink_fits d n (is_accepted d sound e _ ok w) sound).0
      | inr (inr w) ↦ (drop_fits d n (is_accepted d sound e _ ok w) sound).0
    ]

pub returns-in_ok-at-in-Remove : goal.returns-in_ok-at-in-Remove
unfolding edited
returns-in_ok-at-in-Remove c =
    let d = c.args.scene.now in
    let e = c.args.edit.now in
    let n = c.in-Remove.name in
    let at = c.in_ok-at-in-Remove.at in
    let t = c.in_ok-at-in-Remove.thing in
    let found = c.in_ok-at-in-Remove.ensures in
    let sound = c.count-shapes.ensures.sound in
    let ok = c.requires.accepted in
    elim c.in-Remove.is [
      | inl w ↦ takes d sound e _ ok w n at t refl found.found found.whole
      | inr (inl w) ↦ takes d sound e _ ok w n at t refl found.found found.whole
      | inr (inr w) ↦ takes d sound e _ ok w n at t refl found.found found.whole
    ]
