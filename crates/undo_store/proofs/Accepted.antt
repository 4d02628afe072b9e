-- The record of an edit that a sound diagram accepts.
use Rattle.std.proofs.Common.{◌≡◌, ℕ, true, [], ◌∷◌, Some, None, sym, subst}
use Rattle.std.specs.Option.{option_map_or}
use Rattle.scene_model.specs.declared.items.Guide.{Guide}
use Rattle.scene_model.specs.declared.items.Shape.{Shape}
use Rattle.scene_model.specs.declared.items.Sort.TheVariants as sort
use Rattle.scene_model.specs.declared.items.Thing.{Thing}
use Rattle.scene_model.specs.Diagram.{Diagram}
use Rattle.scene_model.specs.Items.{item_named, name_of_thing, sort_of, stands, thing_at, thing_named, with_thing, without}
use Rattle.scene_model.specs.Names.{NameOf}
use Rattle.scene_model.specs.Sound.{IsSound}
use Rattle.edit_rules.specs.declared.edits.Edit.{Edit}
use Rattle.edit_rules.specs.declared.naming.Kind.TheVariants as kind
use Rattle.edit_rules.specs.Effects.{changed, edited, made, with_guide, with_shape}
use Rattle.edit_rules.specs.Naming.{each_as, naming}
use Rattle.edit_rules.specs.Refusals.{refusal_of}
use Rattle.edit_rules.proofs.Accepting.{IsAccepted, accepted, guide_stands, made_free, shape_stands, sort_is_standing}
use Rattle.undo_store.specs.declared.records.Record.TheVariants as back
use Rattle.undo_store.specs.TakenBack.{TakesBack}
use Rattle.undo_store.proofs.Backwards.{takes_back-made, takes_back-taken, takes_back-with_guide, takes_back-with_shape}

-- a sound diagram that accepts the edit e, which is f
module _ (d : Diagram) (sound : IsSound d) (e f : Edit) (ok : refusal_of d e ≡ None) (same : e ≡ f) where
  pub is_accepted : IsAccepted d f
  is_accepted = accepted d f (subst (λ (g : Edit). refusal_of d g ≡ None) same ok)

  -- the edit makes an item of this name
  pub makes : (n : NameOf) (t : Thing) → made d f ≡ Some t → name_of_thing t ≡ n → TakesBack (back.Made n) d (edited e d)
  unfolding edited
  makes n t is named =
      let free = made_free d f t is is_accepted.taken in
      let takes = takes_back-made d t sound free in
      subst (λ (g : Edit). TakesBack (back.Made n) d (edited g d)) (sym same)
      (subst (λ o. TakesBack (back.Made n) d (option_map_or (with_thing d) o (changed f d))) (sym is)
      (subst (λ m. TakesBack (back.Made m) d (with_thing d t)) named takes))

  -- the edit changes the shape of this name
  pub finds_shape : (n : NameOf) → (naming f).asks ≡ each_as kind.Shape (n ∷ []) → stands d n ≡ true
  finds_shape n asks = sort_is_standing d n sort.Shape (shape_stands d f n asks is_accepted)

  pub changes_shape : (n : NameOf) (change : Shape → Shape) (t : Thing) → (naming f).asks ≡ each_as kind.Shape (n ∷ []) → edited f d ≡ with_shape d n change → ((s : Shape) → (change s).name ≡ s.name)
      → thing_named d n ≡ Some t → TakesBack (back.Changed t) d (edited e d)
  changes_shape n change t asks is keeps found =
      subst (λ (g : Edit). TakesBack (back.Changed t) d (edited g d)) (sym same)
      (subst (TakesBack (back.Changed t) d) (sym is) (takes_back-with_shape d n t change sound keeps (shape_stands d f n asks is_accepted) found))

  -- the edit changes the guideline of this name
  pub finds_guide : (n : NameOf) → (naming f).asks ≡ each_as kind.Guide (n ∷ []) → stands d n ≡ true
  finds_guide n asks = sort_is_standing d n sort.Guide (guide_stands d f n asks is_accepted)

  pub changes_guide : (n : NameOf) (change : Guide → Guide) (t : Thing) → (naming f).asks ≡ each_as kind.Guide (n ∷ []) → edited f d ≡ with_guide d n change → ((g : Guide) → (change g).name ≡ g.name)
      → thing_named d n ≡ Some t → TakesBack (back.Changed t) d (edited e d)
  changes_guide n change t asks is keeps found =
      subst (λ (g : Edit). TakesBack (back.Changed t) d (edited g d)) (sym same)
      (subst (TakesBack (back.Changed t) d) (sym is) (takes_back-with_guide d n t change sound keeps (guide_stands d f n asks is_accepted) found))

  -- the edit takes the item of this name out
  pub takes : (n : NameOf) (at : ℕ) (t : Thing) → edited f d ≡ without d n → item_named d n ≡ Some (record { sort = sort_of t; at = at }) → thing_at d (sort_of t) at ≡ Some t
      → TakesBack (back.Taken at t) d (edited e d)
  takes n at t is found there =
      subst (λ (g : Edit). TakesBack (back.Taken at t) d (edited g d)) (sym same)
      (subst (TakesBack (back.Taken at t) d) (sym is) (takes_back-taken d n at t sound found there))
