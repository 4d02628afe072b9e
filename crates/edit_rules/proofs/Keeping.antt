-- An accepted edit keeps a diagram within the limit on separations.
use Rattle.std.proofs.Common.{◌≡◌, ◌+◌, ◌≤◌, Bool, true, false, cond, ◌||◌, Option, Some, None, length, refl, ap, sym, ◌∙◌, subst, arith}
use Rattle.std.specs.Prelude.{nat_lt}
use Rattle.std.specs.Option.{option_map_or}
use Rattle.std.proofs.lemmas.Bool.{ltb-false}
use Rattle.units.specs.declared.geometry.Axis.{Axis}
use Rattle.units.specs.declared.geometry.Axis.TheVariants.{X, Y}
use Rattle.scene_model.specs.declared.items.Shape.{Shape}
use Rattle.scene_model.specs.declared.items.Guide.{Guide}
use Rattle.scene_model.specs.declared.items.Thing.{Thing}
use Rattle.scene_model.specs.declared.items.Thing.TheVariants as thing
use Rattle.scene_model.specs.Names.{NameOf}
use Rattle.scene_model.specs.Diagram.{Diagram}
use Rattle.scene_model.specs.Items.{thing_named, with_thing, without}
use Rattle.scene_model.specs.Separations.{separations}
use Rattle.scene_model.specs.Sound.{IsSound}
use Rattle.sep_gen.specs.Counted.{count_with}
use Rattle.sep_gen.proofs.Changing.{fewer_without, same_with_shape, same_with_guide}
use Rattle.edit_rules.specs.declared.edits.Edit.{Edit}
use Rattle.edit_rules.specs.declared.edits.Edit.TheVariants as edit
use Rattle.edit_rules.specs.declared.refusals.Counted.TheVariants as counted
use Rattle.edit_rules.specs.declared.refusals.Refusal.TheVariants as refusal
use Rattle.edit_rules.specs.Causes.{Accepts}
use Rattle.edit_rules.specs.Effects.{made, changed, edited, with_found_shape, with_found_guide}
use Rattle.edit_rules.specs.Refusals.{most_separations, is_crowded, separations_refusal, refusal_of}
use Rattle.edit_rules.proofs.Accepting.{accepted}
use Rattle.edit_rules.proofs.Changing.{guide_named}
use Rattle.edit_rules.proofs.Judging.{edited_made, accepted_none}

-- the axis has no more separations than it may
abbrev pub IsUncrowded : Diagram → Axis → Type 0
IsUncrowded d axis = length (separations d axis) ≤ most_separations

neither : (a b : Bool) → cond (a || b) (Some (refusal.Limit counted.Seps most_separations)) None ≡ None → (a ≡ false) × (b ≡ false)
neither true b is = cc
neither false true is = cc
neither false false is = (refl, refl)

uncrowded : (d : Diagram) (e : Edit) (axis : Axis) → separations_refusal d e ≡ None → is_crowded d e axis ≡ false
uncrowded d e X none = (neither (is_crowded d e X) (is_crowded d e Y) none).0
uncrowded d e Y none = (neither (is_crowded d e X) (is_crowded d e Y) none).1

-- a shape or guideline that was changed changes no number
same_shape : (d : Diagram) (axis : Axis) (change : Shape → Shape) (o : Option Thing) → IsUncrowded d axis → IsUncrowded (with_found_shape d change o) axis
same_shape d axis change (Some (thing.Shape s)) few = let same = same_with_shape d axis (change s) in omega (arith, same, few)
same_shape d axis change None few = few
same_shape d axis change (Some (thing.Guide g)) few = few
same_shape d axis change (Some (thing.Link l)) few = few
same_shape d axis change (Some (thing.Compound c)) few = few
same_shape d axis change (Some (thing.Group g)) few = few
same_shape d axis change (Some (thing.Page p)) few = few

same_guide : (d : Diagram) (axis : Axis) (name : NameOf) (change : Guide → Guide) → ((g : Guide) → (change g).name ≡ g.name) → ((g : Guide) → g.axis ≡ (change g).axis) → IsSound d
    → (o : Option Thing) → thing_named d name ≡ o → IsUncrowded d axis → IsUncrowded (with_found_guide d change o) axis
same_guide d axis name change named placed sound (Some (thing.Guide g)) is few =
    let own = named g ∙ guide_named d name g is in
    let same = same_with_guide d axis (change g) g sound (ap (thing_named d) own ∙ is) (placed g) in
    omega (arith, same, few)
same_guide d axis name change named placed sound None is few = few
same_guide d axis name change named placed sound (Some (thing.Shape s)) is few = few
same_guide d axis name change named placed sound (Some (thing.Link l)) is few = few
same_guide d axis name change named placed sound (Some (thing.Compound c)) is few = few
same_guide d axis name change named placed sound (Some (thing.Group g)) is few = few
same_guide d axis name change named placed sound (Some (thing.Page p)) is few = few

fewer : (d : Diagram) (axis : Axis) (name : NameOf) → IsUncrowded d axis → IsUncrowded (without d name) axis
fewer d axis name few = let less = fewer_without d axis name in omega (arith, less, few)

-- no change of what stands makes them more
changed_uncrowded : (d : Diagram) (e : Edit) (axis : Axis) → IsSound d → IsUncrowded d axis → IsUncrowded (changed e d) axis
changed_uncrowded d (edit.Size name w h) axis sound few = same_shape d axis _ (thing_named d name) few
changed_uncrowded d (edit.Move name x y) axis sound few = same_shape d axis _ (thing_named d name) few
changed_uncrowded d (edit.Shift name at) axis sound few = same_guide d axis name (λ g. record g { at = at; moves = g.moves + 1 }) (λ g. refl) (λ g. refl) sound (thing_named d name) refl few
changed_uncrowded d (edit.Hold name) axis sound few = same_shape d axis _ (thing_named d name) few
changed_uncrowded d (edit.Free name) axis sound few = same_shape d axis _ (thing_named d name) few
changed_uncrowded d (edit.Remove name) axis sound few = fewer d axis name few
changed_uncrowded d (edit.Unlink name) axis sound few = fewer d axis name few
changed_uncrowded d (edit.Drop name) axis sound few = fewer d axis name few
changed_uncrowded d (edit.Put name form x y w h) axis sound few = few
changed_uncrowded d (edit.Join name a b) axis sound few = few
changed_uncrowded d (edit.Guide name axis' at) axis sound few = few
changed_uncrowded d (edit.Align name guide line members) axis sound few = few
changed_uncrowded d (edit.Spread name axis' gap members) axis sound few = few
changed_uncrowded d (edit.Rank name axis' gap members) axis sound few = few
changed_uncrowded d (edit.Apart name axis' a b gap exact) axis sound few = few
changed_uncrowded d (edit.Group name pad members) axis sound few = few
changed_uncrowded d (edit.Page name x y w h margin rigid) axis sound few = few

-- the diagram after an edit that makes no item
edited_changed : (d : Diagram) (e : Edit) → made d e ≡ None → edited e d ≡ changed e d
unfolding edited
edited_changed d e none = ap (λ o. option_map_or (with_thing d) o (changed e d)) none

pub edited_uncrowded : (d : Diagram) (e : Edit) (axis : Axis) → IsSound d → refusal_of d e ≡ None → IsUncrowded d axis → IsUncrowded (edited e d) axis
edited_uncrowded d e axis sound none few = by (made d e) refl
  where
    room : (t : Thing) → made d e ≡ Some t → count_with d axis t ≤ most_separations
    room t is =
        ltb-false most_separations (count_with d axis t)
        (sym (ap (λ o. option_map_or (λ u. nat_lt most_separations (count_with d axis u)) o false) is) ∙ uncrowded d e axis (accepted d e none).separations)

    by : (o : Option Thing) → made d e ≡ o → IsUncrowded (edited e d) axis
    by (Some t) is = subst (λ c. IsUncrowded c axis) (sym (edited_made d e t is)) (room t is)
    by None is = subst (λ c. IsUncrowded c axis) (sym (edited_changed d e is)) (changed_uncrowded d e axis sound few)

-- where no cause holds
pub accepted_uncrowded : (d : Diagram) (e : Edit) (axis : Axis) → IsSound d → Accepts d e → IsUncrowded d axis → IsUncrowded (edited e d) axis
accepted_uncrowded d e axis sound all few = edited_uncrowded d e axis sound (accepted_none d e all) few
