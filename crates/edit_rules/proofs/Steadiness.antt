-- A steady edit leaves each axis feasible that was.
use Rattle.std.proofs.Common.{◌≡◌, true, Option, Some, None, refl, ap, sym, ◌∙◌, subst}
use Rattle.units.specs.declared.geometry.Axis.{Axis}
use Rattle.scene_model.specs.declared.items.Shape.{Shape}
use Rattle.scene_model.specs.declared.items.Guide.{Guide}
use Rattle.scene_model.specs.declared.items.Thing.{Thing}
use Rattle.scene_model.specs.declared.items.Thing.TheVariants as thing
use Rattle.scene_model.specs.Names.{NameOf}
use Rattle.scene_model.specs.Diagram.{Diagram}
use Rattle.scene_model.specs.Items.{thing_named, with_replaced, without}
use Rattle.scene_model.specs.Separations.{separations}
use Rattle.scene_model.specs.Sound.{IsSound}
use Rattle.scene_model.specs.Variables.{size}
use Rattle.scene_model.proofs.Sound.{IsFree}
use Rattle.cycle_test.specs.Cycle.{HasPositiveCycle}
use Rattle.sep_gen.specs.Feasibility.{IsFeasibleAxis}
use Rattle.sep_gen.proofs.Unchanged.{with_shape_same, with_guide_same}
use Rattle.sep_gen.proofs.Without.{feasible_without}
use Rattle.edit_rules.specs.declared.edits.Edit.{Edit}
use Rattle.edit_rules.specs.declared.edits.Edit.TheVariants as edit
use Rattle.edit_rules.specs.Effects.{edited, with_found_shape, with_found_guide}
use Rattle.edit_rules.specs.Refusals.{refusal_of}
use Rattle.edit_rules.specs.Steady.{is_steady}
use Rattle.edit_rules.proofs.Accepting.{accepted, removed_free, unlinked_free, dropped_free}
use Rattle.edit_rules.proofs.Changing.{shape_named, guide_named}

-- the same list is as feasible
same_feasible : (d e : Diagram) (axis : Axis) → separations e axis ≡ separations d axis → IsFeasibleAxis d axis → IsFeasibleAxis e axis
same_feasible d e axis same feasible = subst (λ seps. HasPositiveCycle seps → ⊥) (sym same) feasible

-- a shape that was changed and keeps its name and size
kept_shape : (d : Diagram) (axis : Axis) (n : NameOf) (change : Shape → Shape) → ((s : Shape) → (change s).name ≡ s.name) → ((s : Shape) → size axis (change s) ≡ size axis s) → IsSound d → IsFeasibleAxis d axis
    → (o : Option Thing) → thing_named d n ≡ o → IsFeasibleAxis (with_found_shape d change o) axis
kept_shape d axis n change named sized sound feasible (Some (thing.Shape s)) is =
    same_feasible d (with_replaced d (thing.Shape (change s))) axis (with_shape_same d axis (change s) s sound (ap (thing_named d) (named s ∙ shape_named d n s is) ∙ is) (sized s)) feasible
kept_shape d axis n change named sized sound feasible None is = feasible
kept_shape d axis n change named sized sound feasible (Some (thing.Guide x)) is = feasible
kept_shape d axis n change named sized sound feasible (Some (thing.Link x)) is = feasible
kept_shape d axis n change named sized sound feasible (Some (thing.Compound x)) is = feasible
kept_shape d axis n change named sized sound feasible (Some (thing.Group x)) is = feasible
kept_shape d axis n change named sized sound feasible (Some (thing.Page x)) is = feasible

-- a guideline that was changed and keeps its name and axis
kept_guide : (d : Diagram) (axis : Axis) (n : NameOf) (change : Guide → Guide) → ((g : Guide) → (change g).name ≡ g.name) → ((g : Guide) → g.axis ≡ (change g).axis) → IsSound d → IsFeasibleAxis d axis
    → (o : Option Thing) → thing_named d n ≡ o → IsFeasibleAxis (with_found_guide d change o) axis
kept_guide d axis n change named placed sound feasible (Some (thing.Guide g)) is =
    same_feasible d (with_replaced d (thing.Guide (change g))) axis (with_guide_same d axis (change g) g sound (ap (thing_named d) (named g ∙ guide_named d n g is) ∙ is) (placed g)) feasible
kept_guide d axis n change named placed sound feasible None is = feasible
kept_guide d axis n change named placed sound feasible (Some (thing.Shape x)) is = feasible
kept_guide d axis n change named placed sound feasible (Some (thing.Link x)) is = feasible
kept_guide d axis n change named placed sound feasible (Some (thing.Compound x)) is = feasible
kept_guide d axis n change named placed sound feasible (Some (thing.Group x)) is = feasible
kept_guide d axis n change named placed sound feasible (Some (thing.Page x)) is = feasible

-- an item that is free to go
gone : (d : Diagram) (axis : Axis) (n : NameOf) → IsSound d → IsFeasibleAxis d axis → (t : Thing) × (thing_named d n ≡ Some t) × IsFree d t → IsFeasibleAxis (without d n) axis
gone d axis n sound feasible x = feasible_without d axis n x.0 sound x.1 x.2 feasible

pub stays_feasible : (d : Diagram) (e : Edit) (axis : Axis) → is_steady e ≡ true → IsSound d → refusal_of d e ≡ None → IsFeasibleAxis d axis → IsFeasibleAxis (edited e d) axis
unfolding edited
stays_feasible d (edit.Move n x y) axis steady sound ok feasible = kept_shape d axis n _ (λ s. refl) (λ s. refl) sound feasible (thing_named d n) refl
stays_feasible d (edit.Hold n) axis steady sound ok feasible = kept_shape d axis n _ (λ s. refl) (λ s. refl) sound feasible (thing_named d n) refl
stays_feasible d (edit.Free n) axis steady sound ok feasible = kept_shape d axis n _ (λ s. refl) (λ s. refl) sound feasible (thing_named d n) refl
stays_feasible d (edit.Shift n at) axis steady sound ok feasible = kept_guide d axis n _ (λ g. refl) (λ g. refl) sound feasible (thing_named d n) refl
stays_feasible d (edit.Join n a b) axis steady sound ok feasible = feasible
stays_feasible d (edit.Remove n) axis steady sound ok feasible = gone d axis n sound feasible (removed_free d n (accepted d (edit.Remove n) ok))
stays_feasible d (edit.Unlink n) axis steady sound ok feasible = gone d axis n sound feasible (unlinked_free d n (accepted d (edit.Unlink n) ok))
stays_feasible d (edit.Drop n) axis steady sound ok feasible = gone d axis n sound feasible (dropped_free d n (accepted d (edit.Drop n) ok))
stays_feasible d (edit.Put n form x y w h) axis steady sound ok feasible = cc
stays_feasible d (edit.Size n w h) axis steady sound ok feasible = cc
stays_feasible d (edit.Guide n own at) axis steady sound ok feasible = cc
stays_feasible d (edit.Align n guide line members) axis steady sound ok feasible = cc
stays_feasible d (edit.Spread n own gap members) axis steady sound ok feasible = cc
stays_feasible d (edit.Rank n own gap members) axis steady sound ok feasible = cc
stays_feasible d (edit.Apart n own a b gap exact) axis steady sound ok feasible = cc
stays_feasible d (edit.Group n pad members) axis steady sound ok feasible = cc
stays_feasible d (edit.Page n x y w h margin rigid) axis steady sound ok feasible = cc
