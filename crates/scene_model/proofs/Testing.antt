-- What an item may use, and what may be taken out, for the tests.
use Rattle.std.proofs.Common.{◌≡◌, List, [], ◌∷◌, true, false, Some, None, Option, refl, ap, ◌∙◌, sym, arith, subst}
use Rattle.std.specs.Prelude.{is_some}
use Rattle.std.specs.List.{IsDistinct}
use Rattle.scene_model.specs.declared.items.Shape.{Shape}
use Rattle.scene_model.specs.declared.items.Guide.{Guide}
use Rattle.scene_model.specs.declared.items.Item.{Item}
use Rattle.scene_model.specs.declared.uses.Wanted.{Wanted}
use Rattle.scene_model.specs.Names.{NameOf, same_name}
use Rattle.scene_model.specs.Diagram.{Diagram, all_sorts}
use Rattle.scene_model.specs.Uses.{each, stands_as, IsUser, user_of}
use Rattle.scene_model.specs.Sound.{IsSound}
use Rattle.scene_model.specs.Items.{stands, item_named, thing_found, without}
use Rattle.scene_model.proofs.Places.{item_found, is_some-in}
use Rattle.scene_model.proofs.Sound.{unused, IsUnused, IsFree-unused, IsSound-without}

pair : (a b : NameOf) → same_name a b ≡ false → IsDistinct same_name (a ∷ b ∷ [])
unfolding IsDistinct
pair a b differs = ((differs, tt), (tt, tt))

pub two : (shapes : List Shape) (guides : List Guide) (w : Wanted) (a b : NameOf) → same_name a b ≡ false → stands_as shapes guides w a ≡ true → stands_as shapes guides w b ≡ true
    → IsUser shapes guides (each w (a ∷ b ∷ [])) (a ∷ b ∷ [])
two shapes guides w a b differs first second = record { stand = (first, (second, tt)); differ = pair a b differs; few = omega arith }

no_user : (o : Option NameOf) → is_some o ≡ false → o ≡ None
no_user None is = cc
no_user (Some n) is = cc

-- what stands and no item uses may be taken out
pub taken : (d : Diagram) (n : NameOf) → IsSound d → stands d n ≡ true → is_some (user_of d n) ≡ false → IsSound (without d n)
taken d n sound stood none = by (item_named d n) refl (is_some-in d n all_sorts ∙ stood)
  where
    by : (o : Option Item) → item_named d n ≡ o → is_some o ≡ true → IsSound (without d n)
    by None found is = cc
    by (Some item) found is =
        let t = item_found d n item found in
        let free = subst (IsUnused d) (sym t.2) (unused d n (no_user (user_of d n) none)) in
        IsSound-without d n t.0 sound (ap (thing_found d) found ∙ t.1) (IsFree-unused d t.0 free)
