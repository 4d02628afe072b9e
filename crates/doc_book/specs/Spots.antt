-- Where the item of a name stands.
use Rattle.std.specs.Prelude.{◌≡◌, ◌⊎◌, ℕ, ℤ, List, Option, Some, None, slice_get}
use Rattle.units.specs.declared.geometry.Axis.{Axis}
use Rattle.units.specs.declared.geometry.Axis.TheVariants.{X, Y}
use Rattle.scene_model.specs.declared.items.Guide.{Guide}
use Rattle.scene_model.specs.declared.items.Sort.{Sort}
use Rattle.scene_model.specs.declared.items.Sort.TheVariants as sort
use Rattle.scene_model.specs.declared.items.Thing.TheVariants as thing
use Rattle.scene_model.specs.declared.variables.VariableName.{VariableName}
use Rattle.scene_model.specs.declared.variables.VariableName.TheVariants.{OfItem, LowEdge, HighEdge}
use Rattle.scene_model.specs.Names.{NameOf, along}
use Rattle.scene_model.specs.Diagram.{Diagram}
use Rattle.scene_model.specs.Items.{sort_named, thing_named}
use Rattle.scene_model.specs.Variables.{variable_number}
use Rattle.edit_rules.specs.declared.refusals.Refusal.{Refusal}
use Rattle.edit_rules.specs.declared.refusals.Refusal.TheVariants as refusal
use Rattle.frame_store.specs.declared.places.Places.{Places}
use Rattle.doc_book.specs.declared.asking.Spot.{Spot}
use Rattle.doc_book.specs.declared.asking.Spot.TheVariants as spot

-- the variable of a name has this place, among those of its axis, in whole diagram units
abbrev pub IsPlaceOf : Diagram → Axis → List ℤ → VariableName → ℤ → Type 0
IsPlaceOf scene axis places name at = (number : ℕ) × (variable_number scene axis name ≡ Some number) × (slice_get places number ≡ Some at)

-- a guideline of the name and axis stands
abbrev pub IsGuideOf : Diagram → NameOf → Axis → Type 0
IsGuideOf scene name axis = (g : Guide) × (thing_named scene name ≡ Some (thing.Guide g)) × (g.axis ≡ axis)

-- the item of a name stands at the spot: a shape where its variables on X and on Y do, a guideline where its variable
-- on its axis does, and a group or page between its low and its high edges
abbrev pub IsSpot : Diagram → Places → NameOf → Spot → Type 0
IsSpot scene places name (spot.Shape x y) =
    (sort_named scene name ≡ Some sort.Shape) × IsPlaceOf scene X places.x (OfItem name) x × IsPlaceOf scene Y places.y (OfItem name) y
IsSpot scene places name (spot.Guide axis at) =
    IsGuideOf scene name axis × IsPlaceOf scene axis (along axis places.x places.y) (OfItem name) at
IsSpot scene places name (spot.Area x_low y_low x_high y_high) =
    ((sort_named scene name ≡ Some sort.Group) ⊎ (sort_named scene name ≡ Some sort.Page))
    × IsPlaceOf scene X places.x (LowEdge name) x_low
    × IsPlaceOf scene Y places.y (LowEdge name) y_low
    × IsPlaceOf scene X places.x (HighEdge name) x_high
    × IsPlaceOf scene Y places.y (HighEdge name) y_high

-- why it isn't answered where an item of this sort and name stands, if it isn't: links and compounds have no place
abbrev pub ask_refusal_by : NameOf → Option Sort → Option Refusal
ask_refusal_by name None = Some (refusal.Unknown name)
ask_refusal_by name (Some sort.Shape) = None
ask_refusal_by name (Some sort.Guide) = None
ask_refusal_by name (Some sort.Link) = Some (refusal.Kind name)
ask_refusal_by name (Some sort.Compound) = Some (refusal.Kind name)
ask_refusal_by name (Some sort.Group) = None
ask_refusal_by name (Some sort.Page) = None

-- why a scene doesn't answer where the item of a name stands: none has the name, or it is a link or compound
abbrev pub ask_refusal : Diagram → NameOf → Option Refusal
ask_refusal scene name = ask_refusal_by name (sort_named scene name)
