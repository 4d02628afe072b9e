-- Where items are drawn, in whole diagram units.
use Rattle.std.specs.Prelude.{◌≤◌, ◌^◌, ◌+ℤ◌, ℕ, ℤ, pos, nat_abs, All, List, Option, None, get_or, slice_get}
use Rattle.std.specs.Option.{option_map_or}
use Rattle.units.specs.declared.geometry.Axis.{Axis}
use Rattle.units.specs.declared.geometry.Axis.TheVariants.{X, Y}
use Rattle.units.specs.declared.geometry.Pt.{Pt}
use Rattle.scene_model.specs.declared.items.Item.{Item}
use Rattle.scene_model.specs.declared.items.Shape.{Shape}
use Rattle.scene_model.specs.declared.items.Sort.{Sort}
use Rattle.scene_model.specs.declared.items.Sort.TheVariants as sort
use Rattle.scene_model.specs.declared.variables.VariableName.{VariableName}
use Rattle.scene_model.specs.declared.variables.VariableName.TheVariants.{OfItem, LowEdge, HighEdge}
use Rattle.scene_model.specs.Diagram.{Diagram}
use Rattle.scene_model.specs.Items.{item_named}
use Rattle.scene_model.specs.Names.{NameOf, along}
use Rattle.scene_model.specs.Variables.{half, size, variable_number}
use Rattle.frame_store.specs.declared.places.Places.{Places}
use Rattle.svg_text.specs.declared.spans.Span.{Span}

-- a place within 2^31 of 0, as the drawn places of a frame are
abbrev pub IsNear : ℤ → Type 0
IsNear z = nat_abs z ≤ 2 ^ 31

-- all places of both axes
pub record AreNear (places : Places) : Type 0 where
  pub x : All IsNear places.x
  pub y : All IsNear places.y

-- the ends of a span lie within 2^32 of 0
pub record IsWide (s : Span) : Type 0 where
  pub low : nat_abs s.low ≤ 2 ^ 32
  pub high : nat_abs s.high ≤ 2 ^ 32

-- ends of the part of an axis that a picture shows
pub record IsVeryWide (s : Span) : Type 0 where
  pub low : nat_abs s.low ≤ 2 ^ 33
  pub high : nat_abs s.high ≤ 2 ^ 33

-- the place of the variable of a name, by its number on the axis: 0 where there is none
unfoldable pub place_among : Diagram → Axis → List ℤ → VariableName → ℤ
place_among d axis places name = option_map_or (λ at. get_or places at (pos 0)) (variable_number d axis name) (pos 0)

-- its place on the axis
abbrev pub place_of : Diagram → Axis → Places → VariableName → ℤ
place_of d axis places name = place_among d axis (along axis places.x places.y) name

-- the part of an axis from a place on, so long
abbrev pub drawn_at : ℤ → ℤ → Span
drawn_at low size = record { low = low; high = low +ℤ size }

-- the part of an axis that a shape takes: from its place on, as long as its declared size
abbrev pub shape_span : Diagram → Axis → Places → Shape → Span
shape_span d axis places s = drawn_at (place_of d axis places (OfItem s.name)) (size axis s)

-- the part of an axis between the edges of a group or page
abbrev pub edge_span : Diagram → Axis → Places → NameOf → Span
edge_span d axis places name = record { low = place_of d axis places (LowEdge name); high = place_of d axis places (HighEdge name) }

-- the middle of a shape where it is drawn
abbrev pub middle : Diagram → Axis → Places → Shape → ℤ
middle d axis places s = place_of d axis places (OfItem s.name) +ℤ half (size axis s)

abbrev pub middle_of : Diagram → Places → Shape → Pt
middle_of d places s = record { x = middle d X places s; y = middle d Y places s }

-- the shape at a place that was found
abbrev pub shape_at : Diagram → Item → Option Shape
shape_at d item = among d item.sort item.at
  where
    among : Diagram → Sort → ℕ → Option Shape
    among d sort.Shape at = slice_get d.shapes at
    among d _ at = None

-- the shape of a name, if it is one's
abbrev pub shape_named : Diagram → NameOf → Option Shape
shape_named d name = option_map_or (shape_at d) (item_named d name) None
