-- Where shapes stand. All places are clamped: within 1,000,000 diagram units of 0.
use Rattle.std.specs.Prelude.{ℕ, ◌≤◌, ℤ, pos, ◌+ℤ◌, ◌-ℤ◌, List, length, map, Bool, true, ◌&&◌, Option, Some, None, slice_get, slice_index_or}
use Rattle.std.specs.List.{range_with_len}
use Rattle.std.specs.Ordering.{int_eq}
use Rattle.units.specs.Number.{clamped}
use Rattle.units.specs.declared.geometry.Axis.{Axis}
use Rattle.units.specs.declared.geometry.Axis.TheVariants.{X, Y}
use Rattle.scene_model.specs.declared.items.Shape.{Shape}
use Rattle.scene_model.specs.Names.{along}
use Rattle.scene_model.specs.Diagram.{Diagram}
use Rattle.scene_model.specs.Variables.{half, size}
use Rattle.frame_store.specs.declared.places.Places.{Places}

-- there is a place for each shape
pub record HasPlaces (d : Diagram) (places : Places) : Type 0 where
  pub x : length d.shapes ≤ length places.x
  pub y : length d.shapes ≤ length places.y

-- the places of an axis
abbrev pub on_axis : Axis → Places → List ℤ
on_axis axis places = along axis places.x places.y

-- the clamped place of the shape of a number: its low edge
abbrev pub low_at : Axis → Places → ℕ → ℤ
low_at axis places i = clamped (slice_index_or (on_axis axis places) i (pos 0))

-- the width or height of a shape
abbrev pub size_at : Axis → Option Shape → ℤ
size_at axis None = pos 0
size_at axis (Some s) = size axis s

-- its mid-point on an axis: half the size, rounded down, behind the low edge
abbrev pub middle_at : Diagram → Axis → Places → ℕ → ℤ
middle_at d axis places i = low_at axis places i +ℤ half (size_at axis (slice_get d.shapes i))

-- from the mid-point of one shape to that of another
abbrev pub step_at : Diagram → Axis → Places → ℕ → ℕ → ℤ
step_at d axis places i j = middle_at d axis places j -ℤ middle_at d axis places i

-- whether both mid-points lie at one spot
abbrev pub coincide : Diagram → Places → ℕ → ℕ → Bool
coincide d places i j = int_eq (step_at d X places i j) (pos 0) && int_eq (step_at d Y places i j) (pos 0)

-- whether the shape of a number is held
abbrev pub is_held_shape : Option Shape → Bool
is_held_shape None = true
is_held_shape (Some s) = s.held

-- the places of the shapes alone, clamped
abbrev pub clamped_places : Diagram → Places → Places
clamped_places d places = record {
  x = map (low_at X places) (range_with_len 0 (length d.shapes));
  y = map (low_at Y places) (range_with_len 0 (length d.shapes));
}
