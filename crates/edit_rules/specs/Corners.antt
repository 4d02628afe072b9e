-- The corners of a group.
use Rattle.std.specs.Prelude.{◌≡◌, ℕ, ℤ, ◌+ℤ◌, ◌-ℤ◌, ◌≤ℤ◌, List, Some, true, slice_get}
use Rattle.std.specs.List.{list_any}
use Rattle.units.specs.declared.geometry.Axis.{Axis}
use Rattle.scene_model.specs.declared.items.Shape.{Shape}
use Rattle.scene_model.specs.Names.{NameOf, same_name}
use Rattle.scene_model.specs.Diagram.{Diagram}
use Rattle.scene_model.specs.Variables.{low, high}

-- a shape of the diagram whose name is among the members
pub record IsMember (d : Diagram) (members : List NameOf) (s : Shape) : Type 0 where
  pub at : ℕ
  pub there : slice_get d.shapes at ≡ Some s
  pub named : list_any (same_name s.name) members ≡ true

-- the pad before the low edge of a member as declared, and of no member further than that
pub record IsLowCorner (d : Diagram) (members : List NameOf) (pad : ℤ) (axis : Axis) (corner : ℤ) : Type 0 where
  pub shape : Shape
  pub member : IsMember d members shape
  pub is : corner ≡ low axis shape -ℤ pad
  pub least : (other : Shape) → IsMember d members other → corner ≤ℤ (low axis other -ℤ pad)

-- the pad behind the high edge of a member as declared, and of no member further than that
pub record IsHighCorner (d : Diagram) (members : List NameOf) (pad : ℤ) (axis : Axis) (corner : ℤ) : Type 0 where
  pub shape : Shape
  pub member : IsMember d members shape
  pub is : corner ≡ high axis shape +ℤ pad
  pub greatest : (other : Shape) → IsMember d members other → (high axis other +ℤ pad) ≤ℤ corner
