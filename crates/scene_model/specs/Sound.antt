-- Sound diagrams. The ranges and limits are this project's own.
use Rattle.std.specs.Prelude.{◌≤◌, ℤ, pos, ◌≤ℤ◌, nat_abs, List, ◌∷◌, [], length, ⊤}
use Rattle.std.specs.List.{AllByRecursion, IsDistinct}
use Rattle.units.specs.declared.geometry.Pt.{Pt}
use Rattle.scene_model.specs.declared.items.Shape.{Shape}
use Rattle.scene_model.specs.declared.items.Guide.{Guide}
use Rattle.scene_model.specs.declared.items.Link.{Link}
use Rattle.scene_model.specs.declared.items.Rule.{Rule}
use Rattle.scene_model.specs.declared.items.Rule.TheVariants as rule
use Rattle.scene_model.specs.declared.items.Compound.{Compound}
use Rattle.scene_model.specs.declared.items.Group.{Group}
use Rattle.scene_model.specs.declared.items.Page.{Page}
use Rattle.scene_model.specs.declared.items.Sort.TheVariants as sort
use Rattle.scene_model.specs.Names.{same_name}
use Rattle.scene_model.specs.Diagram.{Diagram, names_of, most_of}
use Rattle.scene_model.specs.Uses.{IsUser, link_uses, rule_uses, rule_row, group_uses}

-- a declared place or gap: within 1,000,000 diagram units of 0
abbrev pub IsCoordinate : ℤ → Type 0
IsCoordinate z = nat_abs z ≤ 1000000

-- the width or height of a shape: 1 to 10,000 diagram units
abbrev pub IsExtent : ℤ → Type 0
IsExtent z = (pos 1 ≤ℤ z) × (z ≤ℤ pos 10000)

-- the width or height of a page: 1 to 1,000,000 diagram units
abbrev pub IsPageExtent : ℤ → Type 0
IsPageExtent z = (pos 1 ≤ℤ z) × (z ≤ℤ pos 1000000)

-- a pad or margin: 0 to 10,000 diagram units
abbrev pub IsBorder : ℤ → Type 0
IsBorder z = (pos 0 ≤ℤ z) × (z ≤ℤ pos 10000)

-- a shape whose numbers lie in their ranges
pub record IsShape (s : Shape) : Type 0 where
  pub x : IsCoordinate s.x
  pub y : IsCoordinate s.y
  pub w : IsExtent s.w
  pub h : IsExtent s.h

-- a guideline whose place lies in its range
abbrev pub IsGuide : Guide → Type 0
IsGuide g = IsCoordinate g.at

-- a link between two different shapes that stand
abbrev pub IsLink : List Shape → List Guide → Link → Type 0
IsLink shapes guides l = IsUser shapes guides (link_uses l) (l.a ∷ l.b ∷ [])

-- the gap of a rule lies in its range, where it has one
abbrev pub HasGap : Rule → Type 0
HasGap (rule.Align guide line members) = ⊤
HasGap (rule.Spread axis gap members) = IsCoordinate gap
HasGap (rule.Rank axis gap members) = IsCoordinate gap
HasGap (rule.Apart axis a b gap exact) = IsCoordinate gap

-- a compound whose gap lies in its range, over different items that stand as its rule wants
pub record IsCompound (shapes : List Shape) (guides : List Guide) (c : Compound) : Type 0 where
  pub gap : HasGap c.rule
  pub user : IsUser shapes guides (rule_uses c.rule) (rule_row c.rule)

-- a corner of a group: within 1,020,000 diagram units of 0 on each axis
pub record IsCorner (p : Pt) : Type 0 where
  pub x : nat_abs p.x ≤ 1020000
  pub y : nat_abs p.y ≤ 1020000

-- a group whose pad and corners lie in their ranges, around different shapes that stand
pub record IsGroup (shapes : List Shape) (guides : List Guide) (g : Group) : Type 0 where
  pub pad : IsBorder g.pad
  pub low : IsCorner g.low
  pub high : IsCorner g.high
  pub user : IsUser shapes guides (group_uses g) g.members

-- a page whose numbers lie in their ranges
pub record IsPage (p : Page) : Type 0 where
  pub x : IsCoordinate p.x
  pub y : IsCoordinate p.y
  pub w : IsPageExtent p.w
  pub h : IsPageExtent p.h
  pub margin : IsBorder p.margin

-- no sort has more items than it may
pub record IsWithinLimits (d : Diagram) : Type 0 where
  pub shapes : length d.shapes ≤ most_of sort.Shape
  pub guides : length d.guides ≤ most_of sort.Guide
  pub links : length d.links ≤ most_of sort.Link
  pub compounds : length d.compounds ≤ most_of sort.Compound
  pub groups : length d.groups ≤ most_of sort.Group
  pub pages : length d.pages ≤ most_of sort.Page

-- a sound diagram: its names differ, its counts stay within the limits, its numbers lie in their ranges, and the
-- names that its items use stand as what is wanted
pub record IsSound (d : Diagram) : Type 0 where
  pub distinct : IsDistinct same_name (names_of d)
  pub counts : IsWithinLimits d
  pub shapes : AllByRecursion IsShape d.shapes
  pub guides : AllByRecursion IsGuide d.guides
  pub links : AllByRecursion (IsLink d.shapes d.guides) d.links
  pub compounds : AllByRecursion (IsCompound d.shapes d.guides) d.compounds
  pub groups : AllByRecursion (IsGroup d.shapes d.guides) d.groups
  pub pages : AllByRecursion IsPage d.pages
