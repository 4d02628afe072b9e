-- What the constraints of a diagram mean on an axis, by lines and intervals. A placement has a whole number for each
-- variable, over one common denominator q: variable i stands at (places at i) / q. So both sides of each fact stand
-- times q. (Dwyer, Marriott and Wybrow placed such constraints in 2008; which kinds there are, and what they mean, is
-- this project's own.)
use Rattle.std.specs.Prelude.{◌≡◌, ℕ, ◌<◌, ℤ, pos, ◌+ℤ◌, ◌-ℤ◌, ◌*ℤ◌, ◌≤ℤ◌, List, length, find, Bool, MatchBool}
use Rattle.std.specs.List.{AllByRecursion}
use Rattle.std.specs.Bool.{OnTrue}
use Rattle.std.specs.Option.{option_map_or}
use Rattle.units.specs.declared.geometry.Axis.{Axis}
use Rattle.units.specs.Separation.{place_of}
use Rattle.scene_model.specs.declared.items.AlignLine.{AlignLine}
use Rattle.scene_model.specs.declared.items.AlignLine.TheVariants.{Low, Mid, High}
use Rattle.scene_model.specs.declared.items.Shape.{Shape}
use Rattle.scene_model.specs.declared.items.Rule.{Rule}
use Rattle.scene_model.specs.declared.items.Rule.TheVariants as rule
use Rattle.scene_model.specs.declared.items.Compound.{Compound}
use Rattle.scene_model.specs.declared.items.Group.{Group}
use Rattle.scene_model.specs.declared.items.Page.{Page}
use Rattle.scene_model.specs.declared.variables.VariableName.{VariableName}
use Rattle.scene_model.specs.declared.variables.VariableName.TheVariants.{OfItem, LowEdge, HighEdge}
use Rattle.scene_model.specs.Names.{NameOf, same_name, same_axis, AllNeighbours}
use Rattle.scene_model.specs.Diagram.{Diagram}
use Rattle.scene_model.specs.Uses.{has_guide_on}
use Rattle.scene_model.specs.Variables.{variables, number_or_count, size, half, page_size}

-- the size on an axis of the shape of a name; 0 where none stands
abbrev pub size_of : Diagram → Axis → NameOf → ℤ
size_of d axis name = option_map_or (size axis) (find (λ (s : Shape). same_name name s.name) d.shapes) (pos 0)

-- how far a line of an interval lies behind its low edge
abbrev pub line_offset : AlignLine → ℤ → ℤ
line_offset Low extent = pos 0
line_offset Mid extent = half extent
line_offset High extent = extent

-- a length in diagram units, over the denominator
abbrev pub scaled : ℕ → ℤ → ℤ
scaled q units = pos q *ℤ units

-- the placement places / q of an axis
module _ (d : Diagram) (axis : Axis) (places : List ℤ) (q : ℕ) where
  -- where the variable of a name stands
  abbrev pub place : VariableName → ℤ
  place name = place_of places (number_or_count d axis name)

  -- where the interval of a shape begins, which is the place of the shape, and where it ends
  abbrev pub low_place : NameOf → ℤ
  low_place shape = place (OfItem shape)

  abbrev pub high_place : NameOf → ℤ
  high_place shape = place (OfItem shape) +ℤ scaled q (size_of d axis shape)

  -- a line of a shape lies on a guideline
  abbrev pub IsOnGuide : NameOf → AlignLine → NameOf → Type 0
  IsOnGuide guide line shape = (place (OfItem shape) +ℤ scaled q (line_offset line (size_of d axis shape))) ≡ place (OfItem guide)

  -- the second stands exactly, or at least, so far behind the first
  abbrev pub IsExactlyBehind : ℤ → NameOf → NameOf → Type 0
  IsExactlyBehind gap a b = (place (OfItem b) -ℤ place (OfItem a)) ≡ scaled q gap

  abbrev pub IsAtLeastBehind : ℤ → NameOf → NameOf → Type 0
  IsAtLeastBehind gap a b = scaled q gap ≤ℤ (place (OfItem b) -ℤ place (OfItem a))

  -- the one or the other
  abbrev pub IsBehind : ℤ → Bool → NameOf → NameOf → Type 0
  IsBehind gap exact a b = MatchBool exact (IsExactlyBehind gap a b) (IsAtLeastBehind gap a b)

  -- the interval of a shape lies within the edges of a group or page, inset
  abbrev pub IsWithin : NameOf → ℤ → NameOf → Type 0
  IsWithin area inset shape =
      ((place (LowEdge area) +ℤ scaled q inset) ≤ℤ low_place shape) × ((high_place shape +ℤ scaled q inset) ≤ℤ place (HighEdge area))

  -- the low edge of a group or page is at most its high edge
  abbrev pub IsOrdered : NameOf → Type 0
  IsOrdered area = place (LowEdge area) ≤ℤ place (HighEdge area)

  -- the placement meets a rule; one of the other axis asks nothing
  abbrev pub MeetsRule : Rule → Type 0
  MeetsRule (rule.Align guide line members) = OnTrue (has_guide_on axis d.guides guide) (AllByRecursion (IsOnGuide guide line) members)
  MeetsRule (rule.Spread own gap members) = OnTrue (same_axis own axis) (AllNeighbours (IsExactlyBehind gap) members)
  MeetsRule (rule.Rank own gap members) = OnTrue (same_axis own axis) (AllNeighbours (IsAtLeastBehind gap) members)
  MeetsRule (rule.Apart own a b gap exact) = OnTrue (same_axis own axis) (IsBehind gap exact a b)

  abbrev pub MeetsCompound : Compound → Type 0
  MeetsCompound c = MeetsRule c.rule

  -- the placement meets a group: its members lie within its edges, inset by the pad
  abbrev pub MeetsGroup : Group → Type 0
  MeetsGroup g = AllByRecursion (IsWithin g.name g.pad) g.members × IsOrdered g.name

  -- a shape lies within the edges of a page, inset by the margin
  abbrev pub IsOnPage : Page → Shape → Type 0
  IsOnPage p s = IsWithin p.name p.margin s.name

  -- a page has its declared size
  abbrev pub HasDeclaredSize : Page → Type 0
  HasDeclaredSize p = (place (HighEdge p.name) -ℤ place (LowEdge p.name)) ≡ scaled q (page_size axis p)

  -- the placement meets a page: all shapes lie within its edges, and a rigid one keeps its size
  abbrev pub MeetsPage : Page → Type 0
  MeetsPage p = AllByRecursion (IsOnPage p) d.shapes × IsOrdered p.name × OnTrue p.rigid (HasDeclaredSize p)

  -- the placement has a place for each variable, and meets each compound, each group and the page
  pub record Fits : Type 0 where
    pub above : 0 < q
    pub as_long : length places ≡ length (variables d axis)
    pub compounds : AllByRecursion MeetsCompound d.compounds
    pub groups : AllByRecursion MeetsGroup d.groups
    pub pages : AllByRecursion MeetsPage d.pages
