-- The separations to which the constraints of a diagram are compiled (libcola compiles compound constraints so; which
-- separations there are is this project's own).
use Rattle.std.specs.Prelude.{ℤ, pos, ◌+ℤ◌, List, [], ◌∷◌, ◌++◌, Bool, true, false, if◌then◌else◌, map}
use Rattle.std.specs.List.{flat_map}
use Rattle.units.specs.declared.geometry.Axis.{Axis}
use Rattle.units.specs.declared.geometry.Sep.{Sep}
use Rattle.scene_model.specs.declared.items.AlignLine.{AlignLine}
use Rattle.scene_model.specs.declared.items.Shape.{Shape}
use Rattle.scene_model.specs.declared.items.Rule.{Rule}
use Rattle.scene_model.specs.declared.items.Rule.TheVariants as rule
use Rattle.scene_model.specs.declared.items.Compound.{Compound}
use Rattle.scene_model.specs.declared.items.Group.{Group}
use Rattle.scene_model.specs.declared.items.Page.{Page}
use Rattle.scene_model.specs.declared.variables.VariableName.{VariableName}
use Rattle.scene_model.specs.declared.variables.VariableName.TheVariants.{OfItem, LowEdge, HighEdge}
use Rattle.scene_model.specs.Names.{NameOf, same_axis, map_neighbours}
use Rattle.scene_model.specs.Diagram.{Diagram}
use Rattle.scene_model.specs.Uses.{has_guide_on}
use Rattle.scene_model.specs.Variables.{number_or_count, page_size}
use Rattle.scene_model.specs.Meaning.{size_of, line_offset}

module _ (d : Diagram) (axis : Axis) where
  -- the separation between the variables of two names
  abbrev pub between : VariableName → VariableName → ℤ → Bool → Sep
  between left right gap exact = record { left = number_or_count d axis left; right = number_or_count d axis right; gap = gap; exact = exact }

  -- a line of a shape lies on a guideline
  abbrev pub on_guide : NameOf → AlignLine → NameOf → Sep
  on_guide guide line shape = between (OfItem shape) (OfItem guide) (line_offset line (size_of d axis shape)) true

  -- the second of two items stands so far behind the first
  abbrev pub behind : ℤ → Bool → NameOf → NameOf → Sep
  behind gap exact a b = between (OfItem a) (OfItem b) gap exact

  abbrev pub rule_separations : Rule → List Sep
  rule_separations (rule.Align guide line members) = if has_guide_on axis d.guides guide then map (on_guide guide line) members else []
  rule_separations (rule.Spread own gap members) = if same_axis own axis then map_neighbours (behind gap true) members else []
  rule_separations (rule.Rank own gap members) = if same_axis own axis then map_neighbours (behind gap false) members else []
  rule_separations (rule.Apart own a b gap exact) = if same_axis own axis then behind gap exact a b ∷ [] else []

  abbrev pub compound_separations : Compound → List Sep
  compound_separations c = rule_separations c.rule

  -- the interval of a shape lies within the edges of a group or page, inset
  abbrev pub within : NameOf → ℤ → NameOf → List Sep
  within area inset shape =
      between (LowEdge area) (OfItem shape) inset false ∷ between (OfItem shape) (HighEdge area) (size_of d axis shape +ℤ inset) false ∷ []

  -- the edges of a group or page stand so far from one another
  abbrev pub edges_apart : NameOf → ℤ → Bool → Sep
  edges_apart area gap exact = between (LowEdge area) (HighEdge area) gap exact

  abbrev pub group_separations : Group → List Sep
  group_separations g = flat_map (within g.name g.pad) g.members ++ edges_apart g.name (pos 0) false ∷ []

  -- a shape lies within the edges of a page, inset by the margin
  abbrev pub on_page : Page → Shape → List Sep
  on_page p s = within p.name p.margin s.name

  -- a rigid page keeps its declared size
  abbrev pub declared_size : Page → List Sep
  declared_size p = if p.rigid then edges_apart p.name (page_size axis p) true ∷ [] else []

  abbrev pub page_separations : Page → List Sep
  page_separations p = flat_map (on_page p) d.shapes ++ edges_apart p.name (pos 0) false ∷ declared_size p

  -- those of the compounds in order, then those of the groups in order, then those of the page
  abbrev pub separations : List Sep
  separations =
      flat_map compound_separations d.compounds ++ (flat_map group_separations d.groups ++ flat_map page_separations d.pages)
