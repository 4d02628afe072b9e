-- The variables of an axis. Variables with a weight come from the VPSC problem (Dwyer, Marriott and Stuckey
-- 2005); which items have variables, and the weights, are this project's own.
use Rattle.std.specs.Prelude.{ℕ, ℤ, pos, ◌+ℤ◌, int_div, List, [], ◌∷◌, ◌++◌, map, filter, position, Bool, false, if◌then◌else◌, Option, Some, None}
use Rattle.std.specs.List.{flat_map, position_or_len}
use Rattle.std.specs.Option.{option_map_or}
use Rattle.units.specs.declared.geometry.Axis.{Axis}
use Rattle.scene_model.specs.declared.items.Shape.{Shape}
use Rattle.scene_model.specs.declared.items.Guide.{Guide}
use Rattle.scene_model.specs.declared.items.Group.{Group}
use Rattle.scene_model.specs.declared.items.Page.{Page}
use Rattle.scene_model.specs.declared.items.Thing.{Thing}
use Rattle.scene_model.specs.declared.items.Thing.TheVariants as thing
use Rattle.scene_model.specs.declared.variables.Variable.{Variable}
use Rattle.scene_model.specs.declared.variables.VariableName.{VariableName}
use Rattle.scene_model.specs.declared.variables.VariableName.TheVariants.{OfItem, LowEdge, HighEdge}
use Rattle.scene_model.specs.Names.{along, same_name, same_axis}
use Rattle.scene_model.specs.Diagram.{Diagram}

-- two variables are the same where their names, and edges, are the same
abbrev pub same_variable : VariableName → VariableName → Bool
same_variable (OfItem a) (OfItem b) = same_name a b
same_variable (LowEdge a) (LowEdge b) = same_name a b
same_variable (HighEdge a) (HighEdge b) = same_name a b
same_variable (OfItem a) _ = false
same_variable (LowEdge a) _ = false
same_variable (HighEdge a) _ = false

-- the low edge of a shape as declared, in diagram units
abbrev pub low : Axis → Shape → ℤ
low axis s = along axis s.x s.y

-- the width or height of a shape, in diagram units
abbrev pub size : Axis → Shape → ℤ
size axis s = along axis s.w s.h

-- the high edge of a shape as declared, in diagram units
abbrev pub high : Axis → Shape → ℤ
high axis s = low axis s +ℤ size axis s

-- half of a size, rounded down
abbrev pub half : ℤ → ℤ
half extent = int_div extent (pos 2)

-- the middle of a shape as declared, in diagram units
abbrev pub mid : Axis → Shape → ℤ
mid axis s = low axis s +ℤ half (size axis s)

-- the declared width or height of a page, in diagram units
abbrev pub page_size : Axis → Page → ℤ
page_size axis p = along axis p.w p.h

-- the variable of a shape: it weighs 1, held 1000
abbrev pub shape_variable : Axis → Shape → Variable
shape_variable axis s = record { name = OfItem s.name; weight = if s.held then 1000 else 1; anchor = low axis s; moves = s.moves }

-- the variable of a guideline: it weighs 1
abbrev pub guide_variable : Guide → Variable
guide_variable g = record { name = OfItem g.name; weight = 1; anchor = g.at; moves = g.moves }

-- the variables of a group: its low and its high edge, which weigh 1 and are never moved by an edit
abbrev pub group_variables : Axis → Group → List Variable
group_variables axis g =
    record { name = LowEdge g.name; weight = 1; anchor = along axis g.low.x g.low.y; moves = 0 }
    ∷ record { name = HighEdge g.name; weight = 1; anchor = along axis g.high.x g.high.y; moves = 0 }
    ∷ []

-- the variables of a page: its low and its high edge, which weigh 100 and are never moved by an edit
abbrev pub page_variables : Axis → Page → List Variable
page_variables axis p =
    record { name = LowEdge p.name; weight = 100; anchor = along axis p.x p.y; moves = 0 }
    ∷ record { name = HighEdge p.name; weight = 100; anchor = along axis (p.x +ℤ p.w) (p.y +ℤ p.h); moves = 0 }
    ∷ []

-- the guidelines of an axis, in order
abbrev pub guides_on : Axis → List Guide → List Guide
guides_on axis guides = filter (λ (g : Guide). same_axis g.axis axis) guides

-- the variables of an axis, in order: all shapes, the guidelines of the axis, the edges of each group, those of the page
abbrev pub variables : Diagram → Axis → List Variable
variables d axis =
    map (shape_variable axis) d.shapes ++ map guide_variable (guides_on axis d.guides) ++ flat_map (group_variables axis) d.groups
    ++ flat_map (page_variables axis) d.pages

-- the name of the variable of an item, or of its high or low edge; links and compounds have none
abbrev pub variable_name : Thing → Bool → Option VariableName
variable_name (thing.Shape s) high = Some (OfItem s.name)
variable_name (thing.Guide g) high = Some (OfItem g.name)
variable_name (thing.Link l) high = None
variable_name (thing.Compound c) high = None
variable_name (thing.Group g) high = Some (if high then HighEdge g.name else LowEdge g.name)
variable_name (thing.Page p) high = Some (if high then HighEdge p.name else LowEdge p.name)

-- the number of the variable of a name on an axis
abbrev pub variable_number : Diagram → Axis → VariableName → Option ℕ
variable_number d axis name = position (λ (v : Variable). same_variable name v.name) (variables d axis)

-- the same number; where no variable has the name, how many variables there are
abbrev pub number_or_count : Diagram → Axis → VariableName → ℕ
number_or_count d axis name = position_or_len (λ (v : Variable). same_variable name v.name) (variables d axis)

-- the name of the variable of an item that was found, or of its high or low edge
abbrev pub variable_found : Option Thing → Bool → Option VariableName
variable_found found high = option_map_or (λ (t : Thing). variable_name t high) found None

-- the number on an axis of the variable of an item that was found, or of its high or low edge
abbrev pub number_of_thing : Diagram → Axis → Option Thing → Bool → Option ℕ
number_of_thing d axis found high = option_map_or (variable_number d axis) (variable_found found high) None
