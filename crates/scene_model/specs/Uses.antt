-- What items use other items: links, compounds and groups name shapes and guidelines.
use Rattle.std.specs.Prelude.{◌≡◌, ℕ, ◌≤◌, List, [], ◌∷◌, ◌++◌, length, map, find, Bool, true, ◌||◌, ◌&&◌, Option}
use Rattle.std.specs.Option.{option_map}
use Rattle.std.specs.List.{AllByRecursion, IsDistinct, list_any}
use Rattle.units.specs.declared.geometry.Axis.{Axis}
use Rattle.scene_model.specs.declared.items.Shape.{Shape}
use Rattle.scene_model.specs.declared.items.Guide.{Guide}
use Rattle.scene_model.specs.declared.items.Link.{Link}
use Rattle.scene_model.specs.declared.items.Rule.{Rule}
use Rattle.scene_model.specs.declared.items.Rule.TheVariants as rule
use Rattle.scene_model.specs.declared.items.Compound.{Compound}
use Rattle.scene_model.specs.declared.items.Group.{Group}
use Rattle.scene_model.specs.declared.uses.Wanted.{Wanted}
use Rattle.scene_model.specs.declared.uses.Wanted.TheVariants as wanted
use Rattle.scene_model.specs.Names.{NameOf, same_name, same_axis}
use Rattle.scene_model.specs.Diagram.{Diagram, shape_names, guide_names}

-- ---- what stands

-- a shape of the name stands
abbrev pub has_shape : List Shape → NameOf → Bool
has_shape shapes name = list_any (same_name name) (shape_names shapes)

-- a guideline of the name stands
abbrev pub has_guide : List Guide → NameOf → Bool
has_guide guides name = list_any (same_name name) (guide_names guides)

-- a guideline of the name stands, and has this axis
abbrev pub has_guide_on : Axis → List Guide → NameOf → Bool
has_guide_on axis guides name = list_any (λ (g : Guide). same_name name g.name && same_axis g.axis axis) guides

-- among these shapes and guidelines the name stands as what is wanted
abbrev pub stands_as : List Shape → List Guide → Wanted → NameOf → Bool
stands_as shapes guides wanted.Shape name = has_shape shapes name
stands_as shapes guides wanted.Guide name = has_guide guides name
stands_as shapes guides (wanted.Placed axis) name = has_shape shapes name || has_guide_on axis guides name

-- ---- what items use

-- a name that an item uses, and what it must stand as
pub record Use : Type 0 where
  pub wanted : Wanted
  pub name : NameOf

-- the use of each of these names
abbrev pub each : Wanted → List NameOf → List Use
each want names = map (λ (n : NameOf). record { wanted = want; name = n }) names

-- what a link uses
abbrev pub link_uses : Link → List Use
link_uses l = each wanted.Shape (l.a ∷ l.b ∷ [])

-- what a rule uses
abbrev pub rule_uses : Rule → List Use
rule_uses (rule.Align guide line members) = each wanted.Guide (guide ∷ []) ++ each wanted.Shape members
rule_uses (rule.Spread axis gap members) = each (wanted.Placed axis) members
rule_uses (rule.Rank axis gap members) = each (wanted.Placed axis) members
rule_uses (rule.Apart axis a b gap exact) = each (wanted.Placed axis) (a ∷ b ∷ [])

-- what a group uses
abbrev pub group_uses : Group → List Use
group_uses g = each wanted.Shape g.members

-- the names of a rule that must differ
abbrev pub rule_row : Rule → List NameOf
rule_row (rule.Align guide line members) = members
rule_row (rule.Spread axis gap members) = members
rule_row (rule.Rank axis gap members) = members
rule_row (rule.Apart axis a b gap exact) = a ∷ b ∷ []

-- the most members of a compound or group (the limit is this project's own)
abbrev pub most_members : ℕ
most_members = 64

-- an item uses these names: each stands as what is wanted, and those that must differ do and are not too many
pub record IsUser (shapes : List Shape) (guides : List Guide) (uses : List Use) (row : List NameOf) : Type 0 where
  pub stand : AllByRecursion (λ (u : Use). stands_as shapes guides u.wanted u.name ≡ true) uses
  pub differ : IsDistinct same_name row
  pub few : length row ≤ most_members

-- ---- who uses an item

-- the name is among the uses
abbrev pub is_used_in : List Use → NameOf → Bool
is_used_in uses name = list_any (λ (u : Use). same_name name u.name) uses

-- a link, a compound or a group: its name, and what it uses
pub record User : Type 0 where
  pub name : NameOf
  pub uses : List Use

abbrev pub link_user : Link → User
link_user l = record { name = l.name; uses = link_uses l }

abbrev pub compound_user : Compound → User
compound_user c = record { name = c.name; uses = rule_uses c.rule }

abbrev pub group_user : Group → User
group_user g = record { name = g.name; uses = group_uses g }

-- all of them: the links, then the compounds, then the groups, each in their order
abbrev pub users : Diagram → List User
users d = map link_user d.links ++ map compound_user d.compounds ++ map group_user d.groups

-- the name of the first that uses the item of a name
abbrev pub user_of : Diagram → NameOf → Option NameOf
user_of d name = option_map (λ (u : User). u.name) (find (λ (u : User). is_used_in u.uses name) (users d))
