-- How many separations a diagram has, as sums over its items.
use Rattle.std.specs.Prelude.{ℕ, ◌+◌, ◌-◌, ◌*◌, List, [], ◌∷◌, length, if◌then◌else◌}
use Rattle.units.specs.declared.geometry.Axis.{Axis}
use Rattle.scene_model.specs.declared.items.Guide.{Guide}
use Rattle.scene_model.specs.declared.items.Rule.{Rule}
use Rattle.scene_model.specs.declared.items.Rule.TheVariants as rule
use Rattle.scene_model.specs.declared.items.Compound.{Compound}
use Rattle.scene_model.specs.declared.items.Group.{Group}
use Rattle.scene_model.specs.declared.items.Page.{Page}
use Rattle.scene_model.specs.declared.items.Thing.{Thing}
use Rattle.scene_model.specs.Names.{same_axis}
use Rattle.scene_model.specs.Diagram.{Diagram}
use Rattle.scene_model.specs.Items.{with_thing}
use Rattle.scene_model.specs.Uses.{has_guide_on}
use Rattle.scene_model.specs.Separations.{separations}

-- one for each member of an alignment, one for each two neighbours of a spread or rank, and one of two items apart; none
-- where the rule is of the other axis
abbrev pub rule_count : Axis → List Guide → Rule → ℕ
rule_count axis guides (rule.Align guide line members) = if has_guide_on axis guides guide then length members else 0
rule_count axis guides (rule.Spread own gap members) = if same_axis own axis then length members - 1 else 0
rule_count axis guides (rule.Rank own gap members) = if same_axis own axis then length members - 1 else 0
rule_count axis guides (rule.Apart own a b gap exact) = if same_axis own axis then 1 else 0

abbrev pub compound_count : Axis → List Guide → Compound → ℕ
compound_count axis guides c = rule_count axis guides c.rule

-- two for each member, and one for the edges
abbrev pub group_count : Group → ℕ
group_count g = 2 * length g.members + 1

-- two for each of so many shapes, one for the edges, and one more of a rigid page
abbrev pub page_count : ℕ → Page → ℕ
page_count shapes p = 2 * shapes + (if p.rigid then 2 else 1)

-- what a number of each element adds up to
abbrev pub total_of : {A : Type 0} → (A → ℕ) → List A → ℕ
total_of number [] = 0
total_of number (x ∷ xs) = number x + total_of number xs

-- those of all compounds, all groups and the page
abbrev pub separation_count : Diagram → Axis → ℕ
separation_count d axis =
    total_of (compound_count axis d.guides) d.compounds + total_of group_count d.groups + total_of (page_count (length d.shapes)) d.pages

-- how many separations a diagram has with an item more, the last of its sort
abbrev pub count_with : Diagram → Axis → Thing → ℕ
count_with d axis t = length (separations (with_thing d t) axis)
