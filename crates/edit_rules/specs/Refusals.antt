-- The first refusal of a diagram as a function. What each refusal says stands in `Causes`; `check` tells that both agree.
use Rattle.std.specs.Prelude.{ℕ, List, [], ◌∷◌, ◌++◌, length, map, nat_lt, nat_le, not, Bool, false, ◌||◌, if◌then◌else◌, Option, Some, None, find}
use Rattle.std.specs.Option.{option_map, option_map_or}
use Rattle.std.specs.List.{list_any}
use Rattle.units.specs.declared.geometry.Axis.{Axis}
use Rattle.units.specs.declared.geometry.Axis.TheVariants.{X, Y}
use Rattle.scene_model.specs.declared.items.Sort.{Sort}
use Rattle.scene_model.specs.declared.items.Sort.TheVariants as sort
use Rattle.scene_model.specs.Names.{NameOf, same_name}
use Rattle.scene_model.specs.Diagram.{Diagram, most_of}
use Rattle.scene_model.specs.Uses.{most_members, user_of}
use Rattle.scene_model.specs.Items.{stands, count_of}
use Rattle.sep_gen.specs.Counted.{count_with}
use Rattle.edit_rules.specs.declared.edits.Edit.{Edit}
use Rattle.edit_rules.specs.declared.naming.Ask.{Ask}
use Rattle.edit_rules.specs.declared.naming.NewItem.{NewItem}
use Rattle.edit_rules.specs.declared.refusals.Counted.{Counted}
use Rattle.edit_rules.specs.declared.refusals.Counted.TheVariants as counted
use Rattle.edit_rules.specs.declared.refusals.Refusal.{Refusal}
use Rattle.edit_rules.specs.declared.refusals.Refusal.TheVariants as refusal
use Rattle.edit_rules.specs.Effects.{made}
use Rattle.edit_rules.specs.Naming.{Naming, naming, is_of_kind}
use Rattle.edit_rules.specs.Ranges.{numbers, is_outside}

-- the first number outside its range
abbrev pub range_refusal : Edit → Option Refusal
range_refusal e = option_map (λ r. refusal.Range r.value) (find is_outside (numbers e))

-- the first of the names that doesn't stand
abbrev pub unknown_among : Diagram → List NameOf → Option Refusal
unknown_among d names = option_map refusal.Unknown (find (λ name. not (stands d name)) names)

-- the name of a new item, where it stands already
abbrev pub taken_refusal : Diagram → Option NewItem → Option Refusal
taken_refusal d makes = option_map_or (λ (item : NewItem). if stands d item.name then Some (refusal.Taken item.name) else None) makes None

-- the first of the names that stands as another kind than is wanted
abbrev pub kind_among : Diagram → List Ask → Option Refusal
kind_among d asks = option_map (λ (ask : Ask). refusal.Kind ask.name) (find (λ (ask : Ask). not (is_of_kind d ask.kind ask.name)) asks)

-- the first name that equals one before it, behind the names that were seen
abbrev pub first_twice : List NameOf → List NameOf → Option NameOf
first_twice seen [] = None
first_twice seen (name ∷ names) = if list_any (same_name name) seen then Some name else first_twice (seen ++ name ∷ []) names

-- the first of the names that equals an earlier one
abbrev pub twice_among : List NameOf → Option Refusal
twice_among names = option_map refusal.Twice (first_twice [] names)

-- the first item that uses the one that no other may use
abbrev pub in_use_refusal : Diagram → Option NameOf → Option Refusal
in_use_refusal d frees = option_map_or (λ name. option_map refusal.InUse (user_of d name)) frees None

-- what the limit on a sort counts
abbrev pub counted_as : Sort → Counted
counted_as sort.Shape = counted.Shapes
counted_as sort.Guide = counted.Guides
counted_as sort.Link = counted.Links
counted_as sort.Compound = counted.Compounds
counted_as sort.Group = counted.Groups
counted_as sort.Page = counted.Pages

-- more members than a compound or group may have
abbrev pub members_refusal : List NameOf → Option Refusal
members_refusal row = if nat_lt most_members (length row) then Some (refusal.Limit counted.Members most_members) else None

-- so many of a sort stand that no more may
abbrev pub count_refusal : Diagram → Sort → Option Refusal
count_refusal d s = if nat_le (most_of s) (count_of d s) then Some (refusal.Limit (counted_as s) (most_of s)) else None

-- so many of the new item's sort stand that no more may
abbrev pub full_refusal : Diagram → Option NewItem → Option Refusal
full_refusal d makes = option_map_or (λ (item : NewItem). count_refusal d item.sort) makes None

-- the most separations of an axis (the limit is this project's own)
abbrev pub most_separations : ℕ
most_separations = 2048

-- whether the edit makes an item with which an axis has more separations than that
abbrev pub is_crowded : Diagram → Edit → Axis → Bool
is_crowded d e axis = option_map_or (λ t. nat_lt most_separations (count_with d axis t)) (made d e) false

-- with the new item an axis has more separations than it may
abbrev pub separations_refusal : Diagram → Edit → Option Refusal
separations_refusal d e = if is_crowded d e X || is_crowded d e Y then Some (refusal.Limit counted.Seps most_separations) else None

-- the first refusal that there is
abbrev pub first_of : List (Option Refusal) → Option Refusal
first_of [] = None
first_of (None ∷ rest) = first_of rest
first_of (Some r ∷ rest) = Some r

-- those that what an edit says of items by name gives, in their order
abbrev pub named_refusals : Diagram → Naming → List (Option Refusal)
named_refusals d says =
    unknown_among d (map (λ (ask : Ask). ask.name) says.asks)
    ∷ taken_refusal d says.makes
    ∷ kind_among d says.asks
    ∷ twice_among says.row
    ∷ in_use_refusal d says.frees
    ∷ []

-- those of the limits on members and on sorts
abbrev pub limit_refusals : Diagram → List NameOf → Option NewItem → List (Option Refusal)
limit_refusals d row makes = members_refusal row ∷ full_refusal d makes ∷ []

-- each refusal, in their order
abbrev pub refusals : Diagram → Edit → List (Option Refusal)
refusals d e = range_refusal e ∷ (named_refusals d (naming e) ++ (limit_refusals d (naming e).row (naming e).makes ++ separations_refusal d e ∷ []))

-- the first refusal, or None where the diagram accepts the edit
unfoldable pub refusal_of : Diagram → Edit → Option Refusal
refusal_of d e = first_of (refusals d e)
