-- What an edit says of items by name (this project's own): one line for each edit.
use Rattle.std.specs.Prelude.{List, [], ◌∷◌, map, Bool, true, false, Option, Some, None}
use Rattle.std.specs.Option.{option_map_or}
use Rattle.scene_model.specs.declared.items.Sort.{Sort}
use Rattle.scene_model.specs.declared.items.Sort.TheVariants as sort
use Rattle.scene_model.specs.declared.uses.Wanted.TheVariants as wanted
use Rattle.scene_model.specs.Names.{NameOf}
use Rattle.scene_model.specs.Diagram.{Diagram}
use Rattle.scene_model.specs.Items.{sort_named}
use Rattle.scene_model.specs.Uses.{stands_as}
use Rattle.edit_rules.specs.declared.edits.Edit.{Edit}
use Rattle.edit_rules.specs.declared.edits.Edit.TheVariants as edit
use Rattle.edit_rules.specs.declared.naming.Ask.{Ask}
use Rattle.edit_rules.specs.declared.naming.Kind.{Kind}
use Rattle.edit_rules.specs.declared.naming.Kind.TheVariants as kind
use Rattle.edit_rules.specs.declared.naming.NewItem.{NewItem}
use Rattle.edit_rules.specs.declared.naming.Row.{Row}
use Rattle.edit_rules.specs.declared.naming.Row.TheVariants as row
use Rattle.edit_rules.specs.declared.naming.Names.{Names}

-- ---- what a name stands as

-- whether an item of a sort is of a kind, wherever it is placed
abbrev pub is_sort_of : Kind → Sort → Bool
is_sort_of kind.Shape sort.Shape = true
is_sort_of kind.Shape _ = false
is_sort_of kind.Guide sort.Guide = true
is_sort_of kind.Guide _ = false
is_sort_of (kind.Placed axis) sort.Shape = true
is_sort_of (kind.Placed axis) sort.Guide = true
is_sort_of (kind.Placed axis) _ = false
is_sort_of kind.ShapeOrGuide sort.Shape = true
is_sort_of kind.ShapeOrGuide sort.Guide = true
is_sort_of kind.ShapeOrGuide _ = false
is_sort_of kind.Link sort.Link = true
is_sort_of kind.Link _ = false
is_sort_of kind.Constraint sort.Compound = true
is_sort_of kind.Constraint sort.Group = true
is_sort_of kind.Constraint sort.Page = true
is_sort_of kind.Constraint _ = false

-- whether the item of a name is of such a sort
abbrev pub has_sort_of : Diagram → Kind → NameOf → Bool
has_sort_of d k name = option_map_or (is_sort_of k) (sort_named d name) false

-- whether the name stands as what is wanted
abbrev pub is_of_kind : Diagram → Kind → NameOf → Bool
is_of_kind d (kind.Placed axis) name = stands_as d.shapes d.guides (wanted.Placed axis) name
is_of_kind d kind.Shape name = has_sort_of d kind.Shape name
is_of_kind d kind.Guide name = has_sort_of d kind.Guide name
is_of_kind d kind.ShapeOrGuide name = has_sort_of d kind.ShapeOrGuide name
is_of_kind d kind.Link name = has_sort_of d kind.Link name
is_of_kind d kind.Constraint name = has_sort_of d kind.Constraint name

-- ---- what an edit says

-- what an edit says of items by name
pub record Naming : Type 0 where
  -- the names of its line that must stand, in their order, each with what it must stand as
  pub asks : List Ask
  -- its names that must differ, in their order: the members, or A and B
  pub row : List NameOf
  -- the new item
  pub makes : Option NewItem
  -- the item that no other may use
  pub frees : Option NameOf

-- each of these names must stand as one kind
abbrev pub each_as : Kind → List NameOf → List Ask
each_as k names = map (λ (name : NameOf). record { kind = k; name = name }) names

-- an edit that changes or takes away an item of a kind
abbrev pub changing : Kind → NameOf → Naming
changing k name = record { asks = each_as k (name ∷ []); row = []; makes = None; frees = None }

-- an edit that takes an item away, which no other may use
abbrev pub freeing : Kind → NameOf → Naming
freeing k name = record { asks = each_as k (name ∷ []); row = []; makes = None; frees = Some name }

-- an edit that makes an item by itself
abbrev pub alone : Sort → NameOf → Naming
alone s name = record { asks = []; row = []; makes = Some (record { name = name; sort = s }); frees = None }

-- an edit that makes an item from a row of items of one kind
abbrev pub making : Sort → NameOf → Kind → List NameOf → Naming
making s name k names = record { asks = each_as k names; row = names; makes = Some (record { name = name; sort = s }); frees = None }

-- an edit that makes an alignment, to a guideline
abbrev pub aligning : NameOf → NameOf → List NameOf → Naming
aligning name guide names = record {
  asks = record { kind = kind.Guide; name = guide } ∷ each_as kind.Shape names;
  row = names;
  makes = Some (record { name = name; sort = sort.Compound });
  frees = None;
}

-- what each edit says of items by name
abbrev pub naming : Edit → Naming
naming (edit.Put name form x y w h) = alone sort.Shape name
naming (edit.Size name w h) = changing kind.Shape name
naming (edit.Move name x y) = changing kind.Shape name
naming (edit.Shift name at) = changing kind.Guide name
naming (edit.Hold name) = changing kind.Shape name
naming (edit.Free name) = changing kind.Shape name
naming (edit.Remove name) = freeing kind.ShapeOrGuide name
naming (edit.Join name a b) = making sort.Link name kind.Shape (a ∷ b ∷ [])
naming (edit.Unlink name) = changing kind.Link name
naming (edit.Guide name axis at) = alone sort.Guide name
naming (edit.Align name guide line members) = aligning name guide members
naming (edit.Spread name axis gap members) = making sort.Compound name (kind.Placed axis) members
naming (edit.Rank name axis gap members) = making sort.Compound name (kind.Placed axis) members
naming (edit.Apart name axis a b gap exact) = making sort.Compound name (kind.Placed axis) (a ∷ b ∷ [])
naming (edit.Group name pad members) = making sort.Group name kind.Shape members
naming (edit.Page name x y w h margin rigid) = alone sort.Page name
naming (edit.Drop name) = changing kind.Constraint name

-- the names of the line that must stand, in their order
abbrev pub old_names : Edit → List NameOf
old_names e = map (λ (ask : Ask). ask.name) (naming e).asks

-- ---- how the program holds it

-- the names of a row
abbrev pub row_names : Row → List NameOf
row_names row.Nothing = []
row_names (row.Pair a b) = a ∷ b ∷ []
row_names (row.Members names) = names.now

-- the name in front of the row, with those of the row behind it
abbrev pub asks_of : Option Ask → Kind → List NameOf → List Ask
asks_of None k names = each_as k names
asks_of (Some ask) k names = ask ∷ each_as k names

-- what the program holds
abbrev pub naming_of : Names → Naming
naming_of names = record {
  asks = asks_of names.first names.kind (row_names names.row);
  row = row_names names.row;
  makes = names.makes;
  frees = names.frees;
}
