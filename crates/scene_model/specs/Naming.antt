-- Items of one sort by name.
use Rattle.std.specs.Prelude.{List, map, Bool, if◌then◌else◌}
use Rattle.std.specs.List.{list_any}
use Rattle.scene_model.specs.Names.{NameOf, same_name}

-- whether one of the items has the name
abbrev pub has_name : {T : Type 0} → (T → NameOf) → NameOf → List T → Bool
has_name name_of name items = list_any (same_name name) (map name_of items)

-- the items, of which the one with the name of a further item is replaced by that
abbrev pub replaced : {T : Type 0} → (T → NameOf) → T → List T → List T
replaced name_of item items = map (λ other. if same_name (name_of item) (name_of other) then item else other) items
