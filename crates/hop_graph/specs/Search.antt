-- What the steps of the search for hop distances know.
use Rattle.std.specs.Prelude.{◌≡◌, ℕ, ◌<◌, List, [], length, Bool, ◌&&◌, ◌||◌, ◌==◌, nat_eq, Option, slice_index_or}
use Rattle.std.specs.List.{list_any}
use Rattle.std.specs.Option.{option_or}
use Rattle.scene_model.specs.Diagram.{Diagram}
use Rattle.hop_graph.specs.declared.links.Ends.{Ends}
use Rattle.hop_graph.specs.Links.{is_linked, is_number}
use Rattle.hop_graph.specs.Walks.{where_passed, has_walk, least_up_to}
use Rattle.hop_graph.specs.Tables.{entry_at}

-- whether these are the ends of a pair, in either direction
abbrev pub ends_join : ℕ → ℕ → Ends → Bool
ends_join i j e = ((e.a == i) && (e.b == j)) || ((e.a == j) && (e.b == i))

-- for each shape the numbers of those that are linked to it
pub record IsAdjacency (d : Diagram) (rows : List (List ℕ)) : Type 0 where
  pub counted : length rows ≡ length d.shapes
  pub linked : (i : ℕ) → i < length d.shapes → (j : ℕ) → list_any (nat_eq j) (slice_index_or rows i []) ≡ is_linked d i j

-- a shape that was reached before keeps its distance; another one that is a target gets this one
abbrev pub IsMarked : List (Option ℕ) → ℕ → (ℕ → Bool) → List (Option ℕ) → Type 0
IsMarked old hops is_target new =
    (j : ℕ) → j < length old → entry_at new j ≡ option_or (entry_at old j) (where_passed hops (is_target j))

-- whether the shape of a number has this distance in a row
abbrev pub has_distance : List (Option ℕ) → ℕ → ℕ → Bool
has_distance row hops i = is_number (entry_at row i) hops

-- the row holds each distance up to a bound
abbrev pub IsFound : Diagram → ℕ → ℕ → List (Option ℕ) → Type 0
IsFound d start bound row =
    (length row ≡ length d.shapes)
    × ((j : ℕ) → j < length d.shapes → entry_at row j ≡ least_up_to (has_walk (is_linked d) (length d.shapes) start j) bound)
