-- Tables of words, as lists of spellings. The number of a row is its place, from 0.
use Rattle.std.specs.Prelude.{ℕ, Bool, true, not, ◌&&◌, List, [], ◌∷◌, map, bytes_eq}
use Rattle.std.specs.List.{list_any}
use Rattle.std.specs.Borrow.{Bor}

-- whether no spelling stands in two rows
abbrev pub all_differ : List (List ℕ) → Bool
all_differ [] = true
all_differ (spelling ∷ rest) = not (list_any (bytes_eq spelling) rest) && all_differ rest

-- the bytes behind each row
abbrev pub spellings : List (Bor (List ℕ)) → List (List ℕ)
spellings rows = map (λ (row : Bor (List ℕ)). row.now) rows
