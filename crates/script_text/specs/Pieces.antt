-- The pieces of a text between the places of a byte.
use Rattle.std.specs.Prelude.{ℕ, List, [], ◌==◌, Option, Some, None}
use Rattle.std.specs.List.{slice_split}
use denote.Bor.{Bor}
use Rattle.script_text.specs.declared.pieces.Pieces.TheInside.{Inside}

-- what stands before, between and behind the places of the byte
abbrev pub pieces : ℕ → List ℕ → List (List ℕ)
pieces by bytes = slice_split (λ b. b == by) bytes

-- the pieces of what is left, if anything is
abbrev pub pieces_of : ℕ → Option (Bor (List ℕ)) → List (List ℕ)
pieces_of by None = []
pieces_of by (Some rest) = pieces by rest.now

-- the pieces that a cursor has still to give
abbrev pub pieces_left : Inside → List (List ℕ)
pieces_left a = pieces_of a.by a.rest
