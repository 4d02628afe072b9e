-- What a source gives: bytes from the front of those that are still to come, where it tells them.
use Rattle.std.specs.Prelude.{◌≡◌, ◌<◌, ◌≤◌, ℕ, List, Option, length}
use Rattle.std.specs.Io.KnownBytes.{prepend_known}
use Rattle.byte_edge.specs.Count.{count_on}

-- A source gave these bytes: they stood in front of what is still to come, and its count of bytes went on by their number.
-- A source that told what is still to come tells it afterwards, and one that did not does not.
pub record Gives (left left' : Option (List ℕ)) (given given' : ℕ) (bytes : List ℕ) : Type 0 where
  pub told : left ≡ prepend_known bytes left'
  pub counted : given' ≡ count_on given (length bytes)

-- a source gave some bytes, at most so many
abbrev pub GivesWithin : ℕ → Option (List ℕ) → Option (List ℕ) → ℕ → ℕ → Type 0
GivesWithin limit left left' given given' = (bytes : List ℕ) × (length bytes ≤ limit) × Gives left left' given given' bytes

-- a source gave some bytes, more than so many
abbrev pub GivesPast : ℕ → Option (List ℕ) → Option (List ℕ) → ℕ → ℕ → Type 0
GivesPast limit left left' given given' = (bytes : List ℕ) × (limit < length bytes) × Gives left left' given given' bytes
