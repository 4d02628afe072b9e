-- What a sink takes: bytes behind those that it has, where it tells them.
use Rattle.std.specs.Prelude.{◌≡◌, ◌<◌, ℕ, List, Option, length, take}
use Rattle.std.specs.Io.KnownBytes.{append_known}

-- A sink took a part of the bytes, from their front and not all of them.
-- A sink that told what it has tells it afterwards, and one that did not does not.
abbrev pub TakesPart : Option (List ℕ) → Option (List ℕ) → List ℕ → Type 0
TakesPart put put' bytes = (n : ℕ) × (n < length bytes) × (put' ≡ append_known put (take n bytes))
