-- Words, and the text that they make.
use Rattle.std.specs.Prelude.{ℕ, List, [], ◌∷◌, ◌++◌}
use Rattle.std.specs.List.{join_with_byte}

-- a word, as its bytes
abbrev pub Word : Type 0
Word = List ℕ

-- the words in one line, divided by one space
abbrev pub spaced : List Word → List ℕ
spaced words = join_with_byte 32 words

-- the words, each with a space before it, as they stand behind others
abbrev pub behind : List Word → List ℕ
behind [] = []
behind (w ∷ words) = 32 ∷ w ++ behind words
