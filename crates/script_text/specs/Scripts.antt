-- Scripts, and the bytes that spell them (the format is this project's own).
use Rattle.std.specs.Prelude.{◌≡◌, ℕ, ◌+◌, ◌≤◌, List, [], ◌∷◌, ◌++◌, codes, length, map, ⊤, decimal}
use Rattle.std.specs.List.{concat}
use Rattle.script_text.specs.Words.{spaced}
use Rattle.script_text.specs.Commands.{IsCommand, command_words}
use Rattle.script_text.specs.declared.scripts.Line.{Line}

-- ---- what a script is

-- sessions are numbered from 1 up to this one
abbrev pub last_session : ℕ
last_session = 8

-- the text of a line, without its LF: the session and the words of the command, divided by one space
abbrev pub line_text : Line → List ℕ
line_text line = spaced (decimal line.session ∷ command_words line.command)

-- the line of this number: a session that there is, a command that a script can have, and at most 2,048 bytes
pub record IsLine (number : ℕ) (line : Line) : Type 0 where
  pub numbered : line.number ≡ number
  pub session : (1 ≤ line.session) × (line.session ≤ last_session)
  pub command : IsCommand line.command
  pub short : length (line_text line) ≤ 2048

-- lines that are numbered in order from this number on
abbrev pub AreLines : ℕ → List Line → Type 0
AreLines number [] = ⊤
AreLines number (line ∷ lines) = IsLine number line × AreLines (number + 1) lines

-- the lines of a script: at most 2,000 command lines, the first of them numbered 2
pub record IsScript (lines : List Line) : Type 0 where
  pub few : length lines ≤ 2000
  pub are : AreLines 2 lines

-- ---- the bytes of a script

-- a text with the LF at its end
abbrev pub with_lf : List ℕ → List ℕ
with_lf text = text ++ 10 ∷ []

-- the texts of all lines: the header, the command lines, and the line `end`
abbrev pub script_texts : List Line → List (List ℕ)
script_texts lines = codes "dunnart 1" ∷ map line_text lines ++ codes "end" ∷ []

-- the bytes of a script: each line with a LF at its end
abbrev pub script_bytes : List Line → List ℕ
script_bytes lines = concat (map with_lf (script_texts lines))

-- the bytes spell the script
pub record Spells (bytes : List ℕ) (lines : List Line) : Type 0 where
  pub script : IsScript lines
  pub text : bytes ≡ script_bytes lines

-- no script has these bytes
abbrev pub SpellsNone : List ℕ → Type 0
SpellsNone bytes = (lines : List Line) → Spells bytes lines → ⊥
