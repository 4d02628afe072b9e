-- Faults: the line at which bytes stop being a script, and what is wrong with it (the format is this project's own).
use Rattle.std.specs.Prelude.{◌≡◌, ℕ, ◌+◌, ◌-◌, ◌<◌, ◌≤◌, List, [], ◌∷◌, ◌++◌, codes, length, map, take, drop, get_or, ⊤, decimal}
use Rattle.std.specs.List.{concat}
use Rattle.script_text.specs.Words.{Word}
use Rattle.script_text.specs.Pieces.{pieces}
use Rattle.script_text.specs.Keywords.{keyword_word}
use Rattle.script_text.specs.Scripts.{last_session, IsScript, script_texts, with_lf, SpellsNone}
use Rattle.script_text.specs.declared.keywords.Keyword.{Keyword}
use Rattle.script_text.specs.declared.scripts.Line.{Line}
use Rattle.script_text.specs.declared.faults.FaultKind.{FaultKind}
use Rattle.script_text.specs.declared.faults.FaultKind.TheVariants as kind
use Rattle.script_text.specs.declared.faults.ScriptFault.{ScriptFault}
use Rattle.script_text.specs.declared.faults.ReadFault.{ReadFault}
use Rattle.script_text.specs.declared.faults.ReadFault.TheVariants as cause

-- ---- the line of a fault

-- the bytes begin with the first n lines of some script, each with its LF
pub record Begins (bytes : List ℕ) (n : ℕ) : Type 0 where
  pub lines : List Line
  pub script : IsScript lines
  pub within : n ≤ length (script_texts lines)
  pub rest : List ℕ
  pub is : bytes ≡ concat (map with_lf (take n (script_texts lines))) ++ rest

-- ---- the kind of a fault

-- the line behind n others, without its LF
abbrev pub line_behind : List ℕ → ℕ → List ℕ
line_behind bytes n = get_or (pieces 10 bytes) n []

-- a LF ends the line behind n others
abbrev pub HasLf : List ℕ → ℕ → Type 0
HasLf bytes n = n + 1 < length (pieces 10 bytes)

-- the line begins with the digit of a session and a space
pub record BeginsSession (line : List ℕ) : Type 0 where
  pub session : ℕ
  pub is_session : (1 ≤ session) × (session ≤ last_session)
  pub rest : List ℕ
  pub is : line ≡ decimal session ++ 32 ∷ rest

-- the bytes behind these two, up to the next space or the end of the line
abbrev pub word_behind_session : List ℕ → Word
word_behind_session line = get_or (pieces 32 (drop 2 line)) 0 []

-- the word is that of this command
abbrev pub HasCommand : List ℕ → Keyword → Type 0
HasCommand line k = word_behind_session line ≡ keyword_word k

-- what each kind says of the line behind n others
abbrev pub Holds : FaultKind → List ℕ → ℕ → Type 0
Holds kind.After bytes n = (0 < n) × (line_behind bytes (n - 1) ≡ codes "end")
Holds kind.Missing bytes n = (HasLf bytes n → ⊥) × (line_behind bytes n ≡ [])
Holds kind.Cut bytes n = (HasLf bytes n → ⊥) × (line_behind bytes n ≡ [] → ⊥)
Holds kind.Header bytes n = n ≡ 0
Holds kind.Long bytes n = 2048 < length (line_behind bytes n)
Holds kind.TooMany bytes n = 2000 + 1 ≤ n
Holds kind.Session bytes n = BeginsSession (line_behind bytes n) → ⊥
Holds kind.Command bytes n = (k : Keyword) → HasCommand (line_behind bytes n) k → ⊥
Holds kind.Fields bytes n = ⊤

-- the order of the kinds
abbrev pub rank : FaultKind → ℕ
rank kind.After = 0
rank kind.Missing = 1
rank kind.Cut = 2
rank kind.Header = 3
rank kind.Long = 4
rank kind.TooMany = 5
rank kind.Session = 6
rank kind.Command = 7
rank kind.Fields = 8

-- the first kind that holds
pub record IsFirstKind (bytes : List ℕ) (n : ℕ) (kind : FaultKind) : Type 0 where
  pub holds : Holds kind bytes n
  pub first : (other : FaultKind) → rank other < rank kind → Holds other bytes n → ⊥

-- ---- the fault

-- the fault of bytes that spell no script: its line is the one behind the greatest number of whole first lines with
-- which some script begins, and its kind is the first that holds
pub record IsFault (bytes : List ℕ) (fault : ScriptFault) : Type 0 where
  pub none : SpellsNone bytes
  pub lines : ℕ
  pub line : fault.line ≡ lines + 1
  pub begins : Begins bytes lines
  pub most : (n : ℕ) → Begins bytes n → n ≤ lines
  pub kind : IsFirstKind bytes lines fault.kind

-- why bytes are not read: they have the fault, or memory ran out
abbrev pub IsCause : List ℕ → ReadFault → Type 0
IsCause bytes (cause.Fault fault) = IsFault bytes fault
IsCause bytes cause.Memory = ⊤
