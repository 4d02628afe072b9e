-- Reading from left to right, as functions on lists of pieces. Contracts of private functions speak of these; that
-- they agree with the grammar is proved, and public contracts cite the grammar alone.
use Rattle.std.specs.Prelude.{◌≡◌, ℕ, ◌+◌, ◌-◌, ◌≤◌, List, [], ◌∷◌, ◌++◌, codes, length, map, drop, Bool, not, ◌&&◌, ◌==◌, nat_lt, nat_le, if◌then◌else◌, slice_index, bytes_eq, ⊤, Option, Some, None, Result, Ok, Err}
use Rattle.std.specs.List.{list_all}
use Rattle.units.specs.Name.{is_name, name_of}
use Rattle.script_text.specs.Words.{Word}
use Rattle.script_text.specs.Pieces.{pieces}
use Rattle.script_text.specs.Numbers.{number_of}
use Rattle.script_text.specs.Keywords.{keyword_word, all_keywords}
use Rattle.script_text.specs.Grammar.{Slot, NameSlot, NumberSlot, ChoiceSlot, MembersSlot, slots, is_choice}
use Rattle.script_text.specs.Commands.{Field, NameField, NumberField, ChoiceField, MembersField, command_keyword, command_fields}
use Rattle.script_text.specs.Scripts.{last_session, line_text, AreLines}
use Rattle.script_text.specs.declared.keywords.Keyword.{Keyword}
use Rattle.script_text.specs.declared.scripts.Command.{Command}
use Rattle.script_text.specs.declared.scripts.Line.{Line}
use Rattle.script_text.specs.declared.faults.FaultKind.{FaultKind}
use Rattle.script_text.specs.declared.faults.FaultKind.TheVariants as kind
use Rattle.script_text.specs.declared.faults.ScriptFault.{ScriptFault}
use Rattle.script_text.specs.declared.faults.LineFault.{LineFault}
use Rattle.script_text.specs.declared.faults.LineFault.TheVariants as no_line
use Rattle.script_text.specs.declared.faults.ReadFault.{ReadFault}
use Rattle.script_text.specs.declared.faults.ReadFault.TheVariants as cause

-- ---- the fields of a command

-- goes on with what was read, where something was
infixl 10 ◌>>=◌
abbrev pub ◌>>=◌ : {A B : Type 0} → Option A → (A → Option B) → Option B
(Some x) >>= f = f x
None >>= f = None

-- the field that a word is at a slot, if it is one
abbrev pub word_field : Slot → Word → Option Field
word_field NameSlot w = name_of w >>= λ n. Some (NameField n)
word_field NumberSlot w = number_of w >>= λ z. Some (NumberField z)
word_field (ChoiceSlot c) w = if is_choice c w then Some (ChoiceField c w) else None
word_field MembersSlot w = None

-- the words as members, where they are one name or more
abbrev pub members_of : List Word → Option (List Word)
members_of ws = if not (length ws == 0) && list_all is_name ws then Some ws else None

-- a field and the words behind it; members are all words
abbrev pub field_at : Slot → List Word → Option (Field × List Word)
field_at MembersSlot ws = members_of ws >>= λ ms. Some (MembersField ms, [])
field_at s [] = None
field_at s (w ∷ ws) = word_field s w >>= λ f. Some (f, ws)

-- no word is left
abbrev pub ends_at : List Word → Option (List Field)
ends_at [] = Some []
ends_at (w ∷ ws) = None

-- a field for each slot, and no word behind them
abbrev pub fields_at : List Slot → List Word → Option (List Field)
fields_at [] ws = ends_at ws
fields_at (s ∷ rest) ws = field_at s ws >>= λ f. fields_at rest f.1 >>= λ fs. Some (f.0 ∷ fs)

-- ---- a command

-- the first of these commands whose word it is
abbrev pub keyword_among : List Keyword → Word → Option Keyword
keyword_among [] w = None
keyword_among (k ∷ ks) w = if bytes_eq w (keyword_word k) then Some k else keyword_among ks w

-- the command whose word it is, if there is one
abbrev pub keyword_of : Word → Option Keyword
keyword_of w = keyword_among all_keywords w

-- a command as its keyword and its fields
abbrev pub Parts : Type 0
Parts = Keyword × List Field

-- the keyword and the fields of a command
abbrev pub parts : Command → Parts
parts c = (command_keyword c, command_fields c)

-- a keyword with the fields that were read, or the fault where none were
abbrev pub parts_or : Keyword → Option (List Field) → Result Parts FaultKind
parts_or k None = Err kind.Fields
parts_or k (Some fs) = Ok (k, fs)

-- the command with these words behind its keyword
abbrev pub command_by : List Word → Option Keyword → Result Parts FaultKind
command_by ws None = Err kind.Command
command_by ws (Some k) = parts_or k (fields_at (slots k) ws)

-- the command with these words
abbrev pub command_at : List Word → Result Parts FaultKind
command_at [] = Err kind.Command
command_at (w ∷ ws) = command_by ws (keyword_of w)

-- ---- a line

-- a line as its session and its command
abbrev pub LineParts : Type 0
LineParts = ℕ × Parts

-- the session and the command of a line
abbrev pub line_parts : Line → LineParts
line_parts line = (line.session, parts line.command)

-- the line begins with the digit of a session and a space
abbrev pub begins_session : List ℕ → Bool
begins_session line = nat_le 49 (slice_index line 0) && nat_le (slice_index line 0) (48 + last_session) && (slice_index line 1 == 32)

-- a command that was read, with its session
abbrev pub with_session : ℕ → Result Parts FaultKind → Result LineParts FaultKind
with_session s (Ok c) = Ok (s, c)
with_session s (Err f) = Err f

-- the command line behind k others
abbrev pub line_at : ℕ → List ℕ → Result LineParts FaultKind
line_at k line =
    if nat_lt 2048 (length line) then Err kind.Long
    else (if nat_le 2000 k then Err kind.TooMany
    else (if not (begins_session line) then Err kind.Session
    else with_session (slice_index line 0 - 48) (command_at (pieces 32 (drop 2 line)))))

-- ---- a script

-- the pieces behind the header of a script: its command lines, the line `end`, and nothing behind the last LF
abbrev pub body_pieces : List Line → List (List ℕ)
body_pieces lines = map line_text lines ++ codes "end" ∷ [] ∷ []

-- the pieces of a script
abbrev pub script_pieces : List Line → List (List ℕ)
script_pieces lines = codes "dunnart 1" ∷ body_pieces lines

-- ---- where reading stops

-- a fault in the line of this number
abbrev pub fault_at : ℕ → FaultKind → ScriptFault
fault_at line kind = record { line = line; kind = kind }

-- the bytes end before or within the last piece
abbrev pub last_kind : List ℕ → FaultKind
last_kind last = if length last == 0 then kind.Missing else kind.Cut

-- the fault of the first line, where it isn't the header
abbrev pub header_stop : List (List ℕ) → Option ScriptFault
header_stop [] = Some (fault_at 1 kind.Missing)
header_stop (last ∷ []) = Some (fault_at 1 (last_kind last))
header_stop (line ∷ next ∷ more) = if bytes_eq line (codes "dunnart 1") then None else Some (fault_at 1 kind.Header)

-- the fault behind k command lines and the line `end`, unless the last piece is empty
abbrev pub end_stop : ℕ → List (List ℕ) → Option ScriptFault
end_stop k ([] ∷ []) = None
end_stop k _ = Some (fault_at (k + 3) kind.After)

-- the fault of the line behind k command lines, where it isn't read
abbrev pub line_stop : ℕ → Result LineParts FaultKind → Option ScriptFault
line_stop k (Ok l) = None
line_stop k (Err f) = Some (fault_at (k + 2) f)

-- the fault of what is left behind k command lines, where its first line isn't read
abbrev pub body_stop : ℕ → List (List ℕ) → Option ScriptFault
body_stop k [] = Some (fault_at (k + 2) kind.Missing)
body_stop k (last ∷ []) = Some (fault_at (k + 2) (last_kind last))
body_stop k (line ∷ next ∷ more) = if bytes_eq line (codes "end") then end_stop k (next ∷ more) else line_stop k (line_at k line)

-- the command lines in front are read, and what is left behind them has the fault
pub record StopsBehind (body : List (List ℕ)) (fault : ScriptFault) : Type 0 where
  pub front : List Line
  pub are : AreLines 2 front
  pub few : length front ≤ 2000
  pub left : List (List ℕ)
  pub some : left ≡ [] → ⊥
  pub is : body ≡ map line_text front ++ left
  pub stop : body_stop (length front) left ≡ Some fault

-- the header has the fault, or is read, and what stands behind it has the fault
pub data Stops (pieces_of_script : List (List ℕ)) (fault : ScriptFault) : Type 0 where
  AtHeader : header_stop pieces_of_script ≡ Some fault → Stops pieces_of_script fault
  Behind : (body : List (List ℕ)) → pieces_of_script ≡ codes "dunnart 1" ∷ body → StopsBehind body fault → Stops pieces_of_script fault

-- what a function answered in place of a line: a fault of this kind, unless memory ran out
abbrev pub AnswersKind : (FaultKind → Type 0) → LineFault → Type 0
AnswersKind Is no_line.Memory = ⊤
AnswersKind Is (no_line.Kind kind) = Is kind

-- what a function answered in place of a value: this fault, unless memory ran out
abbrev pub Answers : (ScriptFault → Type 0) → ReadFault → Type 0
Answers Is cause.Memory = ⊤
Answers Is (cause.Fault fault) = Is fault
