-- The script of a run: what is known of its bytes, where it is read and the source tells them, and why reading fails; or the
-- made script.
use Rattle.std.specs.Prelude.{◌≡◌, ◌⊎◌, ◌≤◌, ℕ, List, length, Option, Some, IfSome, MatchOption}
use Rattle.std.specs.Io.KnownBytes.{IsAtEnd}
use Rattle.byte_edge.specs.Count.{HasRisen}
use Rattle.byte_edge.specs.Given.{GivesPast, GivesWithin}
use Rattle.script_text.specs.declared.scripts.Line.{Line}
use Rattle.script_text.specs.declared.faults.ScriptFault.{ScriptFault}
use Rattle.script_text.specs.Scripts.{Spells}
use Rattle.script_text.specs.Faults.{IsFault}
use Rattle.command_line.specs.declared.plans.Plan.{Plan}
use Rattle.made_script.specs.Made.{made_lines}
use Rattle.editor_run.specs.declared.outcome.Fault.{Fault}
use Rattle.editor_run.specs.declared.outcome.Fault.TheVariants as fault
use Rattle.editor_run.specs.Ends.{Reading}

-- the most bytes of a script
abbrev pub most_bytes : ℕ
most_bytes = 1048576

-- where the bytes are told, they spell the script
abbrev pub SpelledBy : Option (List ℕ) → List Line → Type 0
SpelledBy left script = IfSome left (λ bytes. Spells bytes script)

-- where the bytes are told, they spell no script, and the fault is theirs
abbrev pub HasFault : Option (List ℕ) → ScriptFault → Type 0
HasFault left found = IfSome left (λ bytes. IsFault bytes found)

-- the source was read to its end, and its bytes spell the script
pub record IsRead (reading : Reading) (script : List Line) : Type 0 where
  pub spelled : SpelledBy reading.left_before script
  pub end : IsAtEnd reading.left_after

-- nothing was read: no byte was given, and nothing failed
pub record IsUnread (reading : Reading) : Type 0 where
  pub left : reading.left_after ≡ reading.left_before
  pub given : reading.given_after ≡ reading.given_before
  pub faults : reading.faults_after ≡ reading.faults_before

-- the script of a plan: the made one of its number, and then nothing was read; where it has none, the one that the source gave
abbrev pub IsInput : Plan → Reading → List Line → Type 0
IsInput plan reading script = MatchOption plan.made (IsRead reading script) (λ number. IsUnread reading × (script ≡ made_lines number))

-- the source was read to its end, and its bytes spell no script: the fault is theirs
pub record IsFaulty (reading : Reading) (found : ScriptFault) : Type 0 where
  pub none_spelled : HasFault reading.left_before found
  pub end : IsAtEnd reading.left_after

-- the source gave more than the most bytes of a script
abbrev pub IsTooLong : Reading → Type 0
IsTooLong reading = GivesPast most_bytes reading.left_before reading.left_after reading.given_before reading.given_after

-- the source gave at most so many
abbrev pub IsWithin : Reading → Type 0
IsWithin reading = GivesWithin most_bytes reading.left_before reading.left_after reading.given_before reading.given_after

-- the faults that have to do with the source have their causes in it
pub record HasReadCauses (reading : Reading) (cause : Option Fault) : Type 0 where
  -- a faulty script was read to its end, and is none
  pub no_script : (f : ScriptFault) → cause ≡ Some (fault.Script f) → IsFaulty reading f
  -- where the source failed, its faults rose
  pub source_failed : cause ≡ Some fault.Source → HasRisen reading.faults_before reading.faults_after
  -- else they stay
  pub source_calm : (cause ≡ Some fault.Source) ⊎ (reading.faults_after ≡ reading.faults_before)
  -- too long is an input of more than the most bytes
  pub too_long : cause ≡ Some fault.Long → IsTooLong reading
  -- else at most so many were given
  pub within : (cause ≡ Some fault.Long) ⊎ IsWithin reading

-- where no read failed, and the bytes are told, are not too many and spell a script, this holds
abbrev pub WhereSpelled : Reading → Type 0 → Type 0
WhereSpelled reading P = ¬ HasRisen reading.faults_before reading.faults_after
    → IfSome reading.left_before (λ bytes. length bytes ≤ most_bytes → (script : List Line) → Spells bytes script → P)

-- where a script is made, or one is spelled that may be read, this holds
abbrev pub WhereGiven : Plan → Reading → Type 0 → Type 0
WhereGiven plan reading P = MatchOption plan.made (WhereSpelled reading P) (λ _. P)
