-- The exit status of the process.
use Rattle.std.specs.Prelude.{◌≡◌, ◌⊎◌, ℕ, List, Option, IsSome}
use Rattle.command_line.specs.Command.{TakesWords}
use Rattle.command_line.specs.Plans.{plan_of}
use Rattle.editor_run.specs.declared.outcome.Fault.{Fault}
use Rattle.editor_run.specs.declared.outcome.Outcome.{Outcome}
use Rattle.editor_run.specs.Ends.{Reading, Writing}
use Rattle.editor_run.specs.Outcomes.{status_or_zero}
use Rattle.editor_run.specs.Runs.{IsRun, HasCauses, IsComplete}

-- 0, or the status of a fault
abbrev pub IsStatus : ℕ → Type 0
IsStatus status = (cause : Option Fault) × (status ≡ status_or_zero cause)

-- the exit status is that of a run by these words, whose status has its cause. `SourceKept` and `SinkKept` say that the
-- source and the sink are as they were
pub record ExitsAsRun (words : List (List ℕ)) (reading : Reading) (writing : Writing) (SourceKept SinkKept : Type 0) (status : ℕ) : Type 0 where
  pub outcome : Outcome
  pub status_is : status ≡ outcome.status
  pub run : IsRun (plan_of words) reading writing outcome
  pub causes : HasCauses (plan_of words) reading writing SinkKept outcome
  -- the status is 2 exactly where the command doesn't take the words, or 5 there
  pub refused : status ≡ 2 → TakesWords words → ⊥
  pub taken : TakesWords words ⊎ (status ≡ 2) ⊎ (status ≡ 5)
  -- there nothing is read and nothing written
  pub unread : (TakesWords words → ⊥) → SourceKept
  pub unwritten : (TakesWords words → ⊥) → SinkKept
  -- where a script is made nothing is read
  pub made : IsSome (plan_of words).made → SourceKept
  -- where nothing is in its way the run succeeds or lacks memory
  pub complete : TakesWords words → IsComplete (plan_of words) reading writing outcome

-- no words could be had: one isn't UTF-8, or there was no memory for them. Nothing is read and nothing written
pub record ExitsWithoutWords (SourceKept SinkKept : Type 0) (status : ℕ) : Type 0 where
  pub status_is : (status ≡ 2) ⊎ (status ≡ 5)
  pub unread : SourceKept
  pub unwritten : SinkKept

-- the exit status is that of a run by some words, those of the process, of which std tells nothing; or they couldn't be had
abbrev pub ExitsByWords : Reading → Writing → Type 0 → Type 0 → ℕ → Type 0
ExitsByWords reading writing SourceKept SinkKept status =
    ((words : List (List ℕ)) × ExitsAsRun words reading writing SourceKept SinkKept status) ⊎ ExitsWithoutWords SourceKept SinkKept status
