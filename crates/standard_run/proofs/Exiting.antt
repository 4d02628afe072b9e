-- The exit status of a run, and of one whose words couldn't be had.
use Rattle.std.proofs.Common.{◌≡◌, ℕ, List, Option, Some, None, refl, sym, ◌∙◌, subst, inl, inr, arith}
use Rattle.std.specs.Prelude.{◌⊎◌, IsSome, MatchOption}
use Rattle.command_line.specs.Command.{TakesWords}
use Rattle.command_line.specs.Plans.{plan_of}
use Rattle.editor_run.specs.declared.outcome.Fault.{Fault}
use Rattle.editor_run.specs.declared.outcome.Fault.TheVariants as fault
use Rattle.editor_run.specs.declared.outcome.Outcome.{Outcome}
use Rattle.editor_run.specs.Ends.{Reading, Writing}
use Rattle.editor_run.specs.Outcomes.{HasStatus, status_of, status_or_zero}
use Rattle.editor_run.specs.Runs.{IsRun, HasCauses, IsComplete}
use Rattle.standard_run.specs.Exits.{ExitsAsRun, ExitsByWords, IsStatus}

-- where the status is 2, words were refused
refused_words : (outcome : Outcome) → HasStatus outcome → outcome.status ≡ 2 → outcome.fault ≡ Some fault.Words
refused_words outcome has two = by outcome.fault has
  where
    by : (cause : Option Fault) → MatchOption cause (outcome.status ≡ 0) (λ f. outcome.status ≡ status_of f) → cause ≡ Some fault.Words
    by None is = absurd (omega (arith, is, two))
    by (Some fault.Words) is = refl
    by (Some (fault.Script f)) is = absurd (omega (arith, is, two))
    by (Some fault.Source) is = absurd (omega (arith, is, two))
    by (Some fault.Memory) is = absurd (omega (arith, is, two))
    by (Some fault.Sink) is = absurd (omega (arith, is, two))
    by (Some fault.Long) is = absurd (omega (arith, is, two))

-- the status is that of the fault
fault_status : (outcome : Outcome) (f : Fault) → HasStatus outcome → outcome.fault ≡ Some f → outcome.status ≡ status_of f
fault_status outcome f has is = subst (λ (cause : Option Fault). MatchOption cause (outcome.status ≡ 0) (λ x. outcome.status ≡ status_of x)) is has

-- the exit status of a run by words is that of its outcome, so it tells of the words what the fault does
pub ran-ExitsAsRun : (words : List (List ℕ)) (reading : Reading) (writing : Writing) (SourceKept SinkKept : Type 0) (outcome : Outcome) (status : ℕ) → status ≡ outcome.status
    → IsRun (plan_of words) reading writing outcome → HasCauses (plan_of words) reading writing SinkKept outcome
    → (outcome.fault ≡ Some fault.Words → TakesWords words → ⊥) → TakesWords words ⊎ (outcome.fault ≡ Some fault.Words) ⊎ (outcome.fault ≡ Some fault.Memory)
    → ((TakesWords words → ⊥) → SourceKept) → ((TakesWords words → ⊥) → SinkKept) → (IsSome (plan_of words).made → SourceKept)
    → (TakesWords words → IsComplete (plan_of words) reading writing outcome) → ExitsAsRun words reading writing SourceKept SinkKept status
ran-ExitsAsRun words reading writing SourceKept SinkKept outcome status same run causes refused taken unread unwritten made complete = record {
  outcome = outcome;
  status_is = same;
  run = run;
  causes = causes;
  refused = λ two. refused (refused_words outcome causes.status (sym same ∙ two));
  taken = by taken;
  unread = unread;
  unwritten = unwritten;
  made = made;
  complete = complete;
}
  where
    by : TakesWords words ⊎ (outcome.fault ≡ Some fault.Words) ⊎ (outcome.fault ≡ Some fault.Memory) → TakesWords words ⊎ (status ≡ 2) ⊎ (status ≡ 5)
    by (inl takes) = inl takes
    by (inr (inl is)) = inr (inl (same ∙ fault_status outcome fault.Words causes.status is))
    by (inr (inr is)) = inr (inr (same ∙ fault_status outcome fault.Memory causes.status is))

-- the status of a run is 0, or that of a fault
pub IsStatus-run : (reading : Reading) (writing : Writing) (SourceKept SinkKept : Type 0) (status : ℕ) → ExitsByWords reading writing SourceKept SinkKept status → IsStatus status
IsStatus-run reading writing SourceKept SinkKept status (inl run) = (run.1.outcome.fault, run.1.status_is ∙ by run.1.outcome.fault run.1.causes.status)
  where
    by : (cause : Option Fault) → MatchOption cause (run.1.outcome.status ≡ 0) (λ f. run.1.outcome.status ≡ status_of f) → run.1.outcome.status ≡ status_or_zero cause
    by None is = is
    by (Some f) is = is
IsStatus-run reading writing SourceKept SinkKept status (inr without) = by without.status_is
  where
    by : (status ≡ 2) ⊎ (status ≡ 5) → IsStatus status
    by (inl is) = (Some fault.Words, is)
    by (inr is) = (Some fault.Memory, is)
