-- A run that ends before anything was read or written.
use Rattle.std.proofs.Common.{◌≡◌, None, Some, [], refl, sym, ◌∙◌, subst, inl, inr, arith}
use Rattle.std.specs.Prelude.{◌⊎◌}
use Rattle.std.proofs.KnownBytes.{prepend_known-nil}
use Rattle.script_text.specs.declared.faults.ScriptFault.{ScriptFault}
use Rattle.editor_run.specs.declared.outcome.Outcome.{Outcome}
use Rattle.editor_run.specs.declared.outcome.Fault.{Fault}
use Rattle.editor_run.specs.declared.outcome.Fault.TheVariants as fault
use Rattle.command_line.specs.declared.plans.Plan.{Plan}
use Rattle.editor_run.specs.Ends.{Reading, Writing}
use Rattle.editor_run.specs.Input.{HasReadCauses, IsUnread}
use Rattle.editor_run.specs.Outcomes.{failure, status_of}
use Rattle.editor_run.specs.Runs.{IsRun, HasCauses}

-- a fault that has nothing to do with the source and the sink
pub record IsEarly (f : Fault) : Type 0 where
  pub no_script : (x : ScriptFault) → Some f ≡ Some (fault.Script x) → ⊥
  pub no_source : Some f ≡ Some fault.Source → ⊥
  pub no_long : Some f ≡ Some fault.Long → ⊥
  pub no_sink : Some f ≡ Some fault.Sink → ⊥

pub words_early : IsEarly fault.Words
words_early = record { no_script = λ x e. cc; no_source = λ e. cc; no_long = λ e. cc; no_sink = λ e. cc }

pub memory_early : IsEarly fault.Memory
memory_early = record { no_script = λ x e. cc; no_source = λ e. cc; no_long = λ e. cc; no_sink = λ e. cc }

-- nothing failed as a script was made
pub unread-HasReadCauses : (reading : Reading) → IsUnread reading → HasReadCauses reading None
unread-HasReadCauses reading unread = record {
  no_script = λ x e. absurd cc;
  source_failed = λ e. absurd cc;
  source_calm = inr unread.faults;
  too_long = λ e. absurd cc;
  within = inr ([], omega arith, record { told = sym unread.left ∙ sym (prepend_known-nil reading.left_after); counted = omega (arith, unread.given) });
}

pub early-HasReadCauses : (reading : Reading) (f : Fault) → IsEarly f → IsUnread reading → HasReadCauses reading (Some f)
early-HasReadCauses reading f early unread = record {
  no_script = λ x e. absurd (early.no_script x e);
  source_failed = λ e. absurd (early.no_source e);
  source_calm = inr unread.faults;
  too_long = λ e. absurd (early.no_long e);
  within = inr ([], omega arith, record { told = sym unread.left ∙ sym (prepend_known-nil reading.left_after); counted = omega (arith, unread.given) });
}

-- nothing was read, and nothing was written
pub early-HasCauses : (plan : Plan) (reading : Reading) (writing : Writing) (SinkKept : Type 0) (outcome : Outcome) (f : Fault) → outcome ≡ failure f → IsEarly f → IsUnread reading
    → writing.faults_after ≡ writing.faults_before → SinkKept → HasCauses plan reading writing SinkKept outcome
early-HasCauses plan reading writing SinkKept outcome f is early unread calm kept = subst (HasCauses plan reading writing SinkKept) (sym is) (record {
  status = refl;
  reading_causes = early-HasReadCauses reading f early unread;
  sink_failed = λ e. absurd (early.no_sink e);
  sink_calm = inr calm;
  part = λ _. tt;
  nothing_written = λ _. kept;
  no_memory = λ _. inl kept;
})

not_whole : (f : Fault) → IsEarly f → (status_of f ≡ 0) ⊎ (status_of f ≡ 6) → ⊥
not_whole fault.Words early at = omega arith
not_whole (fault.Script f) early at = omega arith
not_whole fault.Source early at = omega arith
not_whole fault.Memory early at = omega arith
not_whole fault.Sink early at = early.no_sink refl
not_whole fault.Long early at = omega arith

-- such a run has no script and no document
pub early-IsRun : (plan : Plan) (reading : Reading) (writing : Writing) (f : Fault) → IsEarly f → IsRun plan reading writing (failure f)
early-IsRun plan reading writing f early = record {
  whole = λ at. absurd (not_whole f early at);
  bare = inr (refl, refl, refl, refl);
  input = tt;
  history = tt;
  own_entries = tt;
  replies = tt;
  callers = tt;
  order = λ _. tt;
  tallies = tt;
  output = λ _. tt;
}
