-- What a run owes at its ends once the script was played.
use Rattle.std.proofs.Common.{◌≡◌, ◌≤◌, ℕ, List, length, Option, Some, None, Result, Err, refl, sym, ap, ◌∙◌, subst, inl, inr, arith}
use Rattle.std.proofs.lemmas.Bool.{false≢true}
use Rattle.std.specs.Prelude.{◌⊎◌, IfSome, IsOk, MatchOption}
use Rattle.std.specs.Io.KnownBytes.{append_known}
use Rattle.byte_edge.specs.Count.{HasRisen}
use Rattle.byte_edge.specs.Taken.{TakesPart}
use Rattle.script_text.specs.declared.faults.ScriptFault.{ScriptFault}
use Rattle.script_text.specs.declared.scripts.Line.{Line}
use Rattle.script_text.specs.Scripts.{Spells}
use Rattle.doc_book.specs.declared.replies.Reply.{Reply}
use Rattle.doc_book.specs.Document.{Document}
use Rattle.layout_worker.specs.declared.tallies.Tally.{Tally}
use Rattle.output_text.specs.Output.{output_text}
use Rattle.editor_run.specs.declared.outcome.Outcome.{Outcome}
use Rattle.editor_run.specs.declared.outcome.Fault.{Fault}
use Rattle.editor_run.specs.declared.outcome.Fault.TheVariants as fault
use Rattle.command_line.specs.Plans.{IsAlone, IsInRange}
use Rattle.command_line.specs.declared.plans.Plan.{Plan}
use Rattle.editor_run.specs.Ends.{Reading, Writing}
use Rattle.editor_run.specs.Input.{most_bytes, IsInput, HasReadCauses}
use Rattle.editor_run.specs.Outcomes.{failure, ran, status_of}
use Rattle.editor_run.specs.Played.{IsPlayedToEnd}
use Rattle.editor_run.specs.Runs.{IsRun, HasCauses}
use Rattle.editor_run.proofs.Ending.{memory_early, early-IsRun}

-- what holds of one or the other holds of the other, where it doesn't of the one
other_holds : {A B : Type 0} → (A → ⊥) → A ⊎ B → B
other_holds not_one (inl a) = absurd (not_one a)
other_holds not_one (inr b) = b

none≢some : {A : Type 0} (x : A) → None ≡ Some x → ⊥
none≢some x e = cc

-- ---- causes in the source

-- a fault that has nothing to do with the source
record IsLate (cause : Option Fault) : Type 0 where
  no_script : (f : ScriptFault) → cause ≡ Some (fault.Script f) → ⊥
  no_source : cause ≡ Some fault.Source → ⊥
  no_long : cause ≡ Some fault.Long → ⊥

memory_late : IsLate (Some fault.Memory)
memory_late = record { no_script = λ f e. cc; no_source = λ e. cc; no_long = λ e. cc }

sink_late : IsLate (Some fault.Sink)
sink_late = record { no_script = λ f e. cc; no_source = λ e. cc; no_long = λ e. cc }

-- where the script was read, such a fault may come later
later : (reading : Reading) (cause : Option Fault) → HasReadCauses reading None → IsLate cause → HasReadCauses reading cause
later reading cause read late = record {
  no_script = λ f e. absurd (late.no_script f e);
  source_failed = λ e. absurd (late.no_source e);
  source_calm = inr (other_holds (none≢some _) read.source_calm);
  too_long = λ e. absurd (late.no_long e);
  within = inr (other_holds (none≢some _) read.within);
}

-- a plan that makes its script has no workers, so sessions alone edit by a plan where it has none
no_workers : (plan : Plan) → IsInRange plan → IsAlone plan → plan.workers ≡ 0
no_workers plan in_range (inl none) = none
no_workers plan in_range (inr made) = in_range.alone made

-- ---- a script that was read or made, and played to the end of its document

module _ (plan : Plan) (reading : Reading) (writing : Writing) (outcome : Outcome)
    (script : List Line) (document : Document) (replies shown : List (List Reply)) (tallies : List Tally)
    (in_range : IsInRange plan) (input : IsInput plan reading script)
    (played : IsPlayedToEnd plan.frames plan.workers script document replies tallies) (same : shown ≡ replies) where
  -- the output was written
  pub success-IsRun : outcome ≡ ran script document replies tallies None
      → writing.put_after ≡ append_known writing.put_before (output_text plan script document.history shown) → IsRun plan reading writing outcome
  success-IsRun is put = subst (IsRun plan reading writing) (sym is) (record {
    whole = λ _. (refl, refl);
    bare = inl (inl refl);
    input = input;
    history = played.history;
    own_entries = played.own_entries;
    replies = played.replies;
    callers = played.callers;
    order = λ alone. played.order (no_workers plan in_range alone);
    tallies = played.counts;
    output = λ _. subst (λ (rs : List (List Reply)). writing.put_after ≡ append_known writing.put_before (output_text plan script document.history rs)) same put;
  })

  pub success-HasCauses : (SinkKept : Type 0) → HasReadCauses reading None → outcome ≡ ran script document replies tallies None → writing.faults_after ≡ writing.faults_before → HasCauses plan reading writing SinkKept outcome
  success-HasCauses SinkKept causes is calm = subst (HasCauses plan reading writing SinkKept) (sym is) (record {
    status = refl;
    reading_causes = causes;
    sink_failed = λ e. absurd cc;
    sink_calm = inr calm;
    part = λ e. absurd cc;
    nothing_written = λ at. absurd (written at);
    no_memory = λ e. absurd cc;
  })
    where
      written : let n : ℕ = 0 in (n ≡ 2) ⊎ (n ≡ 3) ⊎ (n ≡ 4) ⊎ (n ≡ 7) → ⊥
      written at = omega arith

  -- the sink failed
  pub stopped-IsRun : outcome ≡ ran script document replies tallies (Some fault.Sink) → IsRun plan reading writing outcome
  stopped-IsRun is = subst (IsRun plan reading writing) (sym is) (record {
    whole = λ _. (refl, refl);
    bare = inl (inr refl);
    input = input;
    history = played.history;
    own_entries = played.own_entries;
    replies = played.replies;
    callers = played.callers;
    order = λ alone. played.order (no_workers plan in_range alone);
    tallies = played.counts;
    output = λ e. absurd (none e);
  })
    where
      none : let n : ℕ = 6 in n ≡ 0 → ⊥
      none e = omega arith

  pub stopped-HasCauses : (SinkKept : Type 0) → HasReadCauses reading None → outcome ≡ ran script document replies tallies (Some fault.Sink) → HasRisen writing.faults_before writing.faults_after
      → TakesPart writing.put_before writing.put_after (output_text plan script document.history shown) → HasCauses plan reading writing SinkKept outcome
  stopped-HasCauses SinkKept causes is risen part = subst (HasCauses plan reading writing SinkKept) (sym is) (record {
    status = refl;
    reading_causes = later reading (Some fault.Sink) causes sink_late;
    sink_failed = λ _. risen;
    sink_calm = inl refl;
    part = λ _. subst (λ (rs : List (List Reply)). TakesPart writing.put_before writing.put_after (output_text plan script document.history rs)) same part;
    nothing_written = λ at. absurd (written at);
    no_memory = λ e. absurd cc;
  })
    where
      written : let n : ℕ = 6 in (n ≡ 2) ⊎ (n ≡ 3) ⊎ (n ≡ 4) ⊎ (n ≡ 7) → ⊥
      written at = omega arith

  -- memory was wanting as the output was written
  pub unwritten-IsRun : outcome ≡ failure fault.Memory → IsRun plan reading writing outcome
  unwritten-IsRun is = subst (IsRun plan reading writing) (sym is) (early-IsRun plan reading writing fault.Memory memory_early)

  pub unwritten-HasCauses : (SinkKept : Type 0) → HasReadCauses reading None → outcome ≡ failure fault.Memory → writing.faults_after ≡ writing.faults_before
      → TakesPart writing.put_before writing.put_after (output_text plan script document.history shown) → HasCauses plan reading writing SinkKept outcome
  unwritten-HasCauses SinkKept causes is calm part = subst (HasCauses plan reading writing SinkKept) (sym is) (record {
    status = refl;
    reading_causes = later reading (Some fault.Memory) causes memory_late;
    sink_failed = λ e. absurd cc;
    sink_calm = inr calm;
    part = λ _. tt;
    nothing_written = λ at. absurd (written at);
    no_memory = λ _. inr (record {
      script = script;
      document = document;
      replies = replies;
      tallies = tallies;
      input = input;
      played = played;
      part = subst (λ (rs : List (List Reply)). TakesPart writing.put_before writing.put_after (output_text plan script document.history rs)) same part;
    });
  })
    where
      written : let n : ℕ = 5 in (n ≡ 2) ⊎ (n ≡ 3) ⊎ (n ≡ 4) ⊎ (n ≡ 7) → ⊥
      written at = omega arith

-- success and want of memory are the two ends of a run that nothing is in the way of, with a made script or a read one
module _ (Calm : Type 0) (left : Option (List ℕ)) where
  -- where a script is made, or the bytes spell one, this holds
  abbrev WhereAny : Option ℕ → Type 0 → Type 0
  WhereAny made P = MatchOption made (Calm → IfSome left (λ bytes. length bytes ≤ most_bytes → (script : List Line) → Spells bytes script → P)) (λ _. P)

  where_told : (bytes : Option (List ℕ)) (P : Type 0) → P → IfSome bytes (λ bs. length bs ≤ most_bytes → (script : List Line) → Spells bs script → P)
  where_told None P holds = tt
  where_told (Some bs) P holds = λ _ script _. holds

  weaker_told : (bytes : Option (List ℕ)) (P Q : Type 0) → (P → Q) → IfSome bytes (λ bs. length bs ≤ most_bytes → (script : List Line) → Spells bs script → P)
      → IfSome bytes (λ bs. length bs ≤ most_bytes → (script : List Line) → Spells bs script → Q)
  weaker_told None P Q weaker told = tt
  weaker_told (Some bs) P Q weaker told = λ few script spelled. weaker (told few script spelled)

  pub where_given : (made : Option ℕ) (P : Type 0) → P → WhereAny made P
  where_given None P holds = λ _. where_told left P holds
  where_given (Some number) P holds = holds

  pub weaker_given : (made : Option ℕ) (P Q : Type 0) → (P → Q) → WhereAny made P → WhereAny made Q
  weaker_given None P Q weaker given = λ calm. weaker_told left P Q weaker (given calm)
  weaker_given (Some number) P Q weaker given = weaker given

-- a run without a script ends for want of memory, where that is its fault
pub memory_ends : (f : Fault) (outcome : Outcome) → outcome ≡ failure f → let r : Result (List Line) Fault = Err f in IsOk r ⊎ (r ≡ Err fault.Memory)
    → (outcome.status ≡ 0) ⊎ (outcome.status ≡ 5)
memory_ends f outcome is (inl ok) = absurd (false≢true ok)
memory_ends f outcome is (inr same) = inr (ap (λ (o : Outcome). o.status) is ∙ ap status_of (memory same))
  where
    memory : let r : Result (List Line) Fault = Err f in r ≡ Err fault.Memory → f ≡ fault.Memory
    memory e = cc
