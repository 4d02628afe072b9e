-- A run: what it comes to on success, why it ends with its status, and that it succeeds where nothing is in its way.
use Rattle.std.specs.Prelude.{◌≡◌, ◌⊎◌, List, Some}
use Rattle.std.specs.Io.KnownBytes.{append_known}
use Rattle.byte_edge.specs.Count.{HasRisen}
use Rattle.byte_edge.specs.Taken.{TakesPart}
use Rattle.script_text.specs.declared.scripts.Line.{Line}
use Rattle.doc_book.specs.declared.replies.Reply.{Reply}
use Rattle.doc_book.specs.Document.{Document}
use Rattle.layout_worker.specs.declared.tallies.Tally.{Tally}
use Rattle.command_line.specs.Plans.{IsAlone}
use Rattle.command_line.specs.declared.plans.Plan.{Plan}
use Rattle.output_text.specs.Output.{output_text}
use Rattle.editor_run.specs.declared.outcome.Outcome.{Outcome}
use Rattle.editor_run.specs.declared.outcome.Fault.TheVariants as fault
use Rattle.editor_run.specs.Ends.{Reading, Writing}
use Rattle.editor_run.specs.Input.{IsInput, HasReadCauses, WhereGiven}
use Rattle.editor_run.specs.Outcomes.{HasStatus, IsBare, IsWhole, OnSuccess, WhereRun, WritesNothing}
use Rattle.editor_run.specs.Played.{IsRightHistory, AreOwnEntries, HaveRightReplies, AreCallers, AreInFileOrder, AreTallies, IsPlayedToEnd}

-- what a run by this plan is, on status 0 and where the sink failed
pub record IsRun (plan : Plan) (reading : Reading) (writing : Writing) (outcome : Outcome) : Type 0 where
  -- there it has a script and a document, and nowhere else
  pub whole : IsWhole outcome
  pub bare : IsBare outcome
  -- the script is what the source gave, or the made one of the plan
  pub input : WhereRun outcome (λ script _ _. IsInput plan reading script)
  -- the history is legal by the budget of frames, and is finished
  pub history : WhereRun outcome (λ _ document _. IsRightHistory plan.frames document)
  -- each session's entries are those that its replies name, in order, each once
  pub own_entries : WhereRun outcome (λ _ document replies. AreOwnEntries document replies)
  -- each line has one right reply, in order
  pub replies : WhereRun outcome (λ script document replies. HaveRightReplies document script replies)
  -- sessions and the plan's workers alone made entries before End, the run alone made the others
  pub callers : WhereRun outcome (λ _ document replies. AreCallers plan.workers document.history replies)
  -- without workers the lines were played in file order, over all sessions
  pub order : IsAlone plan → WhereRun outcome (λ script _ replies. AreInFileOrder script replies)
  -- each worker has its tally
  pub tallies : WhereRun outcome (λ _ document _. AreTallies plan.frames plan.workers document.history outcome.tallies)
  -- on success the sink took exactly the output of the plan
  pub output : OnSuccess outcome (λ script document replies. writing.put_after ≡ append_known writing.put_before (output_text plan script document.history replies))

-- a part of the output of a script that was read or made, and played, was put, from the front
pub record PutsPart (plan : Plan) (reading : Reading) (writing : Writing) : Type 0 where
  pub script : List Line
  pub document : Document
  pub replies : List (List Reply)
  pub tallies : List Tally
  pub input : IsInput plan reading script
  pub played : IsPlayedToEnd plan.frames plan.workers script document replies tallies
  pub part : TakesPart writing.put_before writing.put_after (output_text plan script document.history replies)

-- why a run by this plan ends with its status. `SinkKept` says that the sink is as it was
pub record HasCauses (plan : Plan) (reading : Reading) (writing : Writing) (SinkKept : Type 0) (outcome : Outcome) : Type 0 where
  -- the status is 0 where there is no fault, else that of the fault
  pub status : HasStatus outcome
  -- a faulty script, a failed read and too long an input show in the source
  pub reading_causes : HasReadCauses reading outcome.fault
  -- where the sink failed, its faults rose
  pub sink_failed : outcome.fault ≡ Some fault.Sink → HasRisen writing.faults_before writing.faults_after
  -- else they stay
  pub sink_calm : (outcome.fault ≡ Some fault.Sink) ⊎ (writing.faults_after ≡ writing.faults_before)
  -- where the sink failed, it took a part of the output, from the front
  pub part : outcome.fault ≡ Some fault.Sink
      → WhereRun outcome (λ script document replies. TakesPart writing.put_before writing.put_after (output_text plan script document.history replies))
  -- where words are refused, no script is spelled, a read failed or the input is too long, nothing is written
  pub nothing_written : WritesNothing outcome → SinkKept
  -- where memory was wanting, nothing is, or a part of the output of the script that was read or made
  pub no_memory : outcome.fault ≡ Some fault.Memory → SinkKept ⊎ PutsPart plan reading writing

-- where no read and no write failed, and a script is made or one within the length is spelled, the run succeeds or lacks
-- memory
abbrev pub IsComplete : Plan → Reading → Writing → Outcome → Type 0
IsComplete plan reading writing outcome = ¬ HasRisen writing.faults_before writing.faults_after
    → WhereGiven plan reading ((outcome.status ≡ 0) ⊎ (outcome.status ≡ 5))
