-- What a run comes to.
use Rattle.std.specs.Prelude.{◌≡◌, ◌⊎◌, ℕ, List, [], Option, Some, None, MatchOption, IfSome, IsSome}
use Rattle.script_text.specs.declared.scripts.Line.{Line}
use Rattle.script_text.specs.declared.faults.ReadFault.{ReadFault}
use Rattle.script_text.specs.declared.faults.ReadFault.TheVariants as cause
use Rattle.byte_edge.specs.declared.reading.ReadStop.{ReadStop}
use Rattle.byte_edge.specs.declared.reading.ReadStop.TheVariants as stop
use Rattle.doc_book.specs.declared.replies.Reply.{Reply}
use Rattle.doc_book.specs.Document.{Document}
use Rattle.layout_worker.specs.declared.tallies.Tally.{Tally}
use Rattle.editor_run.specs.declared.outcome.Outcome.{Outcome}
use Rattle.editor_run.specs.declared.outcome.Fault.{Fault}
use Rattle.editor_run.specs.declared.outcome.Fault.TheVariants as fault

-- the fault of a source that wasn't read to its end
abbrev pub fault_of_stop : ReadStop → Fault
fault_of_stop stop.Failed = fault.Source
fault_of_stop stop.TooLong = fault.Long
fault_of_stop stop.Memory = fault.Memory

-- the fault of bytes that weren't read as a script
abbrev pub fault_of_read : ReadFault → Fault
fault_of_read (cause.Fault f) = fault.Script f
fault_of_read cause.Memory = fault.Memory

-- the status of a fault
abbrev pub status_of : Fault → ℕ
status_of fault.Words = 2
status_of (fault.Script f) = 3
status_of fault.Source = 4
status_of fault.Memory = 5
status_of fault.Sink = 6
status_of fault.Long = 7

-- where the outcome has a script, a document and replies, they have this property
abbrev pub WhereRun : Outcome → (List Line → Document → List (List Reply) → Type 0) → Type 0
WhereRun outcome P = IfSome outcome.book (λ document. IfSome outcome.script (λ script. P script document outcome.replies))

-- on status 0, they have this property
abbrev pub OnSuccess : Outcome → (List Line → Document → List (List Reply) → Type 0) → Type 0
OnSuccess outcome P = outcome.status ≡ 0 → WhereRun outcome P

-- on status 0 and on status 6 the outcome has a script and a document
abbrev pub IsWhole : Outcome → Type 0
IsWhole outcome = (outcome.status ≡ 0) ⊎ (outcome.status ≡ 6) → IsSome outcome.book × IsSome outcome.script

-- on every other status the outcome has no document, no script, no replies and no tallies
abbrev pub IsBare : Outcome → Type 0
IsBare outcome = ((outcome.status ≡ 0) ⊎ (outcome.status ≡ 6)) ⊎ ((outcome.book ≡ None) × (outcome.script ≡ None) × (outcome.replies ≡ []) × (outcome.tallies ≡ []))

-- what a run without a script comes to
abbrev pub failure : Fault → Outcome
failure f = record { status = status_of f; fault = Some f; book = None; script = None; replies = []; tallies = [] }

-- the status of a fault, or 0 where there is none
abbrev pub status_or_zero : Option Fault → ℕ
status_or_zero None = 0
status_or_zero (Some f) = status_of f

-- what a run with a script comes to: success, or a fault of the sink
abbrev pub ran : List Line → Document → List (List Reply) → List Tally → Option Fault → Outcome
ran script document replies tallies f =
    record { status = status_or_zero f; fault = f; book = Some document; script = Some script; replies = replies; tallies = tallies }

-- the status is 0 where there is no fault, else that of the fault
abbrev pub HasStatus : Outcome → Type 0
HasStatus outcome = MatchOption outcome.fault (outcome.status ≡ 0) (λ f. outcome.status ≡ status_of f)

-- the statuses on which nothing is written: words refused, no script, a failed read, too long an input
abbrev pub WritesNothing : Outcome → Type 0
WritesNothing outcome = (outcome.status ≡ 2) ⊎ (outcome.status ≡ 3) ⊎ (outcome.status ≡ 4) ⊎ (outcome.status ≡ 7)
