-- What the calls of a book say of the document, by cases on what they return.
use Rattle.std.specs.Prelude.{◌≡◌, ◌⊎◌, ℕ, length, Result, Ok, Err}
use Rattle.edit_rules.specs.declared.refusals.Refusal.TheVariants as refusal
use Rattle.doc_book.specs.declared.entries.Act.TheVariants as act
use Rattle.scene_model.specs.Names.{NameOf}
use Rattle.doc_book.specs.declared.asking.Answer.{Answer}
use Rattle.doc_book.specs.declared.replies.Refused.{Refused}
use Rattle.doc_book.specs.declared.replies.Reply.TheVariants as reply
use Rattle.doc_book.specs.Document.{Document}
use Rattle.doc_book.specs.Events.{Event, Replied, Found, Settled, Full, Memory}
use Rattle.doc_book.specs.Growing.{Grows, entry_of}
use Rattle.doc_book.specs.Hints.{hints_at}
use Rattle.doc_book.specs.History.{scene_at, places_at}
use Rattle.doc_book.specs.Steps.{IsStep, IsAskStep, IsLookStep, IsPublishStep, IsFinishStep}
use Rattle.doc_book.specs.declared.looking.Look.{Look}
use Rattle.doc_book.specs.declared.looking.Look.TheVariants as look
use Rattle.doc_book.specs.declared.publishing.Publish.{Publish}
use Rattle.doc_book.specs.declared.publishing.Publish.TheVariants as publish
use Rattle.doc_book.specs.declared.publishing.Finish.{Finish}
use Rattle.doc_book.specs.declared.publishing.Finish.TheVariants as finish
use Rattle.doc_book.specs.Jobs.{JobOf, SolvedOf}

-- a call that enters an entry: it is accepted at this place; or refused for a cause in the document; or for want of
-- memory, and then at the present front
abbrev pub IsEntered : Document → Document → Event → Result ℕ Refused → Type 0
IsEntered old new call (Ok place) = IsStep old new call (Replied (reply.Accepted place))
IsEntered old new call (Err r) =
    IsStep old new call (Replied (reply.Refused r)) ⊎ (IsStep old new call Memory × (r ≡ record { refusal = refusal.Memory; front = length old.history }))

-- a question is answered or refused by the present scene
abbrev pub IsAsked : Document → NameOf → Result Answer Refused → Type 0
IsAsked document name (Ok answer) = IsAskStep document document name (Replied (reply.Answer answer))
IsAsked document name (Err r) = IsAskStep document document name (Replied (reply.Refused r))

-- a job has the scene and places of the whole history, and the separations that push in its last frame
pub record IsPresent (document : Document) (job : JobOf) : Type 0 where
  pub front_is : job.front ≡ length document.history
  pub scene_is : job.scene ≡ scene_at document.history
  pub places_are : job.places ≡ places_at document.history
  pub hints_are : job.hints ≡ hints_at document.history

-- a look answers what it finds, and a job is of the present scene and places. Each is a step that any caller may make
abbrev pub IsLooked : Document → Look → Type 0
IsLooked document (look.Job job) = IsPresent document job × IsLookStep document document (Found job.front)
IsLooked document (look.Idle front) = IsLookStep document document (Replied (reply.Idle front))
IsLooked document (look.Spent frames front) = (frames ≡ document.budget) × IsLookStep document document (Replied (reply.Spent front))
IsLooked document (look.Ending place front) =
    IsLookStep document document (Replied (reply.Refused (record { refusal = refusal.Ended place; front = front })))
IsLooked document look.Memory = IsLookStep document document Memory

-- a publication enters the frame that was made, or hands it back: where it is stale, and for want of memory
abbrev pub IsPublished : Document → Document → ℕ → ℕ → SolvedOf → Publish → Type 0
IsPublished old new who line solved (publish.Published place) =
    IsPublishStep old new who line solved.job.front (Replied (reply.Published place)) × Grows old new place (entry_of who line (act.Frame solved.frame))
IsPublished old new who line solved (publish.Stale front back) =
    IsPublishStep old new who line solved.job.front (Replied (reply.Stale front)) × (back ≡ solved)
IsPublished old new who line solved (publish.Memory back) = IsPublishStep old new who line solved.job.front Memory × (back ≡ solved)

-- a step of finishing
abbrev pub IsFinishing : Document → Document → Finish → Type 0
IsFinishing old new (finish.Published place) = IsFinishStep old new (Replied (reply.Published place))
IsFinishing old new (finish.Settled place) = IsFinishStep old new (Settled place)
IsFinishing old new (finish.Full place) = IsFinishStep old new (Full place)
IsFinishing old new finish.Memory = IsFinishStep old new Memory
