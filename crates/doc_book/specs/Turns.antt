-- One call of a caller at a document which others may call too, and what a caller was told.
use Rattle.std.specs.Prelude.{◌≡◌, ℕ, ◌+◌, ◌-◌, ◌^◌, ◌<◌, List, [], ◌∷◌, ◌++◌, length, Bool, true, false, Some, None, min, Result, Ok, Err}
use mathlib.Core.List.{IsPrefix}
use Rattle.doc_book.specs.declared.entries.Entry.{Entry}
use Rattle.doc_book.specs.declared.looking.Look.{Look}
use Rattle.doc_book.specs.declared.looking.Look.TheVariants as look
use Rattle.doc_book.specs.declared.publishing.Publish.{Publish}
use Rattle.doc_book.specs.declared.publishing.Publish.TheVariants as publish
use Rattle.doc_book.specs.declared.replies.Refused.{Refused}
use Rattle.doc_book.specs.declared.told.Told.{Told}
use Rattle.doc_book.specs.Document.{Document}
use Rattle.doc_book.specs.Legal.{IsLegal}

-- the place of the entry that an edit or undo made, if it made one
abbrev pub placed : Result ℕ Refused → List ℕ
placed (Ok place) = place ∷ []
placed (Err r) = []

-- the place of the entry that a publication made, if it made one
abbrev pub published : Publish → List ℕ
published (publish.Published place) = place ∷ []
published (publish.Stale front back) = []
published (publish.Memory back) = []

-- a publication made an entry
abbrev pub is_published : Publish → Bool
is_published (publish.Published place) = true
is_published (publish.Stale front back) = false
is_published (publish.Memory back) = false

-- One turn. The answer is the document's at a history that begins with all that the caller had seen. Afterwards the
-- caller has seen that history, with the new entry where one was made, whose place joins the own ones. The history is
-- legal by the budget before and after.
pub record Turned (budget : ℕ) (IsAnswer : Document → Document → Type 0) (seen seen' : List Entry) (own own' places : List ℕ) : Type 0 where
  pub before : List Entry
  pub begins : IsPrefix seen before
  pub legal_before : IsLegal before budget
  pub legal : IsLegal seen' budget
  pub short : length seen' < 2 ^ 32
  pub answer : IsAnswer (record { history = before; budget = budget }) (record { history = seen'; budget = budget })
  pub owned : own' ≡ own ++ places

-- a caller who was told nothing yet
abbrev pub untold : Told
untold = record { stale = 0; idle = 0; job = None }

-- a count with one more; at 2^64 - 1 it stays
abbrev pub counted : ℕ → ℕ
counted n = min (n + 1) (2 ^ 64 - 1)

-- what a caller was told, with the answer to a look
abbrev pub told_look : Told → Look → Told
told_look told (look.Job job) = record told { job = Some job.front }
told_look told (look.Idle front) = record told { idle = counted told.idle }
told_look told (look.Spent frames front) = told
told_look told (look.Ending place front) = told
told_look told look.Memory = told

-- what a caller was told, with the answer to a publication: whichever it is, no job is out any more
abbrev pub told_publish : Told → Publish → Told
told_publish told (publish.Published place) = record told { job = None }
told_publish told (publish.Stale front back) = record told { stale = counted told.stale; job = None }
told_publish told (publish.Memory back) = record told { job = None }
