-- What came of sessions and workers that ran beside each other at one document.
use Rattle.std.specs.Prelude.{◌≡◌, ◌⊎◌, ℕ, ◌+◌, ◌<◌, ◌≤◌, List, [], ◌∷◌, length, take, Some, ⊤}
use Rattle.std.specs.List.{AllByRecursion}
use Rattle.script_text.specs.declared.scripts.Line.{Line}
use Rattle.script_text.specs.Scripts.{last_session}
use Rattle.doc_book.specs.declared.entries.Entry.{Entry}
use Rattle.doc_book.specs.declared.entries.Act.TheVariants as act
use Rattle.doc_book.specs.declared.replies.Reply.{Reply}
use Rattle.doc_book.specs.Document.{Document}
use Rattle.doc_book.specs.History.{end_place}
use Rattle.doc_book.specs.Legal.{IsLegal}
use Rattle.doc_book.specs.Listing.{session_lines}
use Rattle.doc_book.specs.Replies.{IsLook, Spent, IsEntryAt, IsFrameAct, AreRightReplies, OwnEntriesAre, own_entries, after_of}
use Rattle.session_run.specs.Sessions.{ForSessions}
use Rattle.layout_worker.specs.declared.tallies.Tally.{Tally}
use Rattle.layout_worker.specs.declared.tallies.Last.{Last}
use Rattle.layout_worker.specs.declared.tallies.Last.TheVariants as last

-- workers are callers from this number on, one after the other
abbrev pub first_worker : ℕ
first_worker = 11

-- the entry is by one of the sessions
abbrev pub IsBySession : Entry → Type 0
IsBySession e = (1 ≤ e.who) × (e.who ≤ last_session)

-- the entry is by one of so many workers, and is a frame with line 0
pub record IsByWorker (workers : ℕ) (e : Entry) : Type 0 where
  pub first : first_worker ≤ e.who
  pub last : e.who < first_worker + workers
  pub line : e.line ≡ 0
  pub frame : IsFrameAct e.act

-- the entry is by a session or a worker
abbrev pub IsByCaller : ℕ → Entry → Type 0
IsByCaller workers e = IsBySession e ⊎ IsByWorker workers e

-- a fact of each worker's number and its tally, for further workers from one on
abbrev pub ForWorkers : ℕ → (ℕ → Tally → Type 0) → List Tally → Type 0
ForWorkers worker P [] = ⊤
ForWorkers worker P (t ∷ more) = P worker t × ForWorkers (worker + 1) P more

-- why a worker ended, where these entries came before End: the document was ended, or the budget of frames is used up by
-- them. No worker lacked memory
abbrev pub IsRightLast : List Entry → ℕ → Last → Type 0
IsRightLast before budget last.Ending = ⊤
IsRightLast before budget last.Spent = IsLook before budget Spent
IsRightLast before budget last.Memory = ⊥

-- the tally of a worker at a document that was ended at this place: it published as many frames as there are entries by it
pub record IsRightTally (h : List Entry) (budget place worker : ℕ) (tally : Tally) : Type 0 where
  pub published : tally.published ≡ length (own_entries h worker)
  pub last : IsRightLast (take place h) budget tally.last

-- The sessions' lines of a script were played beside each other, and beside so many workers, on a document with this budget
-- of frames. Its history is legal and ends with End. There is a list of replies for each session, session 1 first, with a
-- reply for each of its lines, right and in order, and the session's entries are those that its replies name. No reply was
-- given after End, before which sessions and workers alone made entries. There is a tally for each worker, in order.
pub record IsRunBeside (frames workers : ℕ) (script : List Line) (document : Document) (replies : List (List Reply)) (tallies : List Tally) : Type 0 where
  pub place : ℕ
  pub budget : document.budget ≡ frames
  pub legal : IsLegal document.history frames
  pub ended : end_place document.history ≡ Some place
  pub last : place + 1 ≡ length document.history
  pub ending : IsEntryAt document.history place 0 0 (λ a. a ≡ act.End)
  pub eight : length replies ≡ last_session
  pub each : ForSessions 1 (λ session rs. AreRightReplies document.history frames session 0 (session_lines session script) rs × OwnEntriesAre document.history session rs) replies
  pub before_end : AllByRecursion (AllByRecursion (λ (r : Reply). after_of r ≤ place)) replies
  pub callers : AllByRecursion (IsByCaller workers) (take place document.history)
  pub one_each : length tallies ≡ workers
  pub tallies_right : ForWorkers first_worker (IsRightTally document.history frames place) tallies
