-- A script that was played to the end of its document, alone or beside workers.
use Rattle.std.specs.Prelude.{◌≡◌, ℕ, ◌≤◌, List, length, take, drop, Some}
use Rattle.std.specs.List.{AllByRecursion}
use Rattle.script_text.specs.declared.scripts.Line.{Line}
use Rattle.script_text.specs.Scripts.{last_session}
use Rattle.doc_book.specs.declared.entries.Entry.{Entry}
use Rattle.doc_book.specs.declared.replies.Reply.{Reply}
use Rattle.doc_book.specs.Document.{Document}
use Rattle.doc_book.specs.Finished.{IsFinished}
use Rattle.doc_book.specs.History.{end_place}
use Rattle.doc_book.specs.Legal.{IsLegal}
use Rattle.doc_book.specs.Listing.{session_lines}
use Rattle.doc_book.specs.Plays.{AreCounted, IsFresh}
use Rattle.doc_book.specs.Replies.{AreRightReplies, OwnEntriesAre, after_of}
use Rattle.session_run.specs.Sessions.{ForSessions, AreBySession}
use Rattle.layout_worker.specs.declared.tallies.Tally.{Tally}
use Rattle.concurrent_run.specs.Beside.{ForWorkers, IsByCaller, IsRightTally, first_worker}

-- the history is legal by the budget, and is finished
pub record IsRightHistory (budget : ℕ) (document : Document) : Type 0 where
  pub budget_is : document.budget ≡ budget
  pub legal : IsLegal document.history budget
  pub finished : IsFinished document.history

-- each session's entries are those that its replies name, in order, each once
abbrev pub AreOwnEntries : Document → List (List Reply) → Type 0
AreOwnEntries document replies = ForSessions 1 (OwnEntriesAre document.history) replies

-- there is a list of replies for each session, session 1 first, with one reply for each line of the session, right and in order
pub record HaveRightReplies (document : Document) (script : List Line) (replies : List (List Reply)) : Type 0 where
  pub eight : length replies ≡ last_session
  pub right : ForSessions 1 (λ session rs. AreRightReplies document.history document.budget session 0 (session_lines session script) rs) replies

-- before End sessions and so many workers alone made entries, a worker frames with line 0; End and what follows it are by
-- caller 0, and no reply was given after End
pub record AreCallers (workers : ℕ) (history : List Entry) (replies : List (List Reply)) : Type 0 where
  pub place : ℕ
  pub ended : end_place history ≡ Some place
  pub before : AllByRecursion (IsByCaller workers) (take place history)
  pub run : AllByRecursion (λ (e : Entry). e.who ≡ 0) (drop place history)
  pub before_end : AllByRecursion (AllByRecursion (λ (r : Reply). after_of r ≤ place)) replies

-- the lines were played in file order, over all sessions: there is one list of replies, one for each line of the script,
-- which by session are these. Each was given at as many entries as there are lines before it that were accepted or
-- published, whosever they are, and none is stale
pub record AreInFileOrder (script : List Line) (replies : List (List Reply)) : Type 0 where
  pub all : List Reply
  pub one_each : length all ≡ length script
  pub by_session : AreBySession script all replies
  pub counted : AreCounted 0 all
  pub fresh : AllByRecursion IsFresh all

-- there is a tally for each of so many workers, in order: it counts the entries by the worker, and says why the worker
-- ended, which isn't for want of memory: the document was ended, or the frames before End used up the budget
pub record AreTallies (budget workers : ℕ) (history : List Entry) (tallies : List Tally) : Type 0 where
  pub one_each : length tallies ≡ workers
  pub place : ℕ
  pub ended : end_place history ≡ Some place
  pub right : ForWorkers first_worker (IsRightTally history budget place) tallies

-- a script was played on a document with this budget of frames, beside so many workers, which was then ended and finished
pub record IsPlayedToEnd (budget workers : ℕ) (script : List Line) (document : Document) (lists : List (List Reply)) (tallies : List Tally) : Type 0 where
  pub history : IsRightHistory budget document
  pub own_entries : AreOwnEntries document lists
  pub replies : HaveRightReplies document script lists
  pub callers : AreCallers workers document.history lists
  -- without workers, in file order
  pub order : workers ≡ 0 → AreInFileOrder script lists
  pub counts : AreTallies budget workers document.history tallies
