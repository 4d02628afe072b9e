-- Sessions and workers, before and after.
use Rattle.std.specs.Prelude.{◌≡◌, ℕ, ◌<◌, List, [], length, Some, slice_index_or, MatchOption, ⊤}
use Rattle.script_text.specs.declared.scripts.Line.{Line}
use Rattle.turn_table.specs.States.{Opened}
use Rattle.doc_book.specs.declared.desks.Terms.{Terms}
use Rattle.doc_book.specs.declared.entries.Entry.{Entry}
use Rattle.doc_book.specs.declared.told.Told.{Told}
use Rattle.doc_book.specs.Listing.{session_lines}
use Rattle.shared_book.specs.Held.{Held}
use Rattle.shared_book.specs.Calling.{called_at}
use Rattle.session_run.specs.AtDesk.{IsPlayedAt}
use Rattle.layout_worker.specs.Working.{IsWorked, IsLast}
use Rattle.concurrent_run.specs.declared.elements.Session.{Session}
use Rattle.concurrent_run.specs.declared.elements.Worker.{Worker}

-- a pass of this document which has seen nothing, and owns no entry
abbrev pub IsNewPass : Opened Entry Terms → Held → Type 0
IsNewPass book p = (p.table ≡ Some book) × (p.seen ≡ []) × (p.own ≡ [])

-- the pass is still the same caller's of the same document
pub record IsSamePass (book : Opened Entry Terms) (old new : Held) : Type 0 where
  pub table : new.table ≡ Some book
  pub who : new.who ≡ old.who

-- a session with a new pass played those of these lines that are its own, unless it lacked memory
pub record IsPlayedSession (book : Opened Entry Terms) (lines : List Line) (old new : Session) : Type 0 where
  pub same : IsSamePass book old.pass new.pass
  pub played : MatchOption new.replies ⊤ (λ rs. (told : Told) × (told' : Told) × (loan : ℕ) × IsPlayedAt (called_at book old.pass told loan) (called_at book new.pass told' loan) (session_lines old.pass.who lines) rs)

-- a worker with a new pass worked until it ended
pub record IsWorkedOut (book : Opened Entry Terms) (old new : Worker) : Type 0 where
  pub same : IsSamePass book old.pass new.pass
  pub worked : (told : Told) × (told' : Told) × (loan : ℕ) × (mine : List ℕ) × IsWorked (called_at book old.pass told loan) (called_at book new.pass told' loan) mine × (length mine ≡ new.tally.published) × IsLast (called_at book new.pass told' loan) new.tally.last

-- each of the sessions was played
pub record ArePlayed (book : Opened Entry Terms) (lines : List Line) (old new : List Session) : Type 0 where
  pub count : length new ≡ length old
  pub each : (i : ℕ) (d : Session) → i < length old → IsPlayedSession book lines (slice_index_or old i d) (slice_index_or new i d)

-- each of the workers worked
pub record AreWorkedOut (book : Opened Entry Terms) (old new : List Worker) : Type 0 where
  pub count : length new ≡ length old
  pub each : (i : ℕ) (d : Worker) → i < length old → IsWorkedOut book (slice_index_or old i d) (slice_index_or new i d)
