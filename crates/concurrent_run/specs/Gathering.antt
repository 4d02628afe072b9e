-- What is gathered once all have ended.
use Rattle.std.specs.Prelude.{◌≡◌, ◌≤◌, List, [], ◌∷◌, ◌++◌, map, All, Option, Bool, true, false}
use Rattle.std.specs.Vec.{vec_capacity}
use mathlib.Core.List.{IsPrefix}
use Rattle.turn_table.specs.States.{Opened}
use Rattle.doc_book.specs.declared.desks.Terms.{Terms}
use Rattle.doc_book.specs.declared.entries.Entry.{Entry}
use Rattle.doc_book.specs.declared.replies.Reply.{Reply}
use Rattle.doc_book.specs.Document.{Document}
use Rattle.doc_book.specs.Legal.{IsLegal}
use Rattle.layout_worker.specs.declared.tallies.Tally.{Tally}
use Rattle.layout_worker.specs.declared.tallies.Last.{Last}
use Rattle.layout_worker.specs.declared.tallies.Last.TheVariants as last
use Rattle.shared_book.specs.Held.{Held, OwnedOnce}
use Rattle.concurrent_run.specs.declared.elements.Session.{Session}
use Rattle.concurrent_run.specs.declared.elements.Worker.{Worker}
use Rattle.concurrent_run.specs.declared.gathering.Room.{Room}

-- the pass of a session
abbrev pub session_pass : Session → Held
session_pass s = s.pass

-- the replies of a session, where it has them
abbrev pub session_replies : Session → Option (List Reply)
session_replies s = s.replies

-- the pass of a worker
abbrev pub worker_pass : Worker → Held
worker_pass w = w.pass

-- the tally of a worker
abbrev pub worker_tally : Worker → Tally
worker_tally w = w.tally

-- all passes: the run's, the sessions', the workers'
abbrev pub gathered : Held → List Session → List Worker → List Held
gathered run sessions workers = (run ∷ map session_pass sessions) ++ map worker_pass workers

-- it was for want of memory that the worker ended
abbrev pub lacked_memory : Last → Bool
lacked_memory last.Ending = false
lacked_memory last.Spent = false
lacked_memory last.Memory = true

-- there is room for all that is gathered, and nothing yet
pub record HasRoom (room : Room) : Type 0 where
  pub passes : (room.passes.items ≡ []) × (64 ≤ vec_capacity room.passes)
  pub lists : (room.lists.items ≡ []) × (8 ≤ vec_capacity room.lists)
  pub tallies : (room.tallies.items ≡ []) × (8 ≤ vec_capacity room.tallies)

-- The document was closed: its budget is that of the opening, its history is legal and begins with what each of the passes
-- has seen, and each of its entries is own of exactly one of them.
pub record IsClosed (book : Opened Entry Terms) (passes : List Held) (document : Document) : Type 0 where
  pub budget : document.budget ≡ book.terms.frames
  pub legal : IsLegal document.history document.budget
  pub seen : All (λ p. IsPrefix p.seen document.history) passes
  pub own : OwnedOnce book document.history passes
