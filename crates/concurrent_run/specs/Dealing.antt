-- Who calls at the document.
use Rattle.std.specs.Prelude.{◌≡◌, ℕ, List, [], ◌∷◌, ◌++◌, map, length, All}
use Rattle.turn_table.specs.Counting.{numbers_from}
use Rattle.turn_table.specs.States.{Opened}
use Rattle.script_text.specs.Scripts.{last_session}
use Rattle.doc_book.specs.declared.desks.Terms.{Terms}
use Rattle.doc_book.specs.declared.entries.Entry.{Entry}
use Rattle.concurrent_run.specs.Beside.{first_worker}
use Rattle.concurrent_run.specs.Elements.{IsNewPass}
use Rattle.concurrent_run.specs.Gathering.{session_pass, worker_pass}
use Rattle.concurrent_run.specs.declared.dealing.People.{People}

-- the callers' numbers: the sessions, so many workers, and the run itself
abbrev pub callers_of : ℕ → List ℕ
callers_of workers = (numbers_from 1 last_session ++ numbers_from first_worker workers) ++ 0 ∷ []

-- these people may begin at a shared document: each has a new pass of it, under its own number
pub record ArePeople (book : Opened Entry Terms) (people : People) : Type 0 where
  pub run : IsNewPass book people.run
  pub sessions : All (λ s. IsNewPass book (session_pass s)) people.sessions.items
  pub workers : All (λ w. IsNewPass book (worker_pass w)) people.workers.items
  pub run_who : people.run.who ≡ 0
  pub session_whos : map (λ s. (session_pass s).who) people.sessions.items ≡ numbers_from 1 last_session
  pub worker_whos : map (λ w. (worker_pass w).who) people.workers.items ≡ numbers_from first_worker (length people.workers.items)
