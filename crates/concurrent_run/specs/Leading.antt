-- The run's own pass, which ends the document.
use Rattle.std.specs.Prelude.{◌≡◌, ℕ, ◌≤◌, List, ◌++◌, length, take, Some, None, Bool, true, false, All, MatchOption, ⊤, Result, Ok, Err}
use Rattle.std.specs.List.{AllByRecursion}
use mathlib.Core.List.{IsPrefix}
use Rattle.turn_table.specs.States.{Opened}
use Rattle.edit_rules.specs.declared.refusals.Refusal.{Refusal}
use Rattle.edit_rules.specs.declared.refusals.Refusal.TheVariants as refusal
use Rattle.doc_book.specs.declared.desks.Terms.{Terms}
use Rattle.doc_book.specs.declared.entries.Entry.{Entry}
use Rattle.doc_book.specs.declared.entries.Act.TheVariants as act
use Rattle.doc_book.specs.declared.asking.Answer.{Answer}
use Rattle.doc_book.specs.declared.replies.Refused.{Refused}
use Rattle.doc_book.specs.declared.replies.Reply.{Reply}
use Rattle.doc_book.specs.History.{end_place}
use Rattle.doc_book.specs.Replies.{IsEntryAt, after_of}
use Rattle.shared_book.specs.Held.{Held}
use Rattle.concurrent_run.specs.declared.elements.Session.{Session}

-- the refusal is that the document was ended
abbrev pub is_ended : Refusal → Bool
is_ended (refusal.Ended place) = true
is_ended _ = false

-- the front of an answer to a question
abbrev pub asked_front : Result Answer Refused → ℕ
asked_front (Ok a) = a.front
asked_front (Err r) = r.front

-- where the entering of End was answered so, End stands
abbrev pub end_stands : Result ℕ Refused → Bool
end_stands (Ok place) = true
end_stands (Err r) = is_ended r.refusal

-- the pass is the same caller's of the same document, and nothing is gone of what it had seen
pub record WentOn (book : Opened Entry Terms) (old new : Held) : Type 0 where
  pub table : new.table ≡ Some book
  pub who : new.who ≡ old.who
  pub begins : IsPrefix old.seen new.seen

-- End stands at this place, by caller 0, and not before it
pub record IsEndAt (h : List Entry) (place : ℕ) : Type 0 where
  pub stands : IsEntryAt h place 0 0 (λ a. a ≡ act.End)
  pub first : end_place (take place h) ≡ None

-- what the pass has seen is ended. The places that joined its own are those of End, behind what it had seen
pub record IsEnded (old new : Held) : Type 0 where
  pub place : ℕ
  pub ended : end_place new.seen ≡ Some place
  pub mine : List ℕ
  pub own : new.own ≡ old.own ++ mine
  pub ends : AllByRecursion (λ p. IsEndAt new.seen p × (length old.seen ≤ p)) mine

-- no reply of the session shows more entries than so many
abbrev pub AllBefore : ℕ → Session → Type 0
AllBefore front s = MatchOption s.replies ⊤ (λ rs. All (λ (r : Reply). after_of r ≤ front) rs)

-- the run's pass has seen the document ended. The places of its own are those of End, behind all replies of the sessions
pub record IsLed (book : Opened Entry Terms) (old new : Held) (sessions : List Session) : Type 0 where
  pub table : new.table ≡ Some book
  pub who : new.who ≡ old.who
  pub place : ℕ
  pub ended : end_place new.seen ≡ Some place
  pub ends : AllByRecursion (λ p. IsEndAt new.seen p × All (AllBefore p) sessions) new.own
