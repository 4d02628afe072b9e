-- What a caller's desk stands for.
use Rattle.std.specs.Prelude.{◌≡◌, ℕ, List}
use Rattle.doc_book.specs.declared.entries.Entry.{Entry}
use Rattle.doc_book.specs.declared.told.Told.{Told}
use Rattle.doc_book.specs.Document.{Document}
use Rattle.doc_book.specs.Replies.{own_places}
use Rattle.doc_book.specs.Turns.{Turned}

-- The caller's number, the budget of frames, the history seen so far, the caller's own places in it, and what the caller
-- was told. `loan` is the name of the reference through which the desk writes, by which its maker knows it again; of a
-- desk without one it is 0.
pub record Standing : Type 0 where
  pub who : ℕ
  pub budget : ℕ
  pub seen : List Entry
  pub own : List ℕ
  pub told : Told
  pub loan : ℕ

-- two standings of one desk: neither the caller's number, nor the budget, nor the reference has changed
pub record IsSameDesk (old new : Standing) : Type 0 where
  pub who : new.who ≡ old.who
  pub budget : new.budget ≡ old.budget
  pub loan : new.loan ≡ old.loan

-- one call at a desk is a turn
pub record Called (IsAnswer : Document → Document → Type 0) (old new : Standing) (places : List ℕ) : Type 0 where
  pub turned : Turned old.budget IsAnswer old.seen new.seen old.own new.own places
  pub same : IsSameDesk old new

-- the desk of a caller at a document which no one else calls: all of its history is seen
abbrev pub alone_at : Document → ℕ → Told → ℕ → Standing
alone_at document who told loan = record {
  who = who;
  budget = document.budget;
  seen = document.history;
  own = own_places document.history who;
  told = told;
  loan = loan;
}
