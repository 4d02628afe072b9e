-- The frames after End.
use Rattle.std.specs.Prelude.{◌≡◌, ◌⊎◌, ◌<◌, ◌≤◌, List, [], ◌∷◌, ◌++◌, length}
use Rattle.std.specs.List.{AllByRecursion}
use Rattle.doc_book.specs.declared.entries.Entry.{Entry}
use Rattle.doc_book.specs.Document.{Document}
use Rattle.doc_book.specs.Finished.{IsFinishing}
use Rattle.doc_book.specs.History.{after_end, IsSettled}
use Rattle.doc_book.specs.Legal.{most_finishing}

-- the document wasn't settled, and has one finishing frame more
pub record GrowsOnce (old new : Document) : Type 0 where
  pub frame : Entry
  pub finishing : IsFinishing frame
  pub grown : new.history ≡ old.history ++ frame ∷ []
  pub budget : new.budget ≡ old.budget
  pub unsettled : IsSettled old.history → ⊥
  pub room : length (after_end old.history) < most_finishing

-- the document stays, since it is settled or 64 frames stand after End
pub record IsDone (old new : Document) : Type 0 where
  pub same : new ≡ old
  pub why : IsSettled old.history ⊎ (most_finishing ≤ length (after_end old.history))

-- the document has finishing frames more
pub record GrowsByFinishing (old new : Document) : Type 0 where
  pub more : List Entry
  pub finishing : AllByRecursion IsFinishing more
  pub grown : new.history ≡ old.history ++ more
  pub budget : new.budget ≡ old.budget
