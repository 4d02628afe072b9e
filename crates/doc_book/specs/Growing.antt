-- A document with one more entry.
use Rattle.std.specs.Prelude.{◌≡◌, ℕ, [], ◌∷◌, ◌++◌, length}
use Rattle.doc_book.specs.declared.entries.Entry.{Entry}
use Rattle.doc_book.specs.declared.entries.Act.{Act}
use Rattle.doc_book.specs.Document.{Document}

-- an entry by this caller with this line
abbrev pub entry_of : ℕ → ℕ → Act → Entry
entry_of who line act = record { who = who; line = line; act = act }

-- the document has one entry more, at the place that its length was
pub record Grows (old new : Document) (place : ℕ) (entry : Entry) : Type 0 where
  pub place_is : place ≡ length old.history
  pub entered : new ≡ record old { history = old.history ++ entry ∷ [] }
