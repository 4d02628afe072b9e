-- A document as its callers see it.
use Rattle.std.specs.Prelude.{ℕ, List, []}
use Rattle.doc_book.specs.declared.entries.Entry.{Entry}

-- the entries made so far, in order, and how many frames may come before End. It is the world in which events happen
pub record Document : Type 0 where
  pub history : List Entry
  pub budget : ℕ

-- the document without entries
abbrev pub opened : ℕ → Document
opened budget = record { history = []; budget = budget }
