-- What a desk at a shared book stands for.
use Rattle.std.specs.Prelude.{ℕ}
use Rattle.turn_table.specs.States.{Opened}
use Rattle.doc_book.specs.declared.desks.Terms.{Terms}
use Rattle.doc_book.specs.declared.entries.Entry.{Entry}
use Rattle.doc_book.specs.declared.told.Told.{Told}
use Rattle.doc_book.specs.Desks.{Standing}
use Rattle.shared_book.specs.Held.{Held}

-- the desk of a pass at a shared book: the budget is the book's, and the rest is the pass's
abbrev pub called_at : Opened Entry Terms → Held → Told → ℕ → Standing
called_at book pass told loan = record { who = pass.who; budget = book.terms.frames; seen = pass.seen; own = pass.own; told = told; loan = loan }
