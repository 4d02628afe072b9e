-- Seats that no caller has yet.
use Rattle.std.specs.Prelude.{◌≡◌, false, List, [], All, Some}
use Rattle.turn_table.specs.States.{Opened, Seated}
use Rattle.doc_book.specs.declared.desks.Terms.{Terms}
use Rattle.doc_book.specs.declared.entries.Entry.{Entry}

-- a seat of this table as it was opened
abbrev pub IsFreshSeat : Opened Entry Terms → Seated Entry Terms → Type 0
IsFreshSeat table s = (s.table ≡ Some table) × (s.seen ≡ table.entries) × (s.own ≡ []) × (s.in_turn ≡ false)

-- each of the seats is so
abbrev pub AllFreshSeats : Opened Entry Terms → List (Seated Entry Terms) → Type 0
AllFreshSeats table seats = All (IsFreshSeat table) seats
