-- A pass as its callers see it.
use Rattle.std.specs.Prelude.{◌≡◌, ℕ, ◌==◌, List, [], ◌∷◌, Bool, true, false, if◌then◌else◌, Option, Some, None, slice_get}
use Rattle.std.specs.Prelude.{◌<◌, ◌≤◌, length, All, map}
use Rattle.turn_table.specs.Counting.{occurrences, OnlyOne}
use Rattle.turn_table.specs.States.{Opened, Seated}
use Rattle.doc_book.specs.declared.desks.Terms.{Terms}
use Rattle.doc_book.specs.declared.entries.Entry.{Entry}
use Rattle.doc_book.specs.History.{is_end}

-- The shared book that the pass is of, the number of its seat there, the caller's number, the entries that were seen, and
-- the places of the caller's own ones.
pub record Held : Type 0 where
  pub table : Option (Opened Entry Terms)
  pub number : ℕ
  pub who : ℕ
  pub seen : List Entry
  pub own : List ℕ

-- there is an entry, and it is by this caller, or is End by caller 0
abbrev pub is_by : ℕ → Option Entry → Bool
is_by who None = false
is_by who (Some e) = if e.who == who then true else (if e.who == 0 then is_end e else false)

-- each of these places holds such an entry
abbrev pub all_by : ℕ → List Entry → List ℕ → Bool
all_by who seen [] = true
all_by who seen (p ∷ ps) = if is_by who (slice_get seen p) then all_by who seen ps else false

-- the seat of a pass, which is in no turn
abbrev pub seat_of : Held → Seated Entry Terms
seat_of p = record { table = p.table; number = p.number; seen = p.seen; own = p.own; in_turn = false }

-- a pass at the opening: it has seen the opening history, and owns no entry
abbrev pub IsFresh : Opened Entry Terms → Held → Type 0
IsFresh table p = (p.table ≡ Some table) × (p.seen ≡ table.entries) × (p.own ≡ [])

-- the callers' numbers, in order
abbrev pub whos_of : List Held → List ℕ
whos_of passes = map (λ p. p.who) passes

-- how often a place stands among the pass's own
abbrev pub owns : ℕ → Held → ℕ
owns place p = occurrences place p.own

-- each place of the history since the opening is own of exactly one of the passes, once, and no other place is own of a pass
pub record OwnedOnce (table : Opened Entry Terms) (list : List Entry) (passes : List Held) : Type 0 where
  pub since_opening : (place : ℕ) → length table.entries ≤ place → place < length list → OnlyOne (owns place) passes
  pub before_opening : (place : ℕ) → place < length table.entries → All (λ p. owns place p ≡ 0) passes
  pub past_end : (place : ℕ) → length list ≤ place → All (λ p. owns place p ≡ 0) passes
