-- What a worker does at a desk.
use Rattle.std.specs.Prelude.{◌≡◌, ℕ, ◌+◌, ◌≤◌, ◌<◌, ◌^◌, List, [], ◌∷◌, ◌++◌, length, take, Some, None, ⊤}
use Rattle.std.specs.List.{AllByRecursion}
use mathlib.Core.List.{IsPrefix}
use Rattle.doc_book.specs.declared.entries.Entry.{Entry}
use Rattle.doc_book.specs.Desks.{Standing, IsSameDesk}
use Rattle.doc_book.specs.History.{end_place}
use Rattle.doc_book.specs.Replies.{IsEntryAt, IsFrameAct, IsLook, Spent}
use Rattle.doc_book.specs.Turns.{counted}
use Rattle.layout_worker.specs.declared.tallies.Last.{Last}
use Rattle.layout_worker.specs.declared.tallies.Last.TheVariants as last
use Rattle.layout_worker.specs.declared.working.Round.{Round}
use Rattle.layout_worker.specs.declared.working.Round.TheVariants as round

-- at this place of a history stands a frame by this caller with line 0, and no End before it
abbrev pub IsWorkFrame : List Entry → ℕ → ℕ → Type 0
IsWorkFrame h who place = IsEntryAt h place who 0 IsFrameAct × (end_place (take place h) ≡ None)

-- Between two moments the caller has made frames with line 0, of which End stands before none, at these places, and no
-- other entry. Nothing is gone of what it had seen.
pub record IsWorked (old new : Standing) (mine : List ℕ) : Type 0 where
  pub same : IsSameDesk old new
  pub begins : IsPrefix old.seen new.seen
  pub own : new.own ≡ old.own ++ mine
  pub frames : AllByRecursion (IsWorkFrame new.seen new.who) mine
  pub grew : length old.seen + length mine ≤ length new.seen

-- What a worker had been answered as it stopped: what it has seen is ended; or holds the budget of frames, and isn't
-- ended. No job is out then. Else memory was wanting, which needs no cause.
abbrev pub IsLast : Standing → Last → Type 0
IsLast s last.Ending = ((place : ℕ) × (end_place s.seen ≡ Some place)) × (s.told.job ≡ None)
IsLast s last.Spent = IsLook s.seen s.budget Spent × (s.told.job ≡ None)
IsLast s last.Memory = ⊤

-- what a worker was told in a round: the counts come to these numbers
pub record Tells (new : Standing) (stale idle : ℕ) : Type 0 where
  pub stale_is : new.told.stale ≡ stale
  pub idle_is : new.told.idle ≡ idle

-- what one round came to: a frame, a stale one, nothing to do, or the last answer
abbrev pub IsRound : Standing → Standing → Round → Type 0
IsRound old new round.Published =
    ((place : ℕ) × IsWorked old new (place ∷ [])) × Tells new old.told.stale old.told.idle × (new.told.job ≡ None) × (length new.seen < 2 ^ 32)
IsRound old new round.Stale = IsWorked old new [] × Tells new (counted old.told.stale) old.told.idle × (new.told.job ≡ None)
IsRound old new round.Idle = IsWorked old new [] × Tells new old.told.stale (counted old.told.idle) × (new.told.job ≡ None)
IsRound old new (round.Last l) = IsWorked old new [] × Tells new old.told.stale old.told.idle × IsLast new l
