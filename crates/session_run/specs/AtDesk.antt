-- A session that plays its lines at a desk, alone or beside others.
use Rattle.std.specs.Prelude.{◌≡◌, ◌≤◌, List, [], ◌∷◌, ◌++◌, length, None, Bool, true, false, count_by, if◌then◌else◌}
use Rattle.std.specs.List.{AllByRecursion}
use mathlib.Core.List.{IsPrefix}
use Rattle.script_text.specs.declared.scripts.Line.{Line}
use Rattle.doc_book.specs.declared.replies.Reply.{Reply}
use Rattle.doc_book.specs.declared.replies.Reply.TheVariants as reply
use Rattle.doc_book.specs.Desks.{Standing, IsSameDesk}
use Rattle.doc_book.specs.Replies.{IsRightReply, AreRightReplies, made_places, from_of, after_of}
use Rattle.doc_book.specs.Turns.{counted}

-- the reply says that a frame came too late
abbrev pub is_stale : Reply → Bool
is_stale (reply.Stale front) = true
is_stale _ = false

-- the caller's number and the budget are the same, and nothing is gone of what it had seen, nor of its own places
pub record IsKeptAt (old new : Standing) : Type 0 where
  pub same : IsSameDesk old new
  pub begins : IsPrefix old.seen new.seen
  pub own : IsPrefix old.own new.own

-- One line was played at a desk, and has this reply. It is right in what is seen afterwards, was given at no fewer entries
-- than were seen before, and shows no more than is seen afterwards. It names the place that joins the own ones, if one
-- does. A stale reply is counted, and no job is out.
pub record IsRepliedAt (old new : Standing) (line : Line) (reply : Reply) : Type 0 where
  pub own : new.own ≡ old.own ++ made_places (reply ∷ [])
  pub right : IsRightReply new.seen new.budget new.who (length old.seen) line reply
  pub from : length old.seen ≤ from_of reply
  pub seen : after_of reply ≤ length new.seen
  pub stale : new.told.stale ≡ (if is_stale reply then counted old.told.stale else old.told.stale)
  pub job : new.told.job ≡ None

-- These lines were played at a desk, in order, and have these replies, one for each. They are right in what is seen
-- afterwards, none was given before the one before it was seen, and none shows more than is seen afterwards. The places
-- that they name, in order, are those that joined the own ones. The stale ones were told, and no job is out.
pub record IsPlayedAt (old new : Standing) (lines : List Line) (replies : List Reply) : Type 0 where
  pub same : IsSameDesk old new
  pub begins : IsPrefix old.seen new.seen
  pub own : new.own ≡ old.own ++ made_places replies
  pub right : AreRightReplies new.seen new.budget new.who (length old.seen) lines replies
  pub seen : AllByRecursion (λ (r : Reply). after_of r ≤ length new.seen) replies
  pub stale : new.told.stale ≡ count_by is_stale replies
  pub job : new.told.job ≡ None
