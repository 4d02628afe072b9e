-- Lines that one thread plays in file order.
use Rattle.std.proofs.Common.{◌≡◌, ℕ, ◌+◌, ◌≤◌, List, [], ◌∷◌, ◌++◌, Bool, true, false, cond, Option, Some, None, length, refl, ap, sym, ◌∙◌, subst, arith, append_assoc, ◌==◌, inl, inr}
use Rattle.std.specs.Prelude.{◌⊎◌, MatchOption}
use Rattle.std.specs.List.{AllByRecursion}
use Rattle.std.proofs.lemmas.List.{append-nil, length-append}
use Rattle.scene_model.specs.Names.{NameOf}
use Rattle.edit_rules.specs.declared.edits.Edit.{Edit}
use Rattle.doc_book.specs.declared.entries.Entry.{Entry}
use Rattle.script_text.specs.declared.scripts.Command.{Command}
use Rattle.script_text.specs.declared.scripts.Command.TheVariants as command
use Rattle.script_text.specs.declared.scripts.Line.{Line}
use Rattle.doc_book.specs.declared.replies.Reply.{Reply}
use Rattle.doc_book.specs.declared.replies.Reply.TheVariants as reply
use Rattle.doc_book.specs.Document.{Document}
use Rattle.doc_book.specs.Events.{Event, Edits, Undoes, Asks, Looks, Publishes, Ends, Finishes, Said, Replied, Found, caller_of, place_made}
use mathlib.Core.List.{IsPrefix}
use Rattle.doc_book.specs.Listing.{session_lines}
use Rattle.doc_book.specs.Plays.{IsLaidOut, IsPlayedAs, IsPlayedLine, IsPlayed, session_replies, all_replies, IsByCalls, IsFresh, AreCounted}
use Rattle.doc_book.specs.Replies.{IsRightReply, AreRightReplies, made_places, own_places, from_of, after_of}
use Rattle.doc_book.specs.Steps.{IsEditStep, IsUndoStep, IsAskStep, IsLookStep, IsPublishStep, IsEndStep, IsFinishStep, IsStep, IsRun}
use Rattle.doc_book.proofs.Later.{IsRightReply-append}
use Rattle.doc_book.proofs.Running.{listed, adds_prefix, adds_budget, adds_own, made_in, made_places-append, IsPrefix-trans}
use Rattle.doc_book.proofs.Stepping.{Adds, step_adds, grown, edit_right, undo_right, ask_right, look_right, publish_right}

-- ---- where a reply was given

edit_front : (old new : Document) (who line : ℕ) (e : Edit) (r : Reply) → IsEditStep old new who line e (Replied r) → from_of r ≡ length old.history
edit_front old new who line e (reply.Accepted place) is = is.1.place_is
edit_front old new who line e (reply.Refused r) is = is.1.front_is
edit_front old new who line e _ is = absurd is

undo_front : (old new : Document) (who line : ℕ) (r : Reply) → IsUndoStep old new who line (Replied r) → from_of r ≡ length old.history
undo_front old new who line (reply.Accepted place) is = is.1.place_is
undo_front old new who line (reply.Refused r) is = is.1.front_is
undo_front old new who line _ is = absurd is

ask_front : (old new : Document) (name : NameOf) (r : Reply) → IsAskStep old new name (Replied r) → from_of r ≡ length old.history
ask_front old new name (reply.Answer a) is = is.1.front_is
ask_front old new name (reply.Refused r) is = is.1.front_is
ask_front old new name _ is = absurd is

look_front : (old new : Document) (r : Reply) → IsLookStep old new (Replied r) → from_of r ≡ length old.history
look_front old new (reply.Refused r) is = is.1.front_is
look_front old new (reply.Spent front) is = is.1.front_is
look_front old new (reply.Idle front) is = is.1.front_is
look_front old new _ is = absurd is

publish_front : (old new : Document) (who line front : ℕ) (r : Reply) → IsPublishStep old new who line front (Replied r) → from_of r ≡ length old.history
publish_front old new who line front (reply.Stale now) is = is.2.front_is
publish_front old new who line front (reply.Published place) is = is.2.grows.place_is
publish_front old new who line front _ is = absurd is

end_front : (old new : Document) (r : Reply) → IsEndStep old new (Replied r) → from_of r ≡ length old.history
end_front old new (reply.Accepted place) is = is.1.place_is
end_front old new (reply.Refused r) is = is.1.front_is
end_front old new _ is = absurd is

finish_front : (old new : Document) (r : Reply) → IsFinishStep old new (Replied r) → from_of r ≡ length old.history
finish_front old new (reply.Published place) is = is.1.grows.place_is
finish_front old new _ is = absurd is

-- each reply is given at the length that the history had
pub step_front : (old new : Document) (e : Event) (r : Reply) → IsStep old new e (Replied r) → from_of r ≡ length old.history
step_front old new (Edits who line edit) r is = edit_front old new who line edit r is
step_front old new (Undoes who line) r is = undo_front old new who line r is
step_front old new (Asks who name) r is = ask_front old new name r is
step_front old new (Looks who) r is = look_front old new r is
step_front old new (Publishes who line front) r is = publish_front old new who line front r is
step_front old new Ends r is = end_front old new r is
step_front old new Finishes r is = finish_front old new r is

-- the history is longer by the entries that the reply names
adds_length : (old new : Document) (call : Event) (o : Option ℕ) → MatchOption o (new ≡ old) (λ place. Adds old new place call) → length new.history ≡ length old.history + length (listed o)
adds_length old new call None same = ap (λ (d : Document). length d.history) same ∙ omega arith
adds_length old new call (Some place) adds =
    ap length (grown old new place adds.entry adds.grows) ∙ length-append old.history (adds.entry ∷ [])

-- after an answer a caller has seen as much more as the answer names
pub after_from : (r : Reply) → after_of r ≡ from_of r + length (made_places (r ∷ []))
after_from (reply.Accepted place) = refl
after_from (reply.Published place) = refl
after_from (reply.Refused r) = omega arith
after_from (reply.Idle front) = omega arith
after_from (reply.Spent front) = omega arith
after_from (reply.Stale front) = omega arith
after_from (reply.Answer a) = omega arith

-- ---- one line

-- one line was played: its reply is right at the history as it stands, was given at the history as it stood, shows
-- the history as it stands, and isn't stale; the line's session alone got the entry that the reply names, if any
pub record PlaysLine (old new : Document) (line : Line) (reply : Reply) : Type 0 where
  pub budget : new.budget ≡ old.budget
  pub grows : IsPrefix old.history new.history
  pub longer : length new.history ≡ length old.history + length (made_places (reply ∷ []))
  pub right : (seen : ℕ) → IsRightReply new.history old.budget line.session seen line reply
  pub from : from_of reply ≡ length old.history
  pub fresh : IsFresh reply
  pub own : (who : ℕ) → own_places new.history who ≡ own_places old.history who ++ cond (line.session == who) (made_places (reply ∷ [])) []

-- what a caller had seen matters to a stale reply alone
any_seen : (h : List Entry) (budget who before : ℕ) (line : Line) (r : Reply) → IsFresh r → IsRightReply h budget who before line r → (seen : ℕ) → IsRightReply h budget who seen line r
any_seen h budget who before line (reply.Accepted place) fresh is seen = is
any_seen h budget who before line (reply.Published place) fresh is seen = is
any_seen h budget who before line (reply.Refused r) fresh is seen = is
any_seen h budget who before line (reply.Idle front) fresh is seen = is
any_seen h budget who before line (reply.Spent front) fresh is seen = is
any_seen h budget who before line (reply.Stale front) fresh is seen = absurd fresh
any_seen h budget who before line (reply.Answer a) fresh is seen = is

plays_by : (old new : Document) (call : Event) (line : Line) (r : Reply) (before : ℕ) → caller_of call ≡ line.session → IsStep old new call (Replied r)
    → IsFresh r → IsRightReply new.history old.budget line.session before line r → PlaysLine old new line r
plays_by old new call line r before who is fresh right =
    let adds = step_adds old new call (Replied r) is in
    let named = made_in (Replied r) in
    record {
      budget = adds_budget old new call (place_made (Replied r)) adds;
      grows = adds_prefix old new call (place_made (Replied r)) adds;
      longer = adds_length old new call (place_made (Replied r)) adds ∙ ap (λ (ps : List ℕ). length old.history + length ps) (sym named);
      right = any_seen new.history old.budget line.session before line r fresh right;
      from = step_front old new call r is;
      fresh = fresh;
      own = λ t.
          adds_own old new call t (place_made (Replied r)) adds
          ∙ ap (λ (ps : List ℕ). own_places old.history t ++ cond (caller_of call == t) ps []) (sym named)
          ∙ ap (λ (n : ℕ). own_places old.history t ++ cond (n == t) (made_places (r ∷ [])) []) who;
    }

plays_edit : (old new : Document) (number session : ℕ) (e : Edit) (r : Reply) → IsEditStep old new session number e (Replied r)
    → PlaysLine old new (record { number = number; session = session; command = command.Edit e }) r
plays_edit old new number session e r is =
    plays_by old new (Edits session number e) (record { number = number; session = session; command = command.Edit e }) r 0 refl is (fresh r is)
    (edit_right old new session number e (Replied r) is)
  where
    fresh : (t : Reply) → IsEditStep old new session number e (Replied t) → IsFresh t
    fresh (reply.Stale now) wrong = wrong
    fresh _ step = tt

plays_undo : (old new : Document) (number session : ℕ) (r : Reply) → IsUndoStep old new session number (Replied r)
    → PlaysLine old new (record { number = number; session = session; command = command.Undo }) r
plays_undo old new number session r is =
    plays_by old new (Undoes session number) (record { number = number; session = session; command = command.Undo }) r 0 refl is (fresh r is)
    (undo_right old new session number (Replied r) is)
  where
    fresh : (t : Reply) → IsUndoStep old new session number (Replied t) → IsFresh t
    fresh (reply.Stale now) wrong = wrong
    fresh _ step = tt

plays_where : (old new : Document) (number session : ℕ) (name : NameOf) (r : Reply) → IsAskStep old new name (Replied r)
    → PlaysLine old new (record { number = number; session = session; command = command.Where name }) r
plays_where old new number session name (reply.Answer a) is =
    plays_by old new (Asks session name) (record { number = number; session = session; command = command.Where name }) (reply.Answer a) 0 refl is tt
    (ask_right old new session name (Replied (reply.Answer a)) is)
plays_where old new number session name (reply.Refused r) is =
    plays_by old new (Asks session name) (record { number = number; session = session; command = command.Where name }) (reply.Refused r) 0 refl is tt
    (ask_right old new session name (Replied (reply.Refused r)) is)
plays_where old new number session name _ is = absurd is

plays_look : (old new : Document) (number session : ℕ) (r : Reply) → IsLookStep old new (Replied r)
    → PlaysLine old new (record { number = number; session = session; command = command.Layout }) r
plays_look old new number session (reply.Refused r) is =
    plays_by old new (Looks session) (record { number = number; session = session; command = command.Layout }) (reply.Refused r) 0 refl is tt
    (look_right old new session (Replied (reply.Refused r)) is)
plays_look old new number session (reply.Spent front) is =
    plays_by old new (Looks session) (record { number = number; session = session; command = command.Layout }) (reply.Spent front) 0 refl is tt
    (look_right old new session (Replied (reply.Spent front)) is)
plays_look old new number session (reply.Idle front) is =
    plays_by old new (Looks session) (record { number = number; session = session; command = command.Layout }) (reply.Idle front) 0 refl is tt
    (look_right old new session (Replied (reply.Idle front)) is)
plays_look old new number session _ is = absurd is

-- a publication at the front at which the frame was found to be made isn't stale
plays_publish : (old new : Document) (number session front : ℕ) (r : Reply) → front ≡ length old.history → IsPublishStep old new session number front (Replied r)
    → PlaysLine old new (record { number = number; session = session; command = command.Layout }) r
plays_publish old new number session front (reply.Published place) here is =
    plays_by old new (Publishes session number front) (record { number = number; session = session; command = command.Layout }) (reply.Published place) front refl is tt
    (publish_right old new session number front (Replied (reply.Published place)) is)
plays_publish old new number session front (reply.Stale now) here is = absurd (omega (arith, here, is.0))
plays_publish old new number session front _ here is = absurd is

plays_layout : (old new : Document) (number session : ℕ) (r : Reply)
    → IsLookStep old new (Replied r) ⊎ IsLaidOut old new (record { number = number; session = session; command = command.Layout }) r
    → PlaysLine old new (record { number = number; session = session; command = command.Layout }) r
plays_layout old new number session r (inl is) = plays_look old new number session r is
plays_layout old new number session r (inr laid) =
    plays_publish old new number session laid.front r laid.found.1.front_is
    (subst (λ (d : Document). IsPublishStep d new session number laid.front (Replied r)) laid.found.1.same laid.published)

plays_as : (old new : Document) (number session : ℕ) (c : Command) (r : Reply) → IsPlayedAs old new (record { number = number; session = session; command = c }) r c
    → PlaysLine old new (record { number = number; session = session; command = c }) r
plays_as old new number session (command.Edit e) r is = plays_edit old new number session e r is
plays_as old new number session command.Undo r is = plays_undo old new number session r is
plays_as old new number session command.Layout r is = plays_layout old new number session r is
plays_as old new number session (command.Where name) r is = plays_where old new number session name r is

pub plays_line : (old new : Document) (line : Line) (r : Reply) → IsPlayedLine old new line r → PlaysLine old new line r
plays_line old new line r is = plays_as old new line.number line.session line.command r is

-- ---- all lines

pub played_prefix : (old new : Document) (ls : List Line) (rs : List Reply) → IsPlayed old new ls rs → IsPrefix old.history new.history
played_prefix old new [] [] is = ([], append-nil old.history ∙ sym (ap (λ (d : Document). d.history) is))
played_prefix old new [] (r ∷ rs) is = absurd is
played_prefix old new (l ∷ ls) [] is = absurd is
played_prefix old new (l ∷ ls) (r ∷ rs) is =
    IsPrefix-trans old.history is.0.history new.history (plays_line old is.0 l r is.1).grows (played_prefix is.0 new ls rs is.2)

-- no reply is stale
pub played_fresh : (old new : Document) (ls : List Line) (rs : List Reply) → IsPlayed old new ls rs → AllByRecursion IsFresh rs
played_fresh old new [] [] is = tt
played_fresh old new [] (r ∷ rs) is = absurd is
played_fresh old new (l ∷ ls) [] is = absurd is
played_fresh old new (l ∷ ls) (r ∷ rs) is = ((plays_line old is.0 l r is.1).fresh, played_fresh is.0 new ls rs is.2)

-- each reply was given at as many entries as the replies before it made
pub played_counted : (old new : Document) (ls : List Line) (rs : List Reply) → IsPlayed old new ls rs → AreCounted (length old.history) rs
played_counted old new [] [] is = tt
played_counted old new [] (r ∷ rs) is = absurd is
played_counted old new (l ∷ ls) [] is = absurd is
played_counted old new (l ∷ ls) (r ∷ rs) is =
    let line = plays_line old is.0 l r is.1 in (line.from, subst (λ (n : ℕ). AreCounted n rs) line.longer (played_counted is.0 new ls rs is.2))

-- each session gets the entries that its replies name
made_first : (l : Line) (ls : List Line) (r : Reply) (rs : List Reply) (session : ℕ)
    → made_places (session_replies session (l ∷ ls) (r ∷ rs)) ≡ cond (l.session == session) (made_places (r ∷ [])) [] ++ made_places (session_replies session ls rs)
made_first l ls r rs session = by (l.session == session)
  where
    by : (b : Bool) → made_places (cond b (r ∷ session_replies session ls rs) (session_replies session ls rs)) ≡ cond b (made_places (r ∷ [])) [] ++ made_places (session_replies session ls rs)
    by true = made_places-append (r ∷ []) (session_replies session ls rs)
    by false = refl

pub played_own : (old new : Document) (ls : List Line) (rs : List Reply) (session : ℕ) → IsPlayed old new ls rs
    → own_places new.history session ≡ own_places old.history session ++ made_places (session_replies session ls rs)
played_own old new [] [] session is = ap (λ (d : Document). own_places d.history session) is ∙ sym (append-nil (own_places old.history session))
played_own old new [] (r ∷ rs) session is = absurd is
played_own old new (l ∷ ls) [] session is = absurd is
played_own old new (l ∷ ls) (r ∷ rs) session is =
    played_own is.0 new ls rs session is.2
    ∙ ap (λ (ps : List ℕ). ps ++ made_places (session_replies session ls rs)) ((plays_line old is.0 l r is.1).own session)
    ∙ append_assoc (own_places old.history session) (cond (l.session == session) (made_places (r ∷ [])) []) (made_places (session_replies session ls rs))
    ∙ ap (λ (ps : List ℕ). own_places old.history session ++ ps) (sym (made_first l ls r rs session))

-- each session's replies are right, and none was given before the session had seen what the one before it showed
pub played_right : (old new : Document) (ls : List Line) (rs : List Reply) (session seen : ℕ) → IsPlayed old new ls rs → seen ≤ length old.history
    → AreRightReplies new.history old.budget session seen (session_lines session ls) (session_replies session ls rs)
played_right old new [] [] session seen is le = tt
played_right old new [] (r ∷ rs) session seen is le = absurd is
played_right old new (l ∷ ls) [] session seen is le = absurd is
played_right old new (l ∷ ls) (r ∷ rs) session seen is le =
    by (l.session == session) refl
    (λ t most. subst (λ (b : ℕ). AreRightReplies new.history b session t (session_lines session ls) (session_replies session ls rs)) line.budget (played_right is.0 new ls rs session t is.2 most))
  where
    line : PlaysLine old is.0 l r
    line = plays_line old is.0 l r is.1

    grows : IsPrefix is.0.history new.history
    grows = played_prefix is.0 new ls rs is.2

    by : (b : Bool) → (l.session == session) ≡ b
        → ((t : ℕ) → t ≤ length is.0.history → AreRightReplies new.history old.budget session t (session_lines session ls) (session_replies session ls rs))
        → AreRightReplies new.history old.budget session seen (cond b (l ∷ session_lines session ls) (session_lines session ls)) (cond b (r ∷ session_replies session ls rs) (session_replies session ls rs))
    by true same rest = (
      subst (λ (who : ℕ). IsRightReply new.history old.budget who seen l r) (grind (arith, same))
          (subst (λ (h : List Entry). IsRightReply h old.budget l.session seen l r) grows.1
          (IsRightReply-append is.0.history grows.0 old.budget l.session seen l r (line.right seen))),
      omega (arith, le, line.from),
      rest (after_of r) (omega (arith, after_from r, line.from, line.longer)),
    )
    by false same rest = rest seen (omega (arith, le, line.longer))

-- ---- as calls

pub IsRun-append : (a b c : Document) (es fs : List Event) (ss ts : List Said) → IsRun a b es ss → IsRun b c fs ts → IsRun a c (es ++ fs) (ss ++ ts)
IsRun-append a b c [] fs [] ts first rest = subst (λ (d : Document). IsRun d c fs ts) first rest
IsRun-append a b c [] fs (s ∷ ss) ts first rest = absurd first
IsRun-append a b c (e ∷ es) fs [] ts first rest = absurd first
IsRun-append a b c (e ∷ es) fs (s ∷ ss) ts first rest = (first.0, first.1, IsRun-append first.0 b c es fs ss ts first.2 rest)

pub all_replies-append : (ss ts : List Said) → all_replies (ss ++ ts) ≡ all_replies ss ++ all_replies ts
all_replies-append [] ts = refl
all_replies-append (Replied r ∷ ss) ts = ap (λ (rs : List Reply). r ∷ rs) (all_replies-append ss ts)
all_replies-append (_ ∷ ss) ts = all_replies-append ss ts

IsByCalls-then : (a b c : Document) (rs ts : List Reply) → IsByCalls a b rs → IsByCalls b c ts → IsByCalls a c (rs ++ ts)
IsByCalls-then a b c rs ts first rest = record {
  calls = first.calls ++ rest.calls;
  said = first.said ++ rest.said;
  run = IsRun-append a b c first.calls rest.calls first.said rest.said first.run rest.run;
  replies_are = all_replies-append first.said rest.said ∙ ap (λ (xs : List Reply). xs ++ all_replies rest.said) first.replies_are ∙ ap (λ (xs : List Reply). rs ++ xs) rest.replies_are;
}

one_call : (old new : Document) (call : Event) (r : Reply) → IsStep old new call (Replied r) → IsByCalls old new (r ∷ [])
one_call old new call r is = record { calls = call ∷ []; said = Replied r ∷ []; run = (new, is, refl); replies_are = refl }

line_calls : (old new : Document) (number session : ℕ) (c : Command) (r : Reply) → IsPlayedAs old new (record { number = number; session = session; command = c }) r c → IsByCalls old new (r ∷ [])
line_calls old new number session (command.Edit e) r is = one_call old new (Edits session number e) r is
line_calls old new number session command.Undo r is = one_call old new (Undoes session number) r is
line_calls old new number session command.Layout r (inl is) = one_call old new (Looks session) r is
line_calls old new number session command.Layout r (inr laid) = record {
  calls = Looks session ∷ Publishes session number laid.front ∷ [];
  said = Found laid.front ∷ Replied r ∷ [];
  run = (laid.between, laid.found, (new, laid.published, refl));
  replies_are = refl;
}
line_calls old new number session (command.Where name) r is = one_call old new (Asks session name) r is

-- lines that are played are a run of calls
pub played_calls : (old new : Document) (ls : List Line) (rs : List Reply) → IsPlayed old new ls rs → IsByCalls old new rs
played_calls old new [] [] is = record { calls = []; said = []; run = is; replies_are = refl }
played_calls old new [] (r ∷ rs) is = absurd is
played_calls old new (l ∷ ls) [] is = absurd is
played_calls old new (l ∷ ls) (r ∷ rs) is =
    IsByCalls-then old is.0 new (r ∷ []) rs (line_calls old is.0 l.number l.session l.command r is.1) (played_calls is.0 new ls rs is.2)
