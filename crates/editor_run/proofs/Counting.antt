-- What is known of a document whose lines were played alone.
use Rattle.std.proofs.Common.{◌≡◌, ℕ, ◌≤◌, List, [], ◌∷◌, Bool, true, false, cond, Option, Some, None, length, refl, ap, sym, ◌∙◌, subst, arith, ◌==◌, inl, inr}
use Rattle.std.specs.Prelude.{MatchOption}
use Rattle.std.specs.List.{AllByRecursion}
use Rattle.std.proofs.lemmas.List.{length-append}
use Rattle.script_text.specs.declared.scripts.Command.{Command}
use Rattle.script_text.specs.declared.scripts.Command.TheVariants as command
use Rattle.script_text.specs.declared.scripts.Line.{Line}
use Rattle.script_text.specs.Scripts.{last_session, IsScript}
use Rattle.doc_book.specs.declared.entries.Entry.{Entry}
use Rattle.doc_book.specs.declared.entries.Act.{Act}
use Rattle.doc_book.specs.declared.entries.Act.TheVariants as act
use Rattle.doc_book.specs.declared.replies.Reply.{Reply}
use Rattle.doc_book.specs.Document.{Document, opened}
use Rattle.doc_book.specs.Events.{Event, Edits, Undoes, Asks, Looks, Publishes, Said, Replied, Found, caller_of, place_made}
use Rattle.doc_book.specs.History.{is_end, is_end_act}
use Rattle.doc_book.specs.Law.{IsEntryOf}
use Rattle.doc_book.specs.Listing.{session_lines}
use Rattle.doc_book.specs.Plays.{IsPlayedAs, IsPlayed, session_replies}
use Rattle.doc_book.specs.Steps.{IsStep}
use Rattle.doc_book.specs.Replies.{AreRightReplies, OwnEntriesAre, IsFrameAct, after_of}
use Rattle.doc_book.proofs.Later.{OwnEntriesAre-places}
use Rattle.doc_book.proofs.Playing.{plays_line, after_from, played_prefix, played_own, played_right, played_counted, played_fresh}
use Rattle.doc_book.proofs.Stepping.{Adds, step_adds, grown}
use Rattle.session_run.specs.Alone.{IsOfSession, IsPlayedAlone}
use Rattle.session_run.specs.Sessions.{ForSessions}
use Rattle.session_run.proofs.Elements.{all-push}
use Rattle.session_run.proofs.Lists.{ForSessions-then}
use Rattle.session_run.proofs.Playing.{played_length, of_sessions}
use Rattle.editor_run.specs.Played.{AreInFileOrder}

-- an entry of a session 1 to 8 that isn't End
pub record IsSessionEntry (e : Entry) : Type 0 where
  pub first : 1 ≤ e.who
  pub last : e.who ≤ last_session
  pub open_entry : is_end e ≡ false

-- the replies to a session's lines, among lines that were played: they are right, name its entries, and none was
-- given after the history as it stands
pub record HasReplies (document : Document) (lines : List Line) (session : ℕ) (replies : List Reply) : Type 0 where
  pub right : AreRightReplies document.history document.budget session 0 (session_lines session lines) replies
  pub own : OwnEntriesAre document.history session replies
  pub seen : AllByRecursion (λ r. after_of r ≤ length document.history) replies

-- lines were played from the empty history on, each for its session; there is a list of replies for each session
pub record HasPlayed (document : Document) (lines : List Line) (lists : List (List Reply)) : Type 0 where
  pub entries : AllByRecursion IsSessionEntry document.history
  pub eight : length lists ≡ last_session
  pub each : ForSessions 1 (HasReplies document lines) lists

-- ---- entries

-- the call is one of a session's
record IsSessionCall (call : Event) : Type 0 where
  first : 1 ≤ caller_of call
  last : caller_of call ≤ last_session
  open_entry : (e : Entry) → IsEntryOf call e → is_end e ≡ false

adds_session : (old new : Document) (call : Event) (o : Option ℕ) → IsSessionCall call → MatchOption o (new ≡ old) (λ place. Adds old new place call)
    → AllByRecursion IsSessionEntry old.history → AllByRecursion IsSessionEntry new.history
adds_session old new call None session same all = subst (λ (d : Document). AllByRecursion IsSessionEntry d.history) (sym same) all
adds_session old new call (Some place) session adds all =
    subst (AllByRecursion IsSessionEntry) (sym (grown old new place adds.entry adds.grows))
    (all-push IsSessionEntry old.history adds.entry all (record {
      first = omega (arith, session.first, adds.by);
      last = omega (arith, session.last, adds.by);
      open_entry = session.open_entry adds.entry adds.asked;
    }))

call_session : (old new : Document) (call : Event) (s : Said) → IsSessionCall call → IsStep old new call s
    → AllByRecursion IsSessionEntry old.history → AllByRecursion IsSessionEntry new.history
call_session old new call s session is all = adds_session old new call (place_made s) session (step_adds old new call s is) all

frame_open : (e : Entry) → IsFrameAct e.act → is_end e ≡ false
frame_open e is = by e.act is
  where
    by : (a : Act) → IsFrameAct a → is_end_act a ≡ false
    by (act.Frame f) is = refl
    by _ is = absurd is

line_session : (old new : Document) (number session : ℕ) (c : Command) (r : Reply) → 1 ≤ session → session ≤ last_session
    → IsPlayedAs old new (record { number = number; session = session; command = c }) r c
    → AllByRecursion IsSessionEntry old.history → AllByRecursion IsSessionEntry new.history
line_session old new number session (command.Edit e) r first last is all =
    call_session old new (Edits session number e) (Replied r) (record { first = first; last = last; open_entry = λ x asked. ap is_end asked }) is all
line_session old new number session command.Undo r first last is all =
    call_session old new (Undoes session number) (Replied r) (record { first = first; last = last; open_entry = λ x asked. ap is_end asked }) is all
line_session old new number session command.Layout r first last (inl is) all =
    call_session old new (Looks session) (Replied r) (record { first = first; last = last; open_entry = λ x asked. absurd asked }) is all
line_session old new number session command.Layout r first last (inr laid) all =
    call_session laid.between new (Publishes session number laid.front) (Replied r) (record { first = first; last = last; open_entry = λ x asked. frame_open x asked.2 }) laid.published
    (call_session old laid.between (Looks session) (Found laid.front) (record { first = first; last = last; open_entry = λ x asked. absurd asked }) laid.found all)
line_session old new number session (command.Where name) r first last is all =
    call_session old new (Asks session name) (Replied r) (record { first = first; last = last; open_entry = λ x asked. absurd asked }) is all

-- sessions alone made entries, and none is End
played_entries : (old new : Document) (ls : List Line) (rs : List Reply) → IsPlayed old new ls rs → AllByRecursion IsOfSession ls
    → AllByRecursion IsSessionEntry old.history → AllByRecursion IsSessionEntry new.history
played_entries old new [] [] is of all = subst (λ (d : Document). AllByRecursion IsSessionEntry d.history) (sym is) all
played_entries old new [] (r ∷ rs) is of all = absurd is
played_entries old new (l ∷ ls) [] is of all = absurd is
played_entries old new (l ∷ ls) (r ∷ rs) is of all =
    played_entries is.0 new ls rs is.2 of.1 (line_session old is.0 l.number l.session l.command r of.0.0 of.0.1 is.1 all)

-- ---- replies

-- no reply was given after the history as it stands
played_seen : (old new : Document) (ls : List Line) (rs : List Reply) → IsPlayed old new ls rs → AllByRecursion (λ (r : Reply). after_of r ≤ length new.history) rs
played_seen old new [] [] is = tt
played_seen old new [] (r ∷ rs) is = absurd is
played_seen old new (l ∷ ls) [] is = absurd is
played_seen old new (l ∷ ls) (r ∷ rs) is =
    let line = plays_line old is.0 l r is.1 in
    let grows = played_prefix is.0 new ls rs is.2 in
    (omega (arith, after_from r, line.from, line.longer, ap length grows.1, length-append is.0.history grows.0), played_seen is.0 new ls rs is.2)

played_budget : (old new : Document) (ls : List Line) (rs : List Reply) → IsPlayed old new ls rs → new.budget ≡ old.budget
played_budget old new [] [] is = ap (λ (d : Document). d.budget) is
played_budget old new [] (r ∷ rs) is = absurd is
played_budget old new (l ∷ ls) [] is = absurd is
played_budget old new (l ∷ ls) (r ∷ rs) is = played_budget is.0 new ls rs is.2 ∙ (plays_line old is.0 l r is.1).budget

-- what holds of all replies holds of those of a session
session_all : (P : Reply → Type 0) (session : ℕ) (ls : List Line) (rs : List Reply) → AllByRecursion P rs → AllByRecursion P (session_replies session ls rs)
session_all P session [] rs all = tt
session_all P session (l ∷ ls) [] all = tt
session_all P session (l ∷ ls) (r ∷ rs) all = by (l.session == session) (session_all P session ls rs all.1)
  where
    by : (b : Bool) → AllByRecursion P (session_replies session ls rs) → AllByRecursion P (cond b (r ∷ session_replies session ls rs) (session_replies session ls rs))
    by true rest = (all.0, rest)
    by false rest = rest

replies_of : (budget : ℕ) (d : Document) (lines : List Line) (rs : List Reply) → IsPlayed (opened budget) d lines rs → (session : ℕ) → HasReplies d lines session (session_replies session lines rs)
replies_of budget d lines rs is session = record {
  right = subst (λ (b : ℕ). AreRightReplies d.history b session 0 (session_lines session lines) (session_replies session lines rs)) (sym (played_budget (opened budget) d lines rs is))
      (played_right (opened budget) d lines rs session 0 is (omega arith));
  own = OwnEntriesAre-places d.history session (session_replies session lines rs) (played_own (opened budget) d lines rs session is);
  seen = session_all (λ (r : Reply). after_of r ≤ length d.history) session lines rs (played_seen (opened budget) d lines rs is);
}

-- ---- all lines

-- the document was opened with this budget, and all lines of a script were played on it
pub record IsPlayedWhole (budget : ℕ) (opening d : Document) (lines : List Line) (lists : List (List Reply)) : Type 0 where
  pub script : IsScript lines
  pub opening_is : opening ≡ opened budget
  pub alone : IsPlayedAlone opening d lines lists

from_opened : (budget : ℕ) (opening d : Document) (lines : List Line) (lists : List (List Reply)) → IsPlayedWhole budget opening d lines lists → IsPlayedAlone (opened budget) d lines lists
from_opened budget opening d lines lists p = subst (λ (start : Document). IsPlayedAlone start d lines lists) p.opening_is p.alone

pub has_played : (budget : ℕ) (opening d : Document) (lines : List Line) (lists : List (List Reply)) → IsPlayedWhole budget opening d lines lists → HasPlayed d lines lists
has_played budget opening d lines lists p =
    let alone = from_opened budget opening d lines lists p in
    record {
      entries = played_entries (opened budget) d lines alone.replies alone.played (of_sessions 2 lines p.script.are) tt;
      eight = alone.by_session.eight;
      each = ForSessions-then (λ session rs. rs ≡ session_replies session lines alone.replies) (HasReplies d lines) 1 lists
          (λ session rs le is. subst (HasReplies d lines session) (sym is) (replies_of budget d lines alone.replies alone.played session)) alone.by_session.each;
    }

pub played_budget_is : (budget : ℕ) (opening d : Document) (lines : List Line) (lists : List (List Reply)) → IsPlayedWhole budget opening d lines lists → d.budget ≡ budget
played_budget_is budget opening d lines lists p =
    let alone = from_opened budget opening d lines lists p in played_budget (opened budget) d lines alone.replies alone.played

pub in_file_order : (budget : ℕ) (opening d : Document) (lines : List Line) (lists : List (List Reply)) → IsPlayedWhole budget opening d lines lists → AreInFileOrder lines lists
in_file_order budget opening d lines lists p =
    let alone = from_opened budget opening d lines lists p in
    record {
      all = alone.replies;
      one_each = sym (played_length (opened budget) d lines alone.replies alone.played);
      by_session = alone.by_session;
      counted = played_counted (opened budget) d lines alone.replies alone.played;
      fresh = played_fresh (opened budget) d lines alone.replies alone.played;
    }
