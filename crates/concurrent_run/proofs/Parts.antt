-- What each pass comes to: of a session, of a worker.
use Rattle.std.proofs.Common.{◌≡◌, ℕ, ◌+◌, ◌<◌, List, [], ◌∷◌, ◌++◌, false, Option, Some, None, length, refl, sym, ap, ◌∙◌, subst, arith, slice_get}
use Rattle.std.specs.Prelude.{MatchOption, ⊤}
use Rattle.std.specs.List.{AllByRecursion}
use Rattle.std.proofs.lemmas.List.{length-map}
use Rattle.std.proofs.lemmas.Option.{slice_get_within}
use mathlib.Core.List.{IsPrefix}
use Rattle.script_text.specs.declared.scripts.Command.{Command}
use Rattle.script_text.specs.declared.scripts.Command.TheVariants as command
use Rattle.script_text.specs.declared.scripts.Line.{Line}
use Rattle.turn_table.specs.Counting.{occurrences}
use Rattle.turn_table.specs.States.{Opened}
use Rattle.doc_book.specs.declared.desks.Terms.{Terms}
use Rattle.doc_book.specs.declared.entries.Entry.{Entry}
use Rattle.doc_book.specs.declared.entries.Act.{Act}
use Rattle.doc_book.specs.declared.entries.Act.TheVariants as act
use Rattle.doc_book.specs.declared.replies.Reply.{Reply}
use Rattle.doc_book.specs.declared.replies.Reply.TheVariants as reply
use Rattle.doc_book.specs.declared.told.Told.{Told}
use Rattle.doc_book.specs.Desks.{Standing}
use Rattle.doc_book.specs.History.{end_place, is_end, is_end_act}
use Rattle.doc_book.specs.Listing.{session_lines}
use Rattle.doc_book.specs.Replies.{IsLook, Spent, IsEntryAt, IsFrameAct, IsAccepted, AreRightReplies, made_places, own_places, OwnEntriesAre, own_entries}
use Rattle.doc_book.proofs.Later.{slice_get-append, front-same, AreRightReplies-append, OwnEntriesAre-places, own_entries-places}
use Rattle.session_run.specs.AtDesk.{IsPlayedAt}
use Rattle.layout_worker.specs.declared.tallies.Tally.{Tally}
use Rattle.layout_worker.specs.declared.tallies.Last.{Last}
use Rattle.layout_worker.specs.declared.tallies.Last.TheVariants as last
use Rattle.layout_worker.specs.Working.{IsWorkFrame, IsLast}
use Rattle.shared_book.specs.Held.{Held}
use Rattle.shared_book.specs.Calling.{called_at}
use Rattle.concurrent_run.specs.declared.elements.Session.{Session}
use Rattle.concurrent_run.specs.declared.elements.Worker.{Worker}
use Rattle.concurrent_run.specs.Elements.{IsNewPass, IsSamePass, IsPlayedSession, IsWorkedOut}
use Rattle.concurrent_run.proofs.Counts.{OwnsAll}
use Rattle.concurrent_run.proofs.Owners.{own_rises}
use Rattle.concurrent_run.proofs.Rising.{Rises, rises_from, rises_same, length_same}

-- an entry by this caller stands at the place, and isn't End
pub record IsMade (h : List Entry) (who k : ℕ) : Type 0 where
  pub entry : Entry
  pub stands : slice_get h k ≡ Some entry
  pub by_who : entry.who ≡ who
  pub open_entry : is_end entry ≡ false

frame_open : (a : Act) → IsFrameAct a → is_end_act a ≡ false
frame_open (act.Frame f) is = refl
frame_open (act.Edit e) is = absurd is
frame_open act.Undo is = absurd is
frame_open act.End is = absurd is

made_frame : (h : List Entry) (who line place : ℕ) → IsEntryAt h place who line IsFrameAct → IsMade h who place
made_frame h who line place at = record { entry = at.0; stands = at.1; by_who = at.2; open_entry = frame_open at.0.act at.4 }

made_accepted : (h : List Entry) (who line place : ℕ) (c : Command) → IsAccepted h who line place c → IsMade h who place
made_accepted h who line place (command.Edit e) is = record { entry = is.0.0; stands = is.0.1; by_who = is.0.2; open_entry = ap is_end_act is.0.4 }
made_accepted h who line place command.Undo is = record { entry = is.0.0; stands = is.0.1; by_who = is.0.2; open_entry = ap is_end_act is.0.4 }
made_accepted h who line place command.Layout is = absurd is
made_accepted h who line place (command.Where name) is = absurd is

-- the places that right replies name hold entries by the session, none of them End
pub made_all : (h : List Entry) (budget who seen : ℕ) (lines : List Line) (rs : List Reply) → AreRightReplies h budget who seen lines rs → AllByRecursion (IsMade h who) (made_places rs)
made_all h budget who seen [] [] are = tt
made_all h budget who seen [] (r ∷ rs) are = absurd are
made_all h budget who seen (l ∷ ls) [] are = tt
made_all h budget who seen (l ∷ ls) (reply.Accepted place ∷ rs) are = (made_accepted h who l.number place l.command are.0, made_all h budget who (place + 1) ls rs are.2)
made_all h budget who seen (l ∷ ls) (reply.Published place ∷ rs) are = (made_frame h who l.number place are.0.1, made_all h budget who (place + 1) ls rs are.2)
made_all h budget who seen (l ∷ ls) (reply.Refused r ∷ rs) are = made_all h budget who r.front ls rs are.2
made_all h budget who seen (l ∷ ls) (reply.Idle front ∷ rs) are = made_all h budget who front ls rs are.2
made_all h budget who seen (l ∷ ls) (reply.Spent front ∷ rs) are = made_all h budget who front ls rs are.2
made_all h budget who seen (l ∷ ls) (reply.Stale front ∷ rs) are = made_all h budget who front ls rs are.2
made_all h budget who seen (l ∷ ls) (reply.Answer a ∷ rs) are = made_all h budget who a.front ls rs are.2

-- and they rise
pub made_rises : (h : List Entry) (budget who seen : ℕ) (lines : List Line) (rs : List Reply) → AreRightReplies h budget who seen lines rs → Rises seen (made_places rs)
made_rises h budget who seen [] [] are = tt
made_rises h budget who seen [] (r ∷ rs) are = absurd are
made_rises h budget who seen (l ∷ ls) [] are = tt
made_rises h budget who seen (l ∷ ls) (reply.Accepted place ∷ rs) are = (are.1, made_rises h budget who (place + 1) ls rs are.2)
made_rises h budget who seen (l ∷ ls) (reply.Published place ∷ rs) are = (are.1, made_rises h budget who (place + 1) ls rs are.2)
made_rises h budget who seen (l ∷ ls) (reply.Refused r ∷ rs) are = rises_from r.front seen (made_places rs) are.1 (made_rises h budget who r.front ls rs are.2)
made_rises h budget who seen (l ∷ ls) (reply.Idle front ∷ rs) are = rises_from front seen (made_places rs) are.1 (made_rises h budget who front ls rs are.2)
made_rises h budget who seen (l ∷ ls) (reply.Spent front ∷ rs) are = rises_from front seen (made_places rs) are.1 (made_rises h budget who front ls rs are.2)
made_rises h budget who seen (l ∷ ls) (reply.Stale front ∷ rs) are = rises_from front seen (made_places rs) are.1 (made_rises h budget who front ls rs are.2)
made_rises h budget who seen (l ∷ ls) (reply.Answer a ∷ rs) are = rises_from a.front seen (made_places rs) are.1 (made_rises h budget who a.front ls rs are.2)

-- ---- a session

-- the pass of a session that was played, with its replies
pub record IsSessionPass (book : Opened Entry Terms) (lines : List Line) (p : Held) (rs : List Reply) : Type 0 where
  pub own : p.own ≡ made_places rs
  pub right : AreRightReplies p.seen book.terms.frames p.who 0 (session_lines p.who lines) rs

session_pass_of : (book : Opened Entry Terms) (lines : List Line) (old new : Held) (rs : List Reply) (told told' : Told) (loan : ℕ) → IsNewPass book old → IsSamePass book old new
    → IsPlayedAt (called_at book old told loan) (called_at book new told' loan) (session_lines old.who lines) rs → IsSessionPass book lines new rs
session_pass_of book lines old new rs told told' loan fresh same p = record {
  own = p.own ∙ ap (λ (z : List ℕ). z ++ made_places rs) fresh.2;
  right = subst (λ (z : List Entry). AreRightReplies new.seen book.terms.frames new.who (length z) (session_lines new.who lines) rs) fresh.1
      (subst (λ (w : ℕ). AreRightReplies new.seen book.terms.frames new.who (length old.seen) (session_lines w lines) rs) (sym same.who) p.right);
}

pub session_done : (book : Opened Entry Terms) (lines : List Line) (old new : Session) (rs : List Reply) → IsNewPass book old.pass → IsPlayedSession book lines old new → new.replies ≡ Some rs → IsSessionPass book lines new.pass rs
session_done book lines old new rs fresh played is =
    let q = subst (λ (r : Option (List Reply)). MatchOption r ⊤ (λ rs. (told : Told) × (told' : Told) × (loan : ℕ) × IsPlayedAt (called_at book old.pass told loan) (called_at book new.pass told' loan) (session_lines old.pass.who lines) rs)) is played.played in
    session_pass_of book lines old.pass new.pass rs q.0 q.1 q.2 fresh played.same q.3

-- the same in the closed history
pub record IsSessionIn (h : List Entry) (budget : ℕ) (lines : List Line) (p : Held) (rs : List Reply) : Type 0 where
  pub own : p.own ≡ made_places rs
  pub right : AreRightReplies h budget p.who 0 (session_lines p.who lines) rs

pub session_in : (book : Opened Entry Terms) (h : List Entry) (lines : List Line) (p : Held) (rs : List Reply) → IsSessionPass book lines p rs → IsPrefix p.seen h → IsSessionIn h book.terms.frames lines p rs
session_in book h lines p rs is begins = record {
  own = is.own;
  right = subst (λ (z : List Entry). AreRightReplies z book.terms.frames p.who 0 (session_lines p.who lines) rs) begins.1 (AreRightReplies-append p.seen begins.0 book.terms.frames p.who 0 (session_lines p.who lines) rs is.right);
}

pub session_made : (h : List Entry) (budget : ℕ) (lines : List Line) (p : Held) (rs : List Reply) → IsSessionIn h budget lines p rs → AllByRecursion (IsMade h p.who) p.own
session_made h budget lines p rs is = subst (AllByRecursion (IsMade h p.who)) (sym is.own) (made_all h budget p.who 0 (session_lines p.who lines) rs is.right)

pub session_own : (h : List Entry) (budget : ℕ) (lines : List Line) (p : Held) (rs : List Reply) → IsSessionIn h budget lines p rs → OwnsAll h p → OwnEntriesAre h p.who rs
session_own h budget lines p rs is owns =
    OwnEntriesAre-places h p.who rs
    (rises_same 0 (own_places h p.who) (made_places rs) (own_rises 0 h p.who) (made_rises h budget p.who 0 (session_lines p.who lines) rs is.right)
    (λ k. sym (owns k) ∙ ap (occurrences k) is.own))

-- ---- a worker

-- why a worker ended, by what it had seen
abbrev pub IsLastIn : List Entry → ℕ → Last → Type 0
IsLastIn seen budget last.Ending = ⊤
IsLastIn seen budget last.Spent = IsLook seen budget Spent
IsLastIn seen budget last.Memory = ⊤

-- the pass of a worker, with its tally
pub record IsWorkerPass (budget : ℕ) (p : Held) (t : Tally) : Type 0 where
  pub count : length p.own ≡ t.published
  pub frames : AllByRecursion (IsWorkFrame p.seen p.who) p.own
  pub last : IsLastIn p.seen budget t.last

last_in : (s : Standing) (l : Last) → IsLast s l → IsLastIn s.seen s.budget l
last_in s last.Ending is = tt
last_in s last.Spent is = is.0
last_in s last.Memory is = tt

pub worker_done : (book : Opened Entry Terms) (old new : Worker) → IsNewPass book old.pass → IsWorkedOut book old new → IsWorkerPass book.terms.frames new.pass new.tally
worker_done book old new fresh done =
    let q = done.worked in
    let mine : List ℕ = q.3 in
    let own : new.pass.own ≡ mine = q.4.own ∙ ap (λ (z : List ℕ). z ++ mine) fresh.2 in record {
      count = ap length own ∙ q.5;
      frames = subst (AllByRecursion (IsWorkFrame new.pass.seen new.pass.who)) (sym own) q.4.frames;
      last = last_in (called_at book new.pass q.1 q.2) new.tally.last q.6;
    }

frame_later : (h more : List Entry) (who place : ℕ) → IsWorkFrame h who place → IsWorkFrame (h ++ more) who place
frame_later h more who place f =
    let within : place < length h = slice_get_within h place f.0.0 f.0.1 in
    ((f.0.0, slice_get-append h more place f.0.0 f.0.1, f.0.2, f.0.3, f.0.4), subst (λ (z : List Entry). end_place z ≡ None) (front-same h more place (omega (arith, within))) f.1)

pub frames_later : (h more : List Entry) (who : ℕ) (ps : List ℕ) → AllByRecursion (IsWorkFrame h who) ps → AllByRecursion (IsWorkFrame (h ++ more) who) ps
frames_later h more who [] all = tt
frames_later h more who (p ∷ ps) all = (frame_later h more who p all.0, frames_later h more who ps all.1)

pub worker_frames : (h : List Entry) (budget : ℕ) (p : Held) (t : Tally) → IsWorkerPass budget p t → IsPrefix p.seen h → AllByRecursion (IsWorkFrame h p.who) p.own
worker_frames h budget p t is begins = subst (λ (z : List Entry). AllByRecursion (IsWorkFrame z p.who) p.own) begins.1 (frames_later p.seen begins.0 p.who p.own is.frames)

pub made_work : (h : List Entry) (who k : ℕ) → IsWorkFrame h who k → IsMade h who k
made_work h who k f = made_frame h who 0 k f.0

-- as many entries as own places
pub worker_count : (h : List Entry) (budget : ℕ) (p : Held) (t : Tally) → IsWorkerPass budget p t → OwnsAll h p → t.published ≡ length (own_entries h p.who)
worker_count h budget p t is owns =
    let same = length_same p.own (own_places h p.who) owns in
    let listed = ap length (own_entries-places h p.who) in
    let entries = length-map (own_entries h p.who) Some in
    let places = length-map (own_places h p.who) (slice_get h) in
    let count = is.count in
    omega (arith, same, listed, entries, places, count)
