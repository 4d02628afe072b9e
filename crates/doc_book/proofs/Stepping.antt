-- One call: what it adds to the history, and why its reply is right.
use Rattle.std.proofs.Common.{◌≡◌, ℕ, ◌<◌, ◌≤◌, List, [], ◌∷◌, ◌++◌, Option, Some, None, length, take, refl, ap, sym, subst, arith, slice_get}
use Rattle.std.specs.Prelude.{IsSome, MatchOption}
use Rattle.std.proofs.lemmas.Bool.{false≢true}
use Rattle.std.proofs.lemmas.List.{take_at, take_all}
use Rattle.scene_model.specs.Names.{NameOf}
use Rattle.edit_rules.specs.declared.edits.Edit.{Edit}
use Rattle.frame_store.specs.declared.frames.Frame.{Frame}
use Rattle.doc_book.specs.declared.entries.Entry.{Entry}
use Rattle.doc_book.specs.declared.entries.Act.TheVariants as act
use Rattle.doc_book.specs.declared.replies.Reply.TheVariants as reply
use Rattle.doc_book.specs.Document.{Document}
use Rattle.doc_book.specs.Events.{Event, Edits, Undoes, Asks, Looks, Publishes, Ends, Finishes, Said, Replied, Found, Settled, Full, Memory, caller_of, place_made}
use Rattle.doc_book.specs.Growing.{Grows, entry_of}
use Rattle.doc_book.specs.History.{scene_at, places_at, end_place, frame_count, after_end}
use Rattle.doc_book.specs.Law.{IsEntryOf, IsRightSaid}
use Rattle.doc_book.specs.Legal.{MayFollow, HasRoom, most_finishing}
use Rattle.doc_book.specs.Replies.{IsLook, Job, Idle, Spent, Ending}
use Rattle.doc_book.specs.Spots.{IsSpot, ask_refusal}
use Rattle.doc_book.specs.Steps.{Stays, GrowsByFrame, IsEditStep, IsUndoStep, IsAskStep, IsLookStep, IsPublishStep, IsEndStep, IsFinishStep, IsStep}
use Rattle.doc_book.specs.Verdicts.{IsVerdict, undo_verdict}
use Rattle.doc_book.proofs.Later.{slice_get-at}

-- ---- what a call adds

-- one entry more at this place, the one that the call makes, which may follow
pub record Adds (old new : Document) (place : ℕ) (call : Event) : Type 0 where
  pub entry : Entry
  pub grows : Grows old new place entry
  pub asked : IsEntryOf call entry
  pub by : entry.who ≡ caller_of call
  pub legal : MayFollow old.history old.budget entry

-- a call adds its entry where its answer names the place of one, and else nothing
abbrev pub AddsWhatItSays : Document → Document → Event → Said → Type 0
AddsWhatItSays old new call s = MatchOption (place_made s) (new ≡ old) (λ place. Adds old new place call)

edit_adds : (old new : Document) (who line : ℕ) (e : Edit) (s : Said) → IsEditStep old new who line e s → AddsWhatItSays old new (Edits who line e) s
edit_adds old new who line e (Replied (reply.Accepted place)) is = record { entry = entry_of who line (act.Edit e); grows = is.1; asked = refl; by = refl; legal = is.0 }
edit_adds old new who line e (Replied (reply.Refused r)) is = is.1.same
edit_adds old new who line e Memory is = is.2
edit_adds old new who line e _ is = absurd is

undo_adds : (old new : Document) (who line : ℕ) (s : Said) → IsUndoStep old new who line s → AddsWhatItSays old new (Undoes who line) s
undo_adds old new who line (Replied (reply.Accepted place)) is = record { entry = entry_of who line act.Undo; grows = is.1; asked = refl; by = refl; legal = is.0 }
undo_adds old new who line (Replied (reply.Refused r)) is = is.1.same
undo_adds old new who line Memory is = is.1
undo_adds old new who line _ is = absurd is

ask_adds : (old new : Document) (who : ℕ) (name : NameOf) (s : Said) → IsAskStep old new name s → AddsWhatItSays old new (Asks who name) s
ask_adds old new who name (Replied (reply.Answer a)) is = is.1.same
ask_adds old new who name (Replied (reply.Refused r)) is = is.1.same
ask_adds old new who name _ is = absurd is

look_adds : (old new : Document) (who : ℕ) (s : Said) → IsLookStep old new s → AddsWhatItSays old new (Looks who) s
look_adds old new who (Replied (reply.Refused r)) is = is.1.same
look_adds old new who (Replied (reply.Spent front)) is = is.1.same
look_adds old new who (Replied (reply.Idle front)) is = is.1.same
look_adds old new who (Found front) is = is.1.same
look_adds old new who Memory is = is.1
look_adds old new who _ is = absurd is

frame_adds : (old new : Document) (place : ℕ) (call : Event) (line : ℕ)
    → ((frame : Frame) → IsEntryOf call (entry_of (caller_of call) line (act.Frame frame)))
    → HasRoom old.history old.budget → GrowsByFrame old new place (caller_of call) line → Adds old new place call
frame_adds old new place call line asked room g = record {
  entry = entry_of (caller_of call) line (act.Frame g.frame);
  grows = g.grows;
  asked = asked g.frame;
  by = refl;
  legal = (room, g.legal);
}

-- where a look finds a frame to make, there is room for it
pub HasRoom-job : (h : List Entry) (budget : ℕ) → IsLook h budget Job → HasRoom h budget
HasRoom-job h budget is = subst (λ o. MatchOption o (frame_count h < budget) (λ _. length (after_end h) < most_finishing)) (sym is.0) is.1

-- so there is after End, where fewer than 64 frames stand there
pub HasRoom-ended : (h : List Entry) (budget : ℕ) → IsSome (end_place h) → length (after_end h) < most_finishing → HasRoom h budget
HasRoom-ended h budget ended room = by (end_place h) ended
  where
    by : (o : Option ℕ) → IsSome o → MatchOption o (frame_count h < budget) (λ _. length (after_end h) < most_finishing)
    by None is = absurd (false≢true is)
    by (Some place) is = room

publish_adds : (old new : Document) (who line front : ℕ) (s : Said) → IsPublishStep old new who line front s → AddsWhatItSays old new (Publishes who line front) s
publish_adds old new who line front (Replied (reply.Stale now)) is = is.2.same
publish_adds old new who line front (Replied (reply.Published place)) is = frame_adds old new place (Publishes who line front) line (λ frame. (refl, refl, tt)) (HasRoom-job old.history old.budget is.1) is.2
publish_adds old new who line front Memory is = is.2
publish_adds old new who line front _ is = absurd is

end_adds : (old new : Document) (s : Said) → IsEndStep old new s → AddsWhatItSays old new Ends s
end_adds old new (Replied (reply.Accepted place)) is = record { entry = entry_of 0 0 act.End; grows = is.1; asked = refl; by = refl; legal = (refl, refl, is.0) }
end_adds old new (Replied (reply.Refused r)) is = is.1.same
end_adds old new Memory is = is.1
end_adds old new _ is = absurd is

finish_adds : (old new : Document) (s : Said) → IsFinishStep old new s → AddsWhatItSays old new Finishes s
finish_adds old new (Settled place) is = is.3
finish_adds old new (Full place) is = is.4
finish_adds old new (Replied (reply.Published place)) is =
    frame_adds old new place Finishes 0 (λ frame. (refl, refl, tt)) (HasRoom-ended old.history old.budget is.0.ended is.0.room) is.1
finish_adds old new Memory is = is.1
finish_adds old new _ is = absurd is

-- each call adds an entry that may follow, by its caller, where its answer names the place of one, and else nothing
pub step_adds : (old new : Document) (e : Event) (s : Said) → IsStep old new e s → AddsWhatItSays old new e s
step_adds old new (Edits who line edit) s is = edit_adds old new who line edit s is
step_adds old new (Undoes who line) s is = undo_adds old new who line s is
step_adds old new (Asks who name) s is = ask_adds old new who name s is
step_adds old new (Looks who) s is = look_adds old new who s is
step_adds old new (Publishes who line front) s is = publish_adds old new who line front s is
step_adds old new Ends s is = end_adds old new s is
step_adds old new Finishes s is = finish_adds old new s is

-- ---- why the reply is right

-- the history of a document with one entry more
pub grown : (old new : Document) (place : ℕ) (entry : Entry) → Grows old new place entry → new.history ≡ old.history ++ entry ∷ []
grown old new place entry g = ap (λ (d : Document). d.history) g.entered

-- the new entry stands at its place
pub entered_at : (old new : Document) (place : ℕ) (entry : Entry) → Grows old new place entry → slice_get new.history place ≡ Some entry
entered_at old new place entry g =
    subst (λ (h : List Entry). slice_get h place ≡ Some entry) (sym (grown old new place entry g)) (slice_get-at old.history entry [] place g.place_is)

-- the entries before it are those that stood before
pub before_entered : (old new : Document) (place : ℕ) (entry : Entry) → Grows old new place entry → old.history ≡ take place new.history
before_entered old new place entry g =
    subst (λ (h : List Entry). old.history ≡ take place h) (sym (grown old new place entry g)) (sym (take_at old.history (entry ∷ []) place (sym g.place_is)))

-- at the front of an answer that changes nothing stand the entries that stood before
pub stays_whole : (old new : Document) (front : ℕ) → Stays old new front → old.history ≡ take front new.history
stays_whole old new front s =
    subst (λ (d : Document). old.history ≡ take front d.history) (sym s.same) (sym (take_all front old.history (omega (arith, s.front_is))))

pub stays_within : (old new : Document) (front : ℕ) → Stays old new front → front ≤ length new.history
stays_within old new front s = subst (λ (d : Document). front ≤ length d.history) (sym s.same) (omega (arith, s.front_is))

pub edit_right : (old new : Document) (who line : ℕ) (e : Edit) (s : Said) → IsEditStep old new who line e s → IsRightSaid new.history old.budget (Edits who line e) s
edit_right old new who line e (Replied (reply.Accepted place)) is =
    let entry = entry_of who line (act.Edit e) in
    ((entry, entered_at old new place entry is.1, refl, refl, refl), subst (λ (h : List Entry). IsVerdict h e None) (before_entered old new place entry is.1) is.0)
edit_right old new who line e (Replied (reply.Refused r)) is =
    (stays_within old new r.front is.1, subst (λ (h : List Entry). IsVerdict h e (Some r.refusal)) (stays_whole old new r.front is.1) is.0)
edit_right old new who line e Memory is = tt
edit_right old new who line e _ is = absurd is

pub undo_right : (old new : Document) (who line : ℕ) (s : Said) → IsUndoStep old new who line s → IsRightSaid new.history old.budget (Undoes who line) s
undo_right old new who line (Replied (reply.Accepted place)) is =
    let entry = entry_of who line act.Undo in
    ((entry, entered_at old new place entry is.1, refl, refl, refl), subst (λ (h : List Entry). undo_verdict h ≡ None) (before_entered old new place entry is.1) is.0)
undo_right old new who line (Replied (reply.Refused r)) is =
    (stays_within old new r.front is.1, subst (λ (h : List Entry). undo_verdict h ≡ Some r.refusal) (stays_whole old new r.front is.1) is.0)
undo_right old new who line Memory is = tt
undo_right old new who line _ is = absurd is

pub ask_right : (old new : Document) (who : ℕ) (name : NameOf) (s : Said) → IsAskStep old new name s → IsRightSaid new.history old.budget (Asks who name) s
ask_right old new who name (Replied (reply.Answer a)) is =
    (stays_within old new a.front is.1, subst (λ (h : List Entry). IsSpot (scene_at h) (places_at h) name a.spot) (stays_whole old new a.front is.1) is.0)
ask_right old new who name (Replied (reply.Refused r)) is =
    (stays_within old new r.front is.1, subst (λ (h : List Entry). ask_refusal (scene_at h) name ≡ Some r.refusal) (stays_whole old new r.front is.1) is.0)
ask_right old new who name _ is = absurd is

pub look_right : (old new : Document) (who : ℕ) (s : Said) → IsLookStep old new s → IsRightSaid new.history old.budget (Looks who) s
look_right old new who (Replied (reply.Refused r)) is = (
  stays_within old new r.front is.1,
  (is.0.0, is.0.1, subst (λ (h : List Entry). IsLook h old.budget (Ending is.0.0)) (stays_whole old new r.front is.1) is.0.2),
)
look_right old new who (Replied (reply.Spent front)) is =
    (stays_within old new front is.1, tt, subst (λ (h : List Entry). IsLook h old.budget Spent) (stays_whole old new front is.1) is.0)
look_right old new who (Replied (reply.Idle front)) is =
    (stays_within old new front is.1, tt, subst (λ (h : List Entry). IsLook h old.budget Idle) (stays_whole old new front is.1) is.0)
look_right old new who (Found front) is = tt
look_right old new who Memory is = tt
look_right old new who _ is = absurd is

pub publish_right : (old new : Document) (who line front : ℕ) (s : Said) → IsPublishStep old new who line front s → IsRightSaid new.history old.budget (Publishes who line front) s
publish_right old new who line front (Replied (reply.Stale now)) is = (
  stays_within old new now is.2,
  tt,
  (
    front,
    omega (arith, is.0, is.2.front_is),
    omega arith,
    subst (λ (d : Document). IsLook (take front d.history) old.budget Job) (sym is.2.same) is.1,
  ),
)
publish_right old new who line front (Replied (reply.Published place)) is =
    let entry = entry_of who line (act.Frame is.2.frame) in (tt, (entry, entered_at old new place entry is.2.grows, refl, refl, tt))
publish_right old new who line front Memory is = tt
publish_right old new who line front _ is = absurd is

run_right : (h : List Entry) (budget : ℕ) (s : Said) → IsRightSaid h budget Ends s
run_right h budget (Replied r) = tt
run_right h budget _ = tt

finish_right : (h : List Entry) (budget : ℕ) (s : Said) → IsRightSaid h budget Finishes s
finish_right h budget (Replied r) = tt
finish_right h budget _ = tt

-- the reply to a call that is read as a line is right at the history behind it
pub step_right : (old new : Document) (e : Event) (s : Said) → IsStep old new e s → IsRightSaid new.history old.budget e s
step_right old new (Edits who line edit) s is = edit_right old new who line edit s is
step_right old new (Undoes who line) s is = undo_right old new who line s is
step_right old new (Asks who name) s is = ask_right old new who name s is
step_right old new (Looks who) s is = look_right old new who s is
step_right old new (Publishes who line front) s is = publish_right old new who line front s is
step_right old new Ends s is = run_right new.history old.budget s
step_right old new Finishes s is = finish_right new.history old.budget s
