-- The document as a machine: what each call does, and runs of calls. Each is a relation by cases on the answer.
use Rattle.std.specs.Prelude.{◌≡◌, ℕ, ◌+◌, ◌<◌, ◌≤◌, List, [], ◌∷◌, length, take, Some, None, IsSome}
use Rattle.scene_model.specs.Names.{NameOf}
use Rattle.edit_rules.specs.declared.edits.Edit.{Edit}
use Rattle.edit_rules.specs.declared.refusals.Refusal.TheVariants as refusal
use Rattle.edit_rules.specs.Refusals.{refusal_of}
use Rattle.frame_store.specs.declared.frames.Frame.{Frame}
use Rattle.doc_book.specs.declared.entries.Act.TheVariants as act
use Rattle.doc_book.specs.declared.replies.Reply.TheVariants as reply
use Rattle.doc_book.specs.Document.{Document}
use Rattle.doc_book.specs.Events.{Event, Edits, Undoes, Asks, Looks, Publishes, Ends, Finishes, Said, Replied, Found, Settled, Full, Memory}
use Rattle.doc_book.specs.Frames.{IsFrameOf}
use Rattle.doc_book.specs.Growing.{Grows, entry_of}
use Rattle.doc_book.specs.History.{scene_at, places_at, end_place, after_end, IsSettled}
use Rattle.doc_book.specs.Legal.{most_finishing}
use Rattle.doc_book.specs.Replies.{IsLook, Ending, Spent, Idle, Job}
use Rattle.doc_book.specs.Spots.{IsSpot, ask_refusal}
use Rattle.doc_book.specs.Verdicts.{IsVerdict, closed_refusal, undo_verdict}

-- the call is answered at the present front, and the document stays
pub record Stays (old new : Document) (front : ℕ) : Type 0 where
  pub front_is : front ≡ length old.history
  pub same : new ≡ old

-- the document has one entry more, a frame of its scene and places, by this caller with this line
pub record GrowsByFrame (old new : Document) (place who line : ℕ) : Type 0 where
  pub frame : Frame
  pub legal : IsFrameOf (scene_at old.history) (places_at old.history) frame
  pub grows : Grows old new place (entry_of who line (act.Frame frame))

-- an edit is entered where the verdict accepts it, and else refused with the verdict; where nothing but what needs
-- memory may still refuse it, want of memory may be answered
abbrev pub IsEditStep : Document → Document → ℕ → ℕ → Edit → Said → Type 0
IsEditStep old new who line e (Replied (reply.Accepted place)) = IsVerdict old.history e None × Grows old new place (entry_of who line (act.Edit e))
IsEditStep old new who line e (Replied (reply.Refused r)) = IsVerdict old.history e (Some r.refusal) × Stays old new r.front
IsEditStep old new who line e Memory = (closed_refusal old.history ≡ None) × (refusal_of (scene_at old.history) e ≡ None) × (new ≡ old)
IsEditStep old new who line e _ = ⊥

-- an undo is entered where the verdict accepts it, and else refused with the verdict
abbrev pub IsUndoStep : Document → Document → ℕ → ℕ → Said → Type 0
IsUndoStep old new who line (Replied (reply.Accepted place)) = (undo_verdict old.history ≡ None) × Grows old new place (entry_of who line act.Undo)
IsUndoStep old new who line (Replied (reply.Refused r)) = (undo_verdict old.history ≡ Some r.refusal) × Stays old new r.front
IsUndoStep old new who line Memory = (undo_verdict old.history ≡ None) × (new ≡ old)
IsUndoStep old new who line _ = ⊥

-- a question is answered with the present spot of its item, or refused by the scene; it takes no memory
abbrev pub IsAskStep : Document → Document → NameOf → Said → Type 0
IsAskStep old new name (Replied (reply.Answer a)) = IsSpot (scene_at old.history) (places_at old.history) name a.spot × Stays old new a.front
IsAskStep old new name (Replied (reply.Refused r)) = (ask_refusal (scene_at old.history) name ≡ Some r.refusal) × Stays old new r.front
IsAskStep old new name _ = ⊥

-- a look answers what it finds, and changes nothing
abbrev pub IsLookStep : Document → Document → Said → Type 0
IsLookStep old new (Replied (reply.Refused r)) =
    ((place : ℕ) × (r.refusal ≡ refusal.Ended place) × IsLook old.history old.budget (Ending place)) × Stays old new r.front
IsLookStep old new (Replied (reply.Spent front)) = IsLook old.history old.budget Spent × Stays old new front
IsLookStep old new (Replied (reply.Idle front)) = IsLook old.history old.budget Idle × Stays old new front
IsLookStep old new (Found front) = IsLook old.history old.budget Job × Stays old new front
IsLookStep old new Memory = IsLook old.history old.budget Job × (new ≡ old)
IsLookStep old new _ = ⊥

-- a frame is published, which was made at a front where a look found one to make: it is entered where that is the
-- present front, and stale where it lies behind
abbrev pub IsPublishStep : Document → Document → ℕ → ℕ → ℕ → Said → Type 0
IsPublishStep old new who line front (Replied (reply.Stale now)) =
    (front < length old.history) × IsLook (take front old.history) old.budget Job × Stays old new now
IsPublishStep old new who line front (Replied (reply.Published place)) =
    (front ≡ length old.history) × IsLook old.history old.budget Job × GrowsByFrame old new place who line
IsPublishStep old new who line front Memory = (front ≡ length old.history) × IsLook old.history old.budget Job × (new ≡ old)
IsPublishStep old new who line front _ = ⊥

-- End is entered where it doesn't stand, by caller 0 with line 0
abbrev pub IsEndStep : Document → Document → Said → Type 0
IsEndStep old new (Replied (reply.Accepted place)) = (end_place old.history ≡ None) × Grows old new place (entry_of 0 0 act.End)
IsEndStep old new (Replied (reply.Refused r)) =
    ((place : ℕ) × (r.refusal ≡ refusal.Ended place) × (end_place old.history ≡ Some place)) × Stays old new r.front
IsEndStep old new Memory = (end_place old.history ≡ None) × (new ≡ old)
IsEndStep old new _ = ⊥

-- after End another frame may be made: the last one didn't settle the places, and fewer than 64 stand there
pub record MayFinish (old : Document) : Type 0 where
  pub ended : IsSome (end_place old.history)
  pub moved : IsSettled old.history → ⊥
  pub room : length (after_end old.history) < most_finishing

-- after End: settled where the last entry is a frame that changed no place, else full where 64 frames stand after
-- End, else one frame more by caller 0 with line 0
abbrev pub IsFinishStep : Document → Document → Said → Type 0
IsFinishStep old new (Settled place) =
    IsSome (end_place old.history) × IsSettled old.history × (place + 1 ≡ length old.history) × (new ≡ old)
IsFinishStep old new (Full place) =
    IsSome (end_place old.history) × (IsSettled old.history → ⊥) × (most_finishing ≤ length (after_end old.history))
    × (place + 1 ≡ length old.history) × (new ≡ old)
IsFinishStep old new (Replied (reply.Published place)) = MayFinish old × GrowsByFrame old new place 0 0
IsFinishStep old new Memory = MayFinish old × (new ≡ old)
IsFinishStep old new _ = ⊥

-- a call takes the document from old to new, and is answered so
abbrev pub IsStep : Document → Document → Event → Said → Type 0
IsStep old new (Edits who line edit) said = IsEditStep old new who line edit said
IsStep old new (Undoes who line) said = IsUndoStep old new who line said
IsStep old new (Asks who name) said = IsAskStep old new name said
IsStep old new (Looks who) said = IsLookStep old new said
IsStep old new (Publishes who line front) said = IsPublishStep old new who line front said
IsStep old new Ends said = IsEndStep old new said
IsStep old new Finishes said = IsFinishStep old new said

-- calls one after another take the document from old to new, and are answered so
abbrev pub IsRun : Document → Document → List Event → List Said → Type 0
IsRun old new [] [] = new ≡ old
IsRun old new (e ∷ es) (s ∷ ss) = (next : Document) × IsStep old next e s × IsRun next new es ss
IsRun old new [] (s ∷ ss) = ⊥
IsRun old new (e ∷ es) [] = ⊥
