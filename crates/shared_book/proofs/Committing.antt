-- A frame that was made outside the lock is legal where it was committed.
use Rattle.std.proofs.Common.{◌≡◌, ℕ, List, [], ◌∷◌, ◌++◌, take, ap, sym, ◌∙◌, subst, arith, Option, Some, None, slice_get}
use Rattle.std.proofs.lemmas.List.{take_all, take-append-le}
use Rattle.frame_store.specs.declared.frames.Frame.{Frame}
use Rattle.doc_book.specs.declared.entries.Act.{Act}
use Rattle.doc_book.specs.declared.entries.Act.TheVariants as act
use Rattle.doc_book.specs.declared.entries.Entry.{Entry}
use Rattle.doc_book.specs.declared.publishing.Publish.{Publish}
use Rattle.doc_book.specs.declared.publishing.Publish.TheVariants as publish
use Rattle.doc_book.specs.Calls.{IsPublished}
use Rattle.doc_book.specs.Document.{Document}
use Rattle.doc_book.specs.Frames.{IsFrameOf}
use Rattle.doc_book.specs.Growing.{Grows, entry_of}
use Rattle.doc_book.specs.History.{scene_at, places_at}
use Rattle.doc_book.specs.Jobs.{SolvedOf}
use Rattle.doc_book.specs.Steps.{GrowsByFrame}
use Rattle.doc_book.proofs.Later.{slice_get-at}
use Rattle.shared_book.specs.Committed.{IsCommitted, IsPublishedAt}

longer : (old new : Document) (place : ℕ) (e : Entry) → Grows old new place e → new.history ≡ old.history ++ e ∷ []
longer old new place e grows = ap (λ (d : Document). d.history) grows.entered

-- the entry stands at its place
stands_at : (old new : Document) (place : ℕ) (e : Entry) → Grows old new place e → slice_get new.history place ≡ Some e
stands_at old new place e grows =
    ap (λ (h : List Entry). slice_get h place) (longer old new place e grows) ∙ slice_get-at old.history e [] place grows.place_is

-- the entries before it are the old ones
before_it : (old new : Document) (place : ℕ) (e : Entry) → Grows old new place e → take place new.history ≡ old.history
before_it old new place e grows =
    ap (λ (h : List Entry). take place h) (longer old new place e grows)
    ∙ take-append-le place old.history (e ∷ []) (omega (arith, grows.place_is))
    ∙ take_all place old.history (omega (arith, grows.place_is))

-- the frame of an entry that has one
abbrev frame_of_act : Frame → Act → Frame
frame_of_act f (act.Edit edit) = f
frame_of_act f act.Undo = f
frame_of_act f (act.Frame frame) = frame
frame_of_act f act.End = f

abbrev frame_in : Frame → Option Entry → Frame
frame_in f None = f
frame_in f (Some e) = frame_of_act f e.act

same_frame : (who line : ℕ) (f g : Frame) → Some (entry_of who line (act.Frame f)) ≡ Some (entry_of who line (act.Frame g)) → f ≡ g
same_frame who line f g same = ap (frame_in f) same

committed : (old new : Document) (place who line : ℕ) (frame : Frame) → GrowsByFrame old new place who line → Grows old new place (entry_of who line (act.Frame frame))
    → IsCommitted new.history place who line frame
committed old new place who line frame by_frame grows =
    let same : by_frame.frame ≡ frame = same_frame who line by_frame.frame frame
    (sym (stands_at old new place (entry_of who line (act.Frame by_frame.frame)) by_frame.grows) ∙ stands_at old new place (entry_of who line (act.Frame frame)) grows) in
    let legal : IsFrameOf (scene_at old.history) (places_at old.history) frame = subst (λ (f : Frame). IsFrameOf (scene_at old.history) (places_at old.history) f) same by_frame.legal in
    record {
      stands = stands_at old new place (entry_of who line (act.Frame frame)) grows;
      legal = subst (λ (h : List Entry). IsFrameOf (scene_at h) (places_at h) frame) (sym (before_it old new place (entry_of who line (act.Frame frame)) grows)) legal;
    }

-- A frame that a publication entered is committed.
pub published_at : (old new : Document) (who line : ℕ) (solved : SolvedOf) (answer : Publish) → IsPublished old new who line solved answer
    → IsPublishedAt answer (λ place. IsCommitted new.history place who line solved.frame)
published_at old new who line solved (publish.Published place) is = committed old new place who line solved.frame is.0.2 is.1
published_at old new who line solved (publish.Stale front back) is = tt
published_at old new who line solved (publish.Memory back) is = tt
