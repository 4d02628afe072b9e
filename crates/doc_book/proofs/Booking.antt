-- What a book keeps, through an edit and an undo.
use Rattle.std.proofs.Common.{◌≡◌, ◌<◌, ℕ, List, [], ◌∷◌, ◌++◌, Bool, true, false, None, length, ap, sym, ◌∙◌, subst, arith}
use Rattle.std.specs.Prelude.{◌↔◌, IsTrue}
use Rattle.units.specs.declared.geometry.Axis.{Axis}
use Rattle.units.specs.declared.geometry.Axis.TheVariants.{X, Y}
use Rattle.scene_model.specs.Diagram.{Diagram, empty_diagram}
use Rattle.scene_model.specs.Sound.{IsSound}
use Rattle.edit_rules.specs.declared.edits.Edit.{Edit}
use Rattle.sep_gen.specs.Feasibility.{IsFeasibleAxis}
use Rattle.edit_rules.specs.Effects.{edited, scene_of}
use Rattle.edit_rules.specs.Refusals.{refusal_of}
use Rattle.edit_rules.specs.Steady.{is_steady}
use Rattle.edit_rules.proofs.Keeping.{edited_uncrowded}
use Rattle.edit_rules.proofs.Steadiness.{stays_feasible}
use Rattle.undo_store.specs.Along.{without_last}
use Rattle.undo_store.proofs.Lasting.{scene_of-push}
use Rattle.frame_store.specs.declared.places.Places.{Places}
use Rattle.frame_store.specs.Carry.{carried}
use Rattle.doc_book.specs.declared.entries.Entry.{Entry}
use Rattle.doc_book.specs.declared.entries.Act.TheVariants as act
use Rattle.doc_book.specs.declared.hints.Hints.{Hints}
use Rattle.frame_store.specs.declared.frames.Frame.{Frame}
use Rattle.frame_store.specs.Frames.{drawn}
use Rattle.doc_book.specs.declared.replies.Reply.TheVariants as reply
use Rattle.doc_book.specs.Document.{Document}
use Rattle.doc_book.specs.Events.{Replied}
use Rattle.doc_book.specs.Frames.{IsFrameOf}
use Rattle.doc_book.specs.Growing.{entry_of}
use Rattle.doc_book.specs.Hints.{hints_of}
use Rattle.doc_book.specs.Jobs.{IsJobOf}
use Rattle.doc_book.specs.Legal.{HasRoom}
use Rattle.doc_book.specs.Steps.{GrowsByFrame, MayFinish, IsFinishStep}
use Rattle.doc_book.specs.History.{scene_at, places_at, end_place}
use Rattle.doc_book.specs.Verdicts.{IsFeasibility, IsVerdict, undo_verdict, closed_refusal}
use Rattle.doc_book.proofs.Feasible.{standing-push, sound-push, sound-without_last, accepted-legal, feasible-legal, uncrowded-standing}
use Rattle.doc_book.proofs.Growing.{hints_at-push}
use Rattle.doc_book.proofs.Keeping.{IsKept-edit, IsKept-undo, IsKept-end, IsKept-frame, standing-short}
use Rattle.doc_book.proofs.Refusing.{open-not_full}
use Rattle.doc_book.specs.Kept.{AllSound, IsBook, IsUncrowded}
use Rattle.doc_book.specs.Layable.{IsLayable}
use Rattle.doc_book.specs.Standing.{AreAccepted}

-- while the history takes edits, the stand has room
pub stand_short : (h : List Entry) (budget : ℕ) (stand : List Edit) (places : Places) (settled : Bool) (hints : Hints) → IsBook h budget stand places settled hints → closed_refusal h ≡ None → length stand < 20000
stand_short h budget stand places settled hints k open_history =
    let short = standing-short h in
    let few = open-not_full h open_history in
    omega (arith, short, few, ap (λ (es : List Edit). length es) k.stand_is)

pub IsBook-edit : (h : List Entry) (budget : ℕ) (stand : List Edit) (places : Places) (settled : Bool) (hints : Hints) (who line : ℕ) (e : Edit) (stand' : List Edit) (places' : Places)
    → IsBook h budget stand places settled hints → IsVerdict h e None → IsSound (scene_of stand) → stand' ≡ stand ++ e ∷ [] → places' ≡ carried (scene_of stand) (edited e (scene_of stand)) places
    → IsBook (h ++ entry_of who line (act.Edit e) ∷ []) budget stand' places' false hints
IsBook-edit h budget stand places settled hints who line e stand' places' k accepted sound stand_is places_are =
    let entry = entry_of who line (act.Edit e) in
    let scene_is : scene_of stand' ≡ edited e (scene_of stand) = ap scene_of stand_is ∙ scene_of-push stand e in
    record {
      stand_is = stand_is ∙ ap (λ (es : List Edit). es ++ e ∷ []) k.stand_is ∙ sym (standing-push h entry);
      sound = subst (AllSound empty_diagram) (sym stand_is) (sound-push empty_diagram stand e k.sound sound);
      kept = IsKept-edit h budget (scene_of stand) places settled who line e (scene_of stand') places' k.kept accepted scene_is
          (places_are ∙ ap (λ (d : Diagram). carried (scene_of stand) d places) (sym scene_is));
      hints_are = k.hints_are ∙ sym (hints_at-push h entry);
    }

pub IsBook-undo : (h : List Entry) (budget : ℕ) (stand : List Edit) (places : Places) (settled : Bool) (hints : Hints) (who line : ℕ) (stand' : List Edit) (places' : Places)
    → IsBook h budget stand places settled hints → undo_verdict h ≡ None → stand' ≡ without_last stand → places' ≡ carried (scene_of stand) (scene_of (without_last stand)) places
    → IsBook (h ++ entry_of who line act.Undo ∷ []) budget stand' places' false hints
IsBook-undo h budget stand places settled hints who line stand' places' k accepted stand_is places_are =
    let entry = entry_of who line act.Undo in
    record {
      stand_is = stand_is ∙ ap without_last k.stand_is ∙ sym (standing-push h entry);
      sound = subst (AllSound empty_diagram) (sym stand_is) (sound-without_last empty_diagram stand k.sound);
      kept = IsKept-undo h budget (scene_of stand) places settled who line (scene_of stand') places' k.kept accepted
          (ap scene_of (stand_is ∙ ap without_last k.stand_is))
          (places_are ∙ ap (λ (d : Diagram). carried (scene_of stand) d places) (ap scene_of (sym stand_is)));
      hints_are = k.hints_are ∙ sym (hints_at-push h entry);
    }

pub IsBook-end : (h : List Entry) (budget : ℕ) (stand : List Edit) (places : Places) (settled : Bool) (hints : Hints) → IsBook h budget stand places settled hints → end_place h ≡ None
    → IsBook (h ++ entry_of 0 0 act.End ∷ []) budget stand places false hints
IsBook-end h budget stand places settled hints k open_history = record {
  stand_is = k.stand_is ∙ sym (standing-push h (entry_of 0 0 act.End));
  sound = k.sound;
  kept = IsKept-end h budget (scene_of stand) places settled k.kept open_history;
  hints_are = k.hints_are ∙ sym (hints_at-push h (entry_of 0 0 act.End));
}

pub IsBook-frame : (h : List Entry) (budget : ℕ) (stand : List Edit) (places : Places) (settled : Bool) (hints : Hints) (who line : ℕ) (f : Frame) (places' : Places) (settled' : Bool) (hints' : Hints)
    → IsBook h budget stand places settled hints → HasRoom h budget → IsFrameOf (scene_at h) (places_at h) f → places' ≡ drawn f → (IsTrue settled' ↔ (drawn f ≡ places)) → hints' ≡ hints_of f
    → IsBook (h ++ entry_of who line (act.Frame f) ∷ []) budget stand places' settled' hints'
IsBook-frame h budget stand places settled hints who line f places' settled' hints' k room legal places_are settled_is hints_are = record {
  stand_is = k.stand_is ∙ sym (standing-push h (entry_of who line (act.Frame f)));
  sound = k.sound;
  kept = IsKept-frame h budget (scene_of stand) places settled who line f places' settled' k.kept room legal places_are settled_is;
  hints_are = hints_are ∙ sym (hints_at-push h (entry_of who line (act.Frame f)));
}

-- no axis of the scene has more separations than it may
pub book_uncrowded : (h : List Entry) (budget : ℕ) (stand : List Edit) (places : Places) (settled : Bool) (hints : Hints) → IsBook h budget stand places settled hints → IsUncrowded (scene_of stand)
book_uncrowded h budget stand places settled hints k =
    uncrowded-standing stand k.sound (subst AreAccepted (sym k.stand_is) (accepted-legal budget h k.kept.legal))

-- a frame can be made of the scene and places
pub book_layable : (h : List Entry) (budget : ℕ) (stand : List Edit) (places : Places) (settled : Bool) (hints : Hints) → IsBook h budget stand places settled hints → IsLayable (scene_of stand) places
book_layable h budget stand places settled hints k = record {
  on_x = k.kept.on_x;
  on_y = k.kept.on_y;
  uncrowded = book_uncrowded h budget stand places settled hints k;
  feasible = λ axis. subst (λ (d : Diagram). IsFeasibleAxis d axis) (sym k.kept.scene_is) (feasible-legal budget h k.kept.legal axis);
}

-- nor has it after an edit that the scene accepts; and where the edit is steady, the scene stays feasible
pub edited_scene : (h : List Entry) (budget : ℕ) (stand : List Edit) (places : Places) (settled : Bool) (hints : Hints) → IsBook h budget stand places settled hints → IsSound (scene_of stand)
    → (e : Edit) → refusal_of (scene_at h) e ≡ None → (scene : Diagram) → scene ≡ edited e (scene_of stand)
    → (scene ≡ edited e (scene_at h)) × IsUncrowded scene × (is_steady e ≡ true → IsFeasibility scene None)
edited_scene h budget stand places settled hints k sound e accepted scene is = (
  is ∙ ap (edited e) k.kept.scene_is,
  subst IsUncrowded (sym is)
      (λ axis. edited_uncrowded (scene_of stand) e axis sound (ap (λ d. refusal_of d e) k.kept.scene_is ∙ accepted) (book_uncrowded h budget stand places settled hints k axis)),
  λ steady. subst (λ (d : Diagram). IsFeasibility d None) (sym is) (stays steady X, stays steady Y),
)
  where
    stays : is_steady e ≡ true → (axis : Axis) → IsFeasibleAxis (edited e (scene_of stand)) axis
    stays steady axis =
        stays_feasible (scene_of stand) e axis steady sound (ap (λ d. refusal_of d e) k.kept.scene_is ∙ accepted) ((book_layable h budget stand places settled hints k).feasible axis)

-- ---- steps that enter a frame

grows_by : (old new : Document) (place who line : ℕ) (f : Frame) → IsFrameOf (scene_at old.history) (places_at old.history) f → place ≡ length old.history
    → new ≡ record old { history = old.history ++ entry_of who line (act.Frame f) ∷ [] } → GrowsByFrame old new place who line
grows_by old new place who line f legal place_is entered = record { frame = f; legal = legal; grows = record { place_is = place_is; entered = entered } }

pub finishing_step : (old new : Document) (place : ℕ) (f : Frame) → MayFinish old → IsFrameOf (scene_at old.history) (places_at old.history) f → place ≡ length old.history
    → new ≡ record old { history = old.history ++ entry_of 0 0 (act.Frame f) ∷ [] } → IsFinishStep old new (Replied (reply.Published place))
finishing_step old new place f may legal place_is entered = (may, grows_by old new place 0 0 f legal place_is entered)

-- a job whose front isn't behind is of the present front
pub present : (h : List Entry) (budget front : ℕ) (scene : Diagram) (places : Places) (n : ℕ) → IsJobOf h budget front scene places → n ≡ length h → (front < n → ⊥) → front ≡ length h
present h budget front scene places n job is ahead = omega (arith, job.within, is, ahead)
