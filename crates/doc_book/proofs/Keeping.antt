-- What the book keeps, through one entry more.
use Rattle.std.proofs.Common.{◌≡◌, ◌+◌, ◌<◌, ◌≤◌, ℕ, List, [], ◌∷◌, ◌++◌, Bool, true, false, cond, Option, Some, None, length, map, refl, ap, sym, ◌∙◌, subst, arith, zero, suc, ℤ}
use Rattle.std.proofs.lemmas.Bool.{false≢true}
use Rattle.std.specs.Prelude.{◌↔◌, IsTrue, MatchOption, fold}
use Rattle.std.proofs.lemmas.List.{length-append, length-map}
use Rattle.units.specs.declared.geometry.Axis.{Axis}
use Rattle.units.specs.declared.geometry.Axis.TheVariants.{X, Y}
use Rattle.scene_model.specs.Diagram.{Diagram}
use Rattle.scene_model.specs.Variables.{variables}
use Rattle.edit_rules.specs.declared.edits.Edit.{Edit}
use Rattle.edit_rules.specs.Effects.{edited, scene_of}
use Rattle.undo_store.specs.Along.{without_last}
use Rattle.undo_store.proofs.Lasting.{without_last-short}
use Rattle.frac128.specs.Fraction.{floor_of}
use Rattle.multiplier_check.specs.declared.certificate.Certificate.{Certificate}
use Rattle.frame_store.specs.declared.places.Places.{Places}
use Rattle.frame_store.specs.declared.frames.Frame.{Frame}
use Rattle.frame_store.specs.Frames.{drawn}
use Rattle.frame_store.specs.Carry.{carried, kept_place}
use Rattle.doc_book.specs.declared.entries.Entry.{Entry}
use Rattle.doc_book.specs.declared.entries.Act.{Act}
use Rattle.doc_book.specs.declared.entries.Act.TheVariants as act
use Rattle.doc_book.specs.Frames.{IsFrameOf}
use Rattle.doc_book.specs.Growing.{entry_of}
use Rattle.doc_book.specs.History.{edits_after, standing, scene_at, places_at, places_after, is_end, is_frame, end_place, after_end, frame_count}
use Rattle.doc_book.specs.Kept.{IsKept, IsOpenCount, IsEndedCount}
use Rattle.doc_book.specs.Legal.{HasRoom, MayFollow, most_finishing}
use Rattle.axis_project.specs.Projection.{IsShown}
use Rattle.doc_book.specs.Verdicts.{IsVerdict, undo_verdict, closed_refusal}
use Rattle.doc_book.proofs.Growing.{fold-push, scene_at-push, scene_of-push, places_at-push, IsLegal-push, IsSettled-push, IsSettled-push_frame, IsSettled-push_same, end_place-push_none, end_place-push_end, end_place-push_some, after_end-push_some, after_end-push_end}
use Rattle.doc_book.proofs.Refusing.{open-not_ended, open-not_full, not_closed, undo-not_closed}

frame_count-push : (h : List Entry) (e : Entry) → frame_count (h ++ e ∷ []) ≡ frame_count h + cond (is_frame e) 1 0
frame_count-push h e = fold-push (λ n (x : Entry). n + cond (is_frame x) 1 0) 0 h e

length-push : (h : List Entry) (e : Entry) → length (h ++ e ∷ []) ≡ length h + 1
length-push h e = length-append h (e ∷ [])

-- there are at most as many standing edits as entries
pub standing-short : (h : List Entry) → length (standing h) ≤ length h
standing-short h = let le = along h [] in omega (arith, le)
  where
    one : (edits : List Edit) (a : Act) → length (edits_after edits a) ≤ length edits + 1
    one edits (act.Edit e) = omega (arith, length-append edits (e ∷ []))
    one edits act.Undo = omega (arith, without_last-short edits)
    one edits (act.Frame f) = omega arith
    one edits act.End = omega arith

    along : (es : List Entry) (edits : List Edit) → length (fold (λ kept (e : Entry). edits_after kept e.act) edits es) ≤ length edits + length es
    along [] edits = omega arith
    along (e ∷ es) edits = let more = along es (edits_after edits e.act) in omega (arith, more, one edits e.act)

-- an edit or undo that the history accepts: the places are carried
IsKept-change : (h : List Entry) (budget : ℕ) (scene : Diagram) (places : Places) (settled : Bool) (entry : Entry) (scene' : Diagram) (places' : Places)
    → IsKept h budget scene places settled → closed_refusal h ≡ None → MayFollow h budget entry → is_end entry ≡ false → is_frame entry ≡ false
    → ((before after : Diagram) (p : Places) → places_after entry.act before after p ≡ carried before after p)
    → scene' ≡ scene_of (edits_after (standing h) entry.act) → places' ≡ carried scene scene' places
    → IsKept (h ++ entry ∷ []) budget scene' places' false
IsKept-change h budget scene places settled entry scene' places' k accepted may no_end no_frame carries next places_are =
    let open_history = open-not_ended h accepted in
    let counts = subst (λ o. MatchOption o (IsOpenCount h budget) (λ _. IsEndedCount h budget)) open_history k.counts in
    let full = open-not_full h accepted in
    let longer = length-push h entry in
    let frames = frame_count-push h entry in
    let none = counted_none (is_frame entry) no_frame in
    let after = scene_of (edits_after (standing h) entry.act) in
    record {
      legal = IsLegal-push h budget entry k.legal may;
      scene_is = next ∙ sym (scene_at-push h entry);
      places_are =
          places_are
          ∙ (ap (λ d. carried d scene' places) k.scene_is
          ∙ (ap (λ d. carried (scene_at h) d places) next
          ∙ (ap (carried (scene_at h) after) k.places_are ∙ (sym (carries (scene_at h) after (places_at h)) ∙ sym (places_at-push h entry)))));
      on_x = ap (λ (p : Places). length p.x) places_are ∙ length-map (variables scene' X) (kept_place (variables scene X) places.x);
      on_y = ap (λ (p : Places). length p.y) places_are ∙ length-map (variables scene' Y) (kept_place (variables scene Y) places.y);
      settled_is = (λ t. absurd (false≢true t), λ s. absurd (false≢true (sym no_frame ∙ IsSettled-push_frame h entry s)));
      budget_small = k.budget_small;
      counts = subst (λ o. MatchOption o (IsOpenCount (h ++ entry ∷ []) budget) (λ _. IsEndedCount (h ++ entry ∷ []) budget)) (sym (end_place-push_none h entry open_history no_end))
          (record { frames = omega (arith, counts.frames, frames, none); entries = omega (arith, full, longer, frames, none) });
    }
  where
    counted_none : (b : Bool) → b ≡ false → cond b 1 0 ≡ zero
    counted_none b is = ap (λ t. cond t 1 0) is

-- an edit that the history accepts
pub IsKept-edit : (h : List Entry) (budget : ℕ) (scene : Diagram) (places : Places) (settled : Bool) (who line : ℕ) (e : Edit) (scene' : Diagram) (places' : Places)
    → IsKept h budget scene places settled → IsVerdict h e None → scene' ≡ edited e scene → places' ≡ carried scene scene' places
    → IsKept (h ++ entry_of who line (act.Edit e) ∷ []) budget scene' places' false
IsKept-edit h budget scene places settled who line e scene' places' k accepted scene_is places_are =
    IsKept-change h budget scene places settled (entry_of who line (act.Edit e)) scene' places' k (not_closed h e accepted) accepted refl refl (λ before after p. refl)
    (scene_is ∙ (ap (edited e) k.scene_is ∙ sym (scene_of-push (standing h) e))) places_are

-- an undo that the history accepts: the last edit is taken back by its record
pub IsKept-undo : (h : List Entry) (budget : ℕ) (scene : Diagram) (places : Places) (settled : Bool) (who line : ℕ) (scene' : Diagram) (places' : Places)
    → IsKept h budget scene places settled → undo_verdict h ≡ None → scene' ≡ scene_of (without_last (standing h)) → places' ≡ carried scene scene' places
    → IsKept (h ++ entry_of who line act.Undo ∷ []) budget scene' places' false
IsKept-undo h budget scene places settled who line scene' places' k accepted scene_is places_are =
    IsKept-change h budget scene places settled (entry_of who line act.Undo) scene' places' k (undo-not_closed h accepted) accepted refl refl (λ before after p. refl)
    scene_is places_are

counted_one : (b : Bool) → b ≡ true → cond b 1 0 ≡ suc zero
counted_one b is = ap (λ t. cond t 1 0) is

-- the counts with one frame more
counts_with_frame : (h : List Entry) (budget : ℕ) (entry : Entry) → is_end entry ≡ false → is_frame entry ≡ true → (o : Option ℕ) → end_place h ≡ o
    → MatchOption o (IsOpenCount h budget) (λ _. IsEndedCount h budget) → MatchOption o (frame_count h < budget) (λ _. length (after_end h) < most_finishing)
    → MatchOption (end_place (h ++ entry ∷ [])) (IsOpenCount (h ++ entry ∷ []) budget) (λ _. IsEndedCount (h ++ entry ∷ []) budget)
counts_with_frame h budget entry other frame None is counts room =
    let frames = frame_count-push h entry in
    let longer = length-push h entry in
    let one = counted_one (is_frame entry) frame in
    subst (λ o. MatchOption o (IsOpenCount (h ++ entry ∷ []) budget) (λ _. IsEndedCount (h ++ entry ∷ []) budget)) (sym (end_place-push_none h entry is other))
    (record { frames = omega (arith, room, frames, one); entries = omega (arith, counts.entries, longer, frames, one) })
counts_with_frame h budget entry other frame (Some at) is counts room =
    let frames = frame_count-push h entry in
    let longer = length-push h entry in
    let one = counted_one (is_frame entry) frame in
    let behind = ap length (after_end-push_some h entry at is) ∙ length-push (after_end h) entry in
    subst (λ o. MatchOption o (IsOpenCount (h ++ entry ∷ []) budget) (λ _. IsEndedCount (h ++ entry ∷ []) budget)) (sym (end_place-push_some h entry at is))
    (record {
      frames = omega (arith, counts.frames, frames, one, behind);
      entries = omega (arith, counts.entries, longer, frames, one);
      finishing = omega (arith, room, behind);
    })

-- the frame of the present places
pub IsKept-frame : (h : List Entry) (budget : ℕ) (scene : Diagram) (places : Places) (settled : Bool) (who line : ℕ) (f : Frame) (places' : Places) (settled' : Bool)
    → IsKept h budget scene places settled → HasRoom h budget → IsFrameOf (scene_at h) (places_at h) f → places' ≡ drawn f → (IsTrue settled' ↔ (drawn f ≡ places))
    → IsKept (h ++ entry_of who line (act.Frame f) ∷ []) budget scene places' settled'
IsKept-frame h budget scene places settled who line f places' settled' k room is places_are settled_is =
    let entry = entry_of who line (act.Frame f) in
    let drawn_are : places_at (h ++ entry ∷ []) ≡ drawn f = places_at-push h entry in
    record {
      legal = IsLegal-push h budget entry k.legal (room, is);
      scene_is = k.scene_is ∙ sym (scene_at-push h entry);
      places_are = places_are ∙ sym drawn_are;
      on_x = ap (λ (p : Places). length p.x) places_are ∙ on_axis X scene f.desired.x f.x k.scene_is is.on_x;
      on_y = ap (λ (p : Places). length p.y) places_are ∙ on_axis Y scene f.desired.y f.y k.scene_is is.on_y;
      settled_is = (
        λ t. IsSettled-push h entry refl (drawn_are ∙ (settled_is.0 t ∙ k.places_are)),
        λ s. settled_is.1 (sym drawn_are ∙ (IsSettled-push_same h entry s ∙ sym k.places_are)),
      );
      budget_small = k.budget_small;
      counts = counts_with_frame h budget entry refl refl (end_place h) refl k.counts room;
    }
  where
    on_axis : (axis : Axis) (d : Diagram) (desired : List ℤ) (c : Certificate) → d ≡ scene_at h → IsShown (scene_at h) axis desired c → length (map floor_of c.places) ≡ length (variables d axis)
    on_axis axis d desired c same is =
        length-map c.places floor_of ∙ (is.shown.form.places_as_long ∙ (is.projects.as_long ∙ ap (λ e. length (variables e axis)) (sym same)))

-- End
pub IsKept-end : (h : List Entry) (budget : ℕ) (scene : Diagram) (places : Places) (settled : Bool)
    → IsKept h budget scene places settled → end_place h ≡ None → IsKept (h ++ entry_of 0 0 act.End ∷ []) budget scene places false
IsKept-end h budget scene places settled k open_history =
    let entry = entry_of 0 0 act.End in
    let counts = subst (λ o. MatchOption o (IsOpenCount h budget) (λ _. IsEndedCount h budget)) open_history k.counts in
    let longer = length-push h entry in
    let frames = frame_count-push h entry in
    let behind = ap length (after_end-push_end h entry open_history refl) in
    record {
      legal = IsLegal-push h budget entry k.legal (refl, refl, open_history);
      scene_is = k.scene_is ∙ sym (scene_at-push h entry);
      places_are = k.places_are ∙ sym (places_at-push h entry);
      on_x = k.on_x;
      on_y = k.on_y;
      settled_is = (λ t. absurd (false≢true t), λ s. absurd (false≢true (IsSettled-push_frame h entry s)));
      budget_small = k.budget_small;
      counts = subst (λ o. MatchOption o (IsOpenCount (h ++ entry ∷ []) budget) (λ _. IsEndedCount (h ++ entry ∷ []) budget)) (sym (end_place-push_end h entry open_history refl))
          (record { frames = omega (arith, counts.frames, frames, behind); entries = omega (arith, counts.entries, longer, frames); finishing = omega (arith, behind) });
    }
