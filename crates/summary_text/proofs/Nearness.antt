-- Where a frame draws its variables, within 2^31 of 0.
use Rattle.std.proofs.Common.{◌≡◌, ℕ, ◌*◌, ◌/◌, ◌<◌, ◌≤◌, ◌^◌, List, [], ◌∷◌, ◌++◌, true, get_or, map, sym, subst, arith, append_assoc}
use Rattle.std.specs.Prelude.{All, ℤ, pos, negsuc, nat_abs}
use Rattle.std.specs.Int.{int_div_euclid}
use Rattle.std.proofs.Math.Nat.{div-le_of_le-mul, div-lt_iff_lt-mul}
use Rattle.std.proofs.lemmas.List.{append-nil}
use Rattle.std.proofs.lemmas.List.Elements.{All-map}
use Rattle.units.specs.declared.geometry.Axis.{Axis}
use Rattle.scene_model.specs.Diagram.{Diagram}
use Rattle.frac128.specs.Fraction.{Fraction, floor_of}
use Rattle.multiplier_check.specs.declared.certificate.Certificate.{Certificate}
use Rattle.multiplier_check.specs.Certificate.{IsNear}
use Rattle.frame_store.specs.declared.places.Places.{Places}
use Rattle.axis_project.specs.Projection.{IsShown}
use Rattle.svg_text.specs.Points.{AreNear}
use Rattle.doc_book.specs.declared.entries.Entry.{Entry}
use Rattle.doc_book.specs.declared.entries.Act.{Act}
use Rattle.doc_book.specs.declared.entries.Act.TheVariants as act
use Rattle.doc_book.specs.History.{edits_after, standing, scene_at, places_at, places_after, is_frame, is_frame_act}
use Rattle.doc_book.specs.Legal.{MayFollow, AllMayFollow, ActMayFollow, IsLegal}
use Rattle.edit_rules.specs.Effects.{scene_of}
use Rattle.doc_book.proofs.Growing.{places_at-push}
use Rattle.summary_text.specs.LastFrame.{EndsInFrame}

-- the floor of a fraction within 2^31 of 0
near_floor : (f : Fraction) → 0 < f.den → IsNear f → nat_abs (floor_of f) ≤ 2 ^ 31
near_floor f h n = by_sign f.num n
  where
    by_sign : (z : ℤ) → nat_abs z ≤ 2 ^ 31 * f.den → nat_abs (int_div_euclid z (pos f.den)) ≤ 2 ^ 31
    by_sign (pos z) k = div-le_of_le-mul f.den (turned z k)
      where
        turned : (z : ℕ) → z ≤ 2 ^ 31 * f.den → z ≤ f.den * 2 ^ 31
        turned z k = omega arith
    by_sign (negsuc z) k = let l : z / f.den < 2 ^ 31 = (div-lt_iff_lt-mul h).1 k in omega (arith, l)

floors_near : (scene : Diagram) (axis : Axis) (desired : List ℤ) (c : Certificate) → IsShown scene axis desired c → All (λ z. nat_abs z ≤ 2 ^ 31) (map floor_of c.places)
floors_near scene axis desired c is =
    All-map (λ z. nat_abs z ≤ 2 ^ 31) floor_of c.places (λ k d at. near_floor (get_or c.places k d) (is.shown.form.places_lowest k d at).above (is.shown.form.near k d at))

-- the last entry of a legal history may follow those before it
last_follows : (before es : List Entry) (budget : ℕ) (last : Entry) → AllMayFollow before budget (es ++ last ∷ []) → MayFollow (before ++ es) budget last
last_follows before [] budget last all = subst (λ (h : List Entry). MayFollow h budget last) (sym (append-nil before)) all.0
last_follows before (e ∷ es) budget last all =
    subst (λ (h : List Entry). MayFollow h budget last) (append_assoc before (e ∷ []) es) (last_follows (before ++ e ∷ []) es budget last all.1)

after_frame : (h : List Entry) (budget : ℕ) (a : Act) (e : Entry) → ActMayFollow h budget e a → is_frame_act a ≡ true
    → AreNear (places_after a (scene_at h) (scene_of (edits_after (standing h) a)) (places_at h))
after_frame h budget (act.Edit edit) e may is = absurd cc
after_frame h budget act.Undo e may is = absurd cc
after_frame h budget (act.Frame frame) e may is = record {
  x = floors_near _ _ frame.desired.x frame.x may.1.on_x;
  y = floors_near _ _ frame.desired.y frame.y may.1.on_y;
}
after_frame h budget act.End e may is = absurd cc

near_push : (h : List Entry) (budget : ℕ) (last : Entry) → IsLegal (h ++ last ∷ []) budget → is_frame last ≡ true → AreNear (places_at (h ++ last ∷ []))
near_push h budget last legal is =
    subst (λ (p : Places). AreNear p) (sym (places_at-push h last)) (after_frame h budget last.act last (last_follows [] h budget last legal) is)

-- the places of a legal history whose last entry is a frame
pub near_places : (h : List Entry) (budget : ℕ) → IsLegal h budget → EndsInFrame h → AreNear (places_at h)
near_places h budget legal is =
    subst (λ (xs : List Entry). AreNear (places_at xs)) (sym is.split) (near_push is.before budget is.last (subst (λ (xs : List Entry). IsLegal xs budget) is.split legal) is.frame)
