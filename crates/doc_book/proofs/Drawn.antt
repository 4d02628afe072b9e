-- The drawn places of a frame fit its scene.
use Rattle.std.proofs.Common.{◌≡◌, ℕ, ℤ, List, [], ◌∷◌, ◌++◌, true, map, sym, ◌∙◌, subst, arith, append_assoc}
use Rattle.std.proofs.lemmas.List.{append-nil, length-map}
use Rattle.units.specs.declared.geometry.Axis.{Axis}
use Rattle.units.specs.declared.geometry.Axis.TheVariants.{X, Y}
use Rattle.scene_model.specs.Diagram.{Diagram}
use Rattle.scene_model.specs.Meaning.{Fits}
use Rattle.scene_model.specs.Separations.{separations}
use Rattle.sep_gen.proofs.Meanings.{fits_where_satisfied}
use Rattle.edit_rules.specs.Effects.{scene_of}
use Rattle.frac128.specs.Fraction.{floor_of}
use Rattle.multiplier_check.specs.declared.certificate.Certificate.{Certificate}
use Rattle.multiplier_check.specs.Placement.{placement_of}
use Rattle.multiplier_check.proofs.Floors.{floors_keep}
use Rattle.frame_store.specs.declared.places.Places.{Places}
use Rattle.frame_store.specs.declared.frames.Frame.{Frame}
use Rattle.frame_store.specs.Frames.{drawn}
use Rattle.axis_project.specs.Projection.{IsShown}
use Rattle.stress_step.specs.Spots.{on_axis}
use Rattle.doc_book.specs.declared.entries.Entry.{Entry}
use Rattle.doc_book.specs.declared.entries.Act.{Act}
use Rattle.doc_book.specs.declared.entries.Act.TheVariants as act
use Rattle.doc_book.specs.Frames.{IsFrameOf}
use Rattle.doc_book.specs.History.{edits_after, standing, scene_at, places_at, places_after, is_frame, is_frame_act}
use Rattle.doc_book.specs.Legal.{MayFollow, AllMayFollow, ActMayFollow, IsLegal}
use Rattle.doc_book.proofs.Growing.{scene_at-push, places_at-push}

-- the floors of a projection that is shown fit
floors_fit : (scene : Diagram) (axis : Axis) (desired : List ℤ) (certificate : Certificate) → IsShown scene axis desired certificate
    → Fits scene axis (map floor_of certificate.places) 1
floors_fit scene axis desired c is =
    let fits = is.projects.least.fits in
    let exact = placement_of c.places in
    let keeps = (fits_where_satisfied scene axis exact.places exact.denominator fits.above fits.as_long).0 fits in
    let long = length-map c.places floor_of ∙ (is.shown.form.places_as_long ∙ is.projects.as_long) in
    (fits_where_satisfied scene axis (map floor_of c.places) 1 (omega arith) long).1
    (floors_keep (separations scene axis) c.places (λ k f at. (is.shown.form.places_lowest k f at).above) keeps)

pub drawn_fits : (scene : Diagram) (places : Places) (frame : Frame) → IsFrameOf scene places frame → (axis : Axis) → Fits scene axis (on_axis axis (drawn frame)) 1
drawn_fits scene places frame is X = floors_fit scene X frame.desired.x frame.x is.on_x
drawn_fits scene places frame is Y = floors_fit scene Y frame.desired.y frame.y is.on_y

-- the last entry of a legal history may follow those before it
last_follows : (before es : List Entry) (budget : ℕ) (last : Entry) → AllMayFollow before budget (es ++ last ∷ []) → MayFollow (before ++ es) budget last
last_follows before [] budget last all = subst (λ (h : List Entry). MayFollow h budget last) (sym (append-nil before)) all.0
last_follows before (e ∷ es) budget last all =
    subst (λ (h : List Entry). MayFollow h budget last) (append_assoc before (e ∷ []) es) (last_follows (before ++ e ∷ []) es budget last all.1)

-- after a frame the places fit
after_frame : (h : List Entry) (budget : ℕ) (a : Act) (e : Entry) → ActMayFollow h budget e a → is_frame_act a ≡ true → (axis : Axis)
    → Fits (scene_of (edits_after (standing h) a)) axis (on_axis axis (places_after a (scene_at h) (scene_of (edits_after (standing h) a)) (places_at h))) 1
after_frame h budget (act.Edit edit) e may is axis = cc
after_frame h budget act.Undo e may is axis = cc
after_frame h budget (act.Frame frame) e may is axis = drawn_fits (scene_at h) (places_at h) frame may.1 axis
after_frame h budget act.End e may is axis = cc

pub places_fit : (h : List Entry) (budget : ℕ) (last : Entry) → IsLegal (h ++ last ∷ []) budget → is_frame last ≡ true → (axis : Axis)
    → Fits (scene_at (h ++ last ∷ [])) axis (on_axis axis (places_at (h ++ last ∷ []))) 1
places_fit h budget last legal is axis =
    subst (λ (d : Diagram). Fits d axis (on_axis axis (places_at (h ++ last ∷ []))) 1) (sym (scene_at-push h last))
    (subst (λ (p : Places). Fits (scene_of (edits_after (standing h) last.act)) axis (on_axis axis p) 1) (sym (places_at-push h last))
    (after_frame h budget last.act last (last_follows [] h budget last legal) is axis))
