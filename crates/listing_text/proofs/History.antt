-- The entries of a history, from left to right.
use Rattle.std.proofs.Common.{◌≡◌, ℕ, ℤ, ◌+◌, ◌<◌, List, [], ◌∷◌, ◌++◌, length, take, drop, get_or, sym, ap, subst, ◌∙◌, arith}
use Rattle.units.specs.declared.geometry.Axis.{Axis}
use Rattle.units.specs.declared.geometry.Axis.TheVariants.{X, Y}
use Rattle.edit_rules.specs.declared.edits.Edit.{Edit}
use Rattle.edit_rules.specs.Effects.{scene_of}
use Rattle.scene_model.specs.Diagram.{Diagram}
use Rattle.multiplier_check.specs.declared.certificate.Certificate.{Certificate}
use Rattle.doc_book.proofs.Feasible.{standing-push}
use Rattle.doc_book.proofs.Keeping.{standing-short}
use Rattle.doc_book.proofs.Refusing.{open-not_full, not_closed, scene_accepts}
use Rattle.doc_book.specs.declared.entries.Entry.{Entry}
use Rattle.doc_book.specs.declared.entries.Act.{Act}
use Rattle.doc_book.specs.declared.entries.Act.TheVariants as act
use Rattle.doc_book.specs.History.{scene_at, standing, edits_after}
use Rattle.doc_book.specs.Legal.{ActMayFollow, AllMayFollow}
use Rattle.doc_book.specs.Listing.{text_lines, lines_of, entry_lines}
use Rattle.axis_project.specs.Projection.{IsShown}
use Rattle.listing_text.specs.Steps.{IsAccepting, HasPlaces, IsPlacing}
use Rattle.listing_text.proofs.Elements.{rest_of, front_of}
use Rattle.listing_text.proofs.Lines.{text_lines-append}

-- ---- what may follow

accepts : (h : List Entry) (budget : ℕ) (e : Entry) (a : Act) → ActMayFollow h budget e a → IsAccepting (standing h) a
accepts h budget e (act.Edit edit) may =
    let short = standing-short h in
    let few = open-not_full h (not_closed h edit may) in
    ((scene_accepts h edit may).causes, omega arith)
accepts h budget e act.Undo may = tt
accepts h budget e (act.Frame f) may = tt
accepts h budget e act.End may = tt

has_places : (scene : Diagram) (axis : Axis) (desired : List ℤ) (certificate : Certificate) → IsShown scene axis desired certificate → HasPlaces scene axis desired certificate
has_places scene axis desired certificate is = record { wanted = is.projects.as_long; placed = is.shown.form.places_as_long ∙ is.projects.as_long }

placing : (h : List Entry) (budget : ℕ) (e : Entry) (a : Act) → ActMayFollow h budget e a → IsPlacing (scene_at h) a
placing h budget e (act.Edit edit) may = tt
placing h budget e act.Undo may = tt
placing h budget e (act.Frame f) may = (has_places (scene_at h) X f.desired.x f.x may.1.on_x, has_places (scene_at h) Y f.desired.y f.y may.1.on_y)
placing h budget e act.End may = tt

-- ---- a step

module _ (h : List Entry) (k : ℕ) (e : Entry) (lt : k < length h) (is : e ≡ get_or h k e) where
  rest : drop k h ≡ e ∷ drop (k + 1) h
  rest = rest_of h k e lt is

  front : take k h ++ e ∷ [] ≡ take (k + 1) h
  front = front_of h k e lt is

  pub entries_step : text_lines (entry_lines (take k h) k (drop k h))
      ≡ text_lines (lines_of (scene_at (take k h)) k e) ++ text_lines (entry_lines (take (k + 1) h) (k + 1) (drop (k + 1) h))
  entries_step =
      ap (λ es. text_lines (entry_lines (take k h) k es)) rest
      ∙ text_lines-append (lines_of (scene_at (take k h)) k e) (entry_lines (take k h ++ e ∷ []) (k + 1) (drop (k + 1) h))
      ∙ ap (λ before. text_lines (lines_of (scene_at (take k h)) k e) ++ text_lines (entry_lines before (k + 1) (drop (k + 1) h))) front

  pub entry_put : (edits : List Edit) → edits ≡ standing (take k h) → text_lines (entry_lines (take k h) k (drop k h))
      ≡ text_lines (lines_of (scene_of edits) k e) ++ text_lines (entry_lines (take (k + 1) h) (k + 1) (drop (k + 1) h))
  entry_put edits of = entries_step ∙ ap (λ es. text_lines (lines_of (scene_of es) k e) ++ text_lines (entry_lines (take (k + 1) h) (k + 1) (drop (k + 1) h))) (sym of)

  pub edits_step : standing (take (k + 1) h) ≡ edits_after (standing (take k h)) e.act
  edits_step = ap standing (sym front) ∙ standing-push (take k h) e

  pub legal_here : (budget : ℕ) → AllMayFollow (take k h) budget (drop k h) → IsAccepting (standing (take k h)) e.act
  legal_here budget legal =
      let all : AllMayFollow (take k h) budget (e ∷ drop (k + 1) h) = subst (λ es. AllMayFollow (take k h) budget es) rest legal in
      accepts (take k h) budget e e.act all.0

  pub placing_here : (budget : ℕ) → AllMayFollow (take k h) budget (drop k h) → IsPlacing (scene_at (take k h)) e.act
  placing_here budget legal =
      let all : AllMayFollow (take k h) budget (e ∷ drop (k + 1) h) = subst (λ es. AllMayFollow (take k h) budget es) rest legal in
      placing (take k h) budget e e.act all.0

  pub legal_step : (budget : ℕ) → AllMayFollow (take k h) budget (drop k h) → AllMayFollow (take (k + 1) h) budget (drop (k + 1) h)
  legal_step budget legal =
      let all : AllMayFollow (take k h) budget (e ∷ drop (k + 1) h) = subst (λ es. AllMayFollow (take k h) budget es) rest legal in
      subst (λ before. AllMayFollow before budget (drop (k + 1) h)) front all.1
