-- The scene of a legal history is feasible, and no axis of it has more separations than it may.
use Rattle.std.proofs.Common.{◌≡◌, ◌<◌, ◌≤◌, List, [], ◌∷◌, ◌++◌, ℕ, None, length, ap, sym, ◌∙◌, subst, arith, append_assoc, ⊎_elim}
use Rattle.std.specs.Prelude.{fold}
use Rattle.std.proofs.lemmas.List.{append-nil}
use Rattle.units.specs.declared.geometry.Axis.{Axis}
use Rattle.units.specs.declared.geometry.Axis.TheVariants.{X, Y}
use Rattle.scene_model.specs.Diagram.{Diagram, empty_diagram}
use Rattle.scene_model.specs.Separations.{separations}
use Rattle.scene_model.specs.Sound.{IsSound}
use Rattle.cycle_test.specs.declared.arc.CycleArc.{CycleArc}
use Rattle.cycle_test.specs.Cycle.{IsWalk, HasPositiveCycle}
use Rattle.cycle_test.specs.Feasibility.{HasPlaces}
use Rattle.cycle_test.proofs.Existence.{one_of_both}
use Rattle.sep_gen.specs.Feasibility.{IsFeasibleAxis}
use Rattle.edit_rules.specs.declared.edits.Edit.{Edit}
use Rattle.edit_rules.specs.Effects.{edited, scene_of}
use Rattle.edit_rules.specs.Refusals.{most_separations}
use Rattle.edit_rules.proofs.Keeping.{edited_uncrowded}
use Rattle.undo_store.specs.Along.{without_last}
use Rattle.undo_store.proofs.Lasting.{without_last-push}
use Rattle.doc_book.specs.declared.entries.Entry.{Entry}
use Rattle.doc_book.specs.declared.entries.Act.{Act}
use Rattle.doc_book.specs.declared.entries.Act.TheVariants as act
use Rattle.doc_book.specs.History.{edits_after, standing, scene_at}
use Rattle.doc_book.specs.Kept.{AllSound, IsUncrowded}
use Rattle.doc_book.specs.Legal.{AllMayFollow, ActMayFollow, IsLegal}
use Rattle.doc_book.specs.Standing.{IsAcceptedBy, AllAccepted, AreAccepted}
use Rattle.doc_book.specs.Verdicts.{IsFeasibility}
use Rattle.doc_book.proofs.Growing.{fold-push}
use Rattle.doc_book.proofs.Refusing.{scene_accepts}

-- ---- edits that were accepted

accepted-push : (d : Diagram) (es : List Edit) (e : Edit) → AllAccepted d es → IsAcceptedBy (fold (λ c x. edited x c) d es) e → AllAccepted d (es ++ e ∷ [])
accepted-push d [] e all this = (this, tt)
accepted-push d (x ∷ xs) e all this = (all.0, accepted-push (edited x d) xs e all.1 this)

accepted-without_last : (d : Diagram) (es : List Edit) → AllAccepted d es → AllAccepted d (without_last es)
accepted-without_last d [] all = tt
accepted-without_last d (x ∷ []) all = tt
accepted-without_last d (x ∷ y ∷ rest) all = (all.0, accepted-without_last (edited x d) (y ∷ rest) all.1)

-- what the empty scene has, and each accepted edit keeps, the scene after all of them has
kept_along : (P : Diagram → Type 0) → ((d : Diagram) (e : Edit) → P d → IsAcceptedBy d e → P (edited e d))
    → (d : Diagram) (es : List Edit) → P d → AllAccepted d es → P (fold (λ c x. edited x c) d es)
kept_along P keeps d [] p all = p
kept_along P keeps d (e ∷ es) p all = kept_along P keeps (edited e d) es (keeps d e p all.0) all.1

-- no arc is of no separation
no_cycle : HasPositiveCycle [] → ⊥
no_cycle cycle = by cycle.0 cycle.1.some cycle.1.closed.0 cycle.1.closed.1
  where
    by : (arcs : List CycleArc) → 0 < length arcs → (home : ℕ) → IsWalk [] home arcs home → ⊥
    by [] some home walk = omega (arith, some)
    by (arc ∷ arcs) some home walk = omega (arith, walk.0.among)

-- ---- a legal history

-- the standing edits after one more entry
pub standing-push : (h : List Entry) (e : Entry) → standing (h ++ e ∷ []) ≡ edits_after (standing h) e.act
standing-push h e = fold-push (λ edits (x : Entry). edits_after edits x.act) [] h e

-- an edit that is undone at once leaves the standing edits as they were
pub standing-taken_back : (h : List Entry) (made undo : Entry) (e : Edit) → made.act ≡ act.Edit e → undo.act ≡ act.Undo → standing (h ++ made ∷ undo ∷ []) ≡ standing h
standing-taken_back h made undo e is_edit is_undo =
    ap standing (sym (append_assoc h (made ∷ []) (undo ∷ [])))
    ∙ standing-push (h ++ made ∷ []) undo
    ∙ ap (edits_after (standing (h ++ made ∷ []))) is_undo
    ∙ ap without_last (standing-push h made ∙ ap (edits_after (standing h)) is_edit)
    ∙ without_last-push (standing h) e

module _ (budget : ℕ) where
  after_entry : (h : List Entry) (e : Entry) (a : Act) → ActMayFollow h budget e a → AreAccepted (standing h) → AreAccepted (edits_after (standing h) a)
  after_entry h e (act.Edit x) may all = accepted-push empty_diagram (standing h) x all (scene_accepts h x may)
  after_entry h e act.Undo may all = accepted-without_last empty_diagram (standing h) all
  after_entry h e (act.Frame f) may all = all
  after_entry h e act.End may all = all

  along : (before es : List Entry) → AllMayFollow before budget es → AreAccepted (standing before) → AreAccepted (standing (before ++ es))
  along before [] legal all = subst (λ (h : List Entry). AreAccepted (standing h)) (sym (append-nil before)) all
  along before (e ∷ es) legal all =
      subst (λ (h : List Entry). AreAccepted (standing h)) (append_assoc before (e ∷ []) es)
      (along (before ++ e ∷ []) es legal.1 (subst AreAccepted (sym (standing-push before e)) (after_entry before e e.act legal.0 all)))

  -- each standing edit was accepted by the scene of those before it, also after undos
  pub accepted-legal : (h : List Entry) → IsLegal h budget → AreAccepted (standing h)
  accepted-legal h legal = along [] h legal tt

  -- what the empty scene has, and each accepted edit keeps, the scene of each legal history has, also after undos
  pub scene_keeps : (P : Diagram → Type 0) → P empty_diagram → ((d : Diagram) (e : Edit) → P d → IsAcceptedBy d e → P (edited e d)) → (h : List Entry) → IsLegal h budget → P (scene_at h)
  scene_keeps P empty keeps h legal = kept_along P keeps empty_diagram (standing h) empty (accepted-legal h legal)

  -- so the scene is feasible on both axes
  pub feasible-legal : (h : List Entry) → IsLegal h budget → (axis : Axis) → IsFeasibleAxis (scene_at h) axis
  feasible-legal h legal axis = by axis (scene_keeps (λ d. IsFeasibility d None) (no_cycle, no_cycle) (λ d e p accepted. accepted.feasible) h legal)
    where
      by : (axis : Axis) → IsFeasibility (scene_at h) None → IsFeasibleAxis (scene_at h) axis
      by X both = both.0
      by Y both = both.1

  -- and some whole places satisfy its separations
  pub placed-legal : (h : List Entry) → IsLegal h budget → (axis : Axis) → HasPlaces (separations (scene_at h) axis)
  placed-legal h legal axis = ⊎_elim (λ places. places) (λ cycle. absurd (feasible-legal h legal axis cycle)) (one_of_both (separations (scene_at h) axis))

-- ---- how many separations there are

pub sound-push : (d : Diagram) (es : List Edit) (e : Edit) → AllSound d es → IsSound (fold (λ c x. edited x c) d es) → AllSound d (es ++ e ∷ [])
sound-push d [] e all this = (this, tt)
sound-push d (x ∷ xs) e all this = (all.0, sound-push (edited x d) xs e all.1 this)

pub sound-without_last : (d : Diagram) (es : List Edit) → AllSound d es → AllSound d (without_last es)
sound-without_last d [] all = tt
sound-without_last d (x ∷ []) all = tt
sound-without_last d (x ∷ y ∷ rest) all = (all.0, sound-without_last (edited x d) (y ∷ rest) all.1)

uncrowded-along : (d : Diagram) (es : List Edit) → AllSound d es → AllAccepted d es → IsUncrowded d → IsUncrowded (fold (λ c x. edited x c) d es)
uncrowded-along d [] sound all few = few
uncrowded-along d (e ∷ es) sound all few =
    uncrowded-along (edited e d) es sound.1 all.1 (λ axis. edited_uncrowded d e axis sound.0 all.0.causes (few axis))

-- no axis of the scene of accepted edits has more separations than it may
pub uncrowded-standing : (es : List Edit) → AllSound empty_diagram es → AreAccepted es → IsUncrowded (scene_of es)
uncrowded-standing es sound all = uncrowded-along empty_diagram es sound all none
  where
    none : (axis : Axis) → length (separations empty_diagram axis) ≤ most_separations
    none X = omega arith
    none Y = omega arith
