-- What an accepted edit or undo says of the history.
use Rattle.std.proofs.Common.{◌≡◌, ◌<◌, List, [], ◌∷◌, Bool, true, false, cond, Option, Some, None, length, refl, sym, subst}
use Rattle.std.specs.Prelude.{nat_le, MatchOption}
use Rattle.std.specs.Option.{option_map}
use Rattle.std.proofs.lemmas.Bool.{leb-false}
use Rattle.units.specs.declared.geometry.Axis.TheVariants.{X, Y}
use Rattle.scene_model.specs.Diagram.{Diagram}
use Rattle.edit_rules.specs.declared.edits.Edit.{Edit}
use Rattle.edit_rules.specs.declared.refusals.Refusal.{Refusal}
use Rattle.edit_rules.specs.declared.refusals.Refusal.TheVariants as refusal
use Rattle.edit_rules.specs.declared.refusals.Counted.TheVariants as counted
use Rattle.edit_rules.specs.Effects.{edited}
use Rattle.edit_rules.specs.Refusals.{first_of, refusal_of}
use Rattle.doc_book.specs.declared.entries.Entry.{Entry}
use Rattle.doc_book.specs.History.{end_place, scene_at, standing}
use Rattle.doc_book.specs.Standing.{IsAcceptedBy}
use Rattle.doc_book.specs.Verdicts.{IsVerdict, IsSceneVerdict, IsFeasibility, undo_verdict, nothing_refusal, closed_refusal, ended_refusal, entries_refusal, most_entries}

-- where there is no first refusal, none of them is there
pub first_of-none : (o : Option Refusal) (os : List (Option Refusal)) → first_of (o ∷ os) ≡ None → (o ≡ None) × (first_of os ≡ None)
first_of-none None os e = (refl, e)
first_of-none (Some r) os e = cc

none_mapped : {A B : Type 0} (f : A → B) (o : Option A) → option_map f o ≡ None → o ≡ None
none_mapped f None e = refl
none_mapped f (Some x) e = cc

-- ---- a history that isn't closed

pub open-not_ended : (h : List Entry) → closed_refusal h ≡ None → end_place h ≡ None
open-not_ended h open_history = none_mapped refusal.Ended (end_place h) (first_of-none (ended_refusal h) (entries_refusal h ∷ []) open_history).0

pub open-not_full : (h : List Entry) → closed_refusal h ≡ None → length h < most_entries
open-not_full h open_history = by (nat_le most_entries (length h)) refl (first_of-none (entries_refusal h) [] (first_of-none (ended_refusal h) (entries_refusal h ∷ []) open_history).1).0
  where
    by : (b : Bool) → nat_le most_entries (length h) ≡ b → cond b (Some (refusal.Limit counted.Entries most_entries)) None ≡ None → length h < most_entries
    by true is e = cc
    by false is e = leb-false _ _ is

-- ---- an edit

-- where nothing is refused, there is no cause, and what is left is accepted
accepted : (P : Option Refusal → Type 0) (cause : Option Refusal) → MatchOption cause (P None) (λ r. None ≡ Some r) → (cause ≡ None) × P None
accepted P None is = (refl, is)
accepted P (Some r) is = absurd (none_some is)
  where
    none_some : None ≡ Some r → ⊥
    none_some e = cc

-- without a cause the answer is the rest
pub uncaused : (P : Option Refusal → Type 0) (cause v : Option Refusal) → cause ≡ None → P v → MatchOption cause (P v) (λ r. v ≡ Some r)
uncaused P cause v none is = subst (λ o. MatchOption o (P v) (λ r. v ≡ Some r)) (sym none) is

-- with one it is the cause
pub caused : (P : Option Refusal → Type 0) (cause : Option Refusal) (r : Refusal) → cause ≡ Some r → MatchOption cause (P (Some r)) (λ c. Some r ≡ Some c)
caused P cause r is = subst (λ o. MatchOption o (P (Some r)) (λ c. Some r ≡ Some c)) (sym is) refl

pub not_closed : (h : List Entry) (e : Edit) → IsVerdict h e None → closed_refusal h ≡ None
not_closed h e is = (accepted (IsSceneVerdict (scene_at h) e) (closed_refusal h) is).0

pub scene_accepts : (h : List Entry) (e : Edit) → IsVerdict h e None → IsAcceptedBy (scene_at h) e
scene_accepts h e is =
    let this = accepted (IsFeasibility (edited e (scene_at h))) (refusal_of (scene_at h) e) (accepted (IsSceneVerdict (scene_at h) e) (closed_refusal h) is).1 in
    record { causes = this.0; feasible = this.1 }

-- where a history is open and its scene has no cause, the verdict is what feasibility says
pub verdict_open : (h : List Entry) (e : Edit) (v : Option Refusal) → closed_refusal h ≡ None → refusal_of (scene_at h) e ≡ None → IsFeasibility (edited e (scene_at h)) v → IsVerdict h e v
verdict_open h e v open_history none is =
    uncaused (IsSceneVerdict (scene_at h) e) (closed_refusal h) v open_history (uncaused (IsFeasibility (edited e (scene_at h))) (refusal_of (scene_at h) e) v none is)

-- that it is closed is the verdict
pub verdict_closed : (h : List Entry) (e : Edit) (r : Refusal) → closed_refusal h ≡ Some r → IsVerdict h e (Some r)
verdict_closed h e r is = caused (IsSceneVerdict (scene_at h) e) (closed_refusal h) r is

-- else the cause of the scene is
pub verdict_cause : (h : List Entry) (e : Edit) (r : Refusal) → closed_refusal h ≡ None → refusal_of (scene_at h) e ≡ Some r → IsVerdict h e (Some r)
verdict_cause h e r open_history is =
    uncaused (IsSceneVerdict (scene_at h) e) (closed_refusal h) (Some r) open_history (caused (IsFeasibility (edited e (scene_at h))) (refusal_of (scene_at h) e) r is)

feasible_both : (d : Diagram) (r : Refusal) → IsFeasibility d None → IsFeasibility d (Some r) → ⊥
feasible_both d (refusal.Infeasible X walk) none is = none.0 (walk, is)
feasible_both d (refusal.Infeasible Y walk) none is = none.1 (walk, is.1)
feasible_both d (refusal.Range value) none is = absurd is
feasible_both d (refusal.Unknown name) none is = absurd is
feasible_both d (refusal.Taken name) none is = absurd is
feasible_both d (refusal.Kind name) none is = absurd is
feasible_both d (refusal.Twice name) none is = absurd is
feasible_both d (refusal.InUse by) none is = absurd is
feasible_both d (refusal.Limit what count) none is = absurd is
feasible_both d (refusal.Ended place) none is = absurd is
feasible_both d refusal.NothingToUndo none is = absurd is
feasible_both d refusal.Memory none is = absurd is

-- what isn't both of the rest isn't both with a cause
one_of_both : (P : Option Refusal → Type 0) (cause : Option Refusal) (r : Refusal) → (P None → P (Some r) → ⊥)
    → MatchOption cause (P None) (λ c. None ≡ Some c) → MatchOption cause (P (Some r)) (λ c. Some r ≡ Some c) → ⊥
one_of_both P None r never none is = never none is
one_of_both P (Some c) r never none is = none_some none
  where
    none_some : None ≡ Some c → ⊥
    none_some e = cc

-- no edit is accepted and refused: so "accepted exactly where" follows from each answer's verdict
pub never_both : (h : List Entry) (e : Edit) (r : Refusal) → IsVerdict h e None → IsVerdict h e (Some r) → ⊥
never_both h e r none is =
    one_of_both (IsSceneVerdict (scene_at h) e) (closed_refusal h) r
    (one_of_both (IsFeasibility (edited e (scene_at h))) (refusal_of (scene_at h) e) r (feasible_both (edited e (scene_at h)) r))
    none is

-- ---- an undo

pub undo-not_closed : (h : List Entry) → undo_verdict h ≡ None → closed_refusal h ≡ None
undo-not_closed h is = (first_of-none (closed_refusal h) (nothing_refusal (standing h) ∷ []) is).0

pub undo-not_empty : (h : List Entry) → undo_verdict h ≡ None → standing h ≡ [] → ⊥
undo-not_empty h is none =
    by (subst (λ edits. nothing_refusal edits ≡ None) none (first_of-none (nothing_refusal (standing h)) [] (first_of-none (closed_refusal h) (nothing_refusal (standing h) ∷ []) is).1).0)
  where
    by : Some refusal.NothingToUndo ≡ None → ⊥
    by e = cc
