-- The answer to an edit, and to an undo.
use Rattle.std.specs.Prelude.{◌≡◌, ℕ, List, [], ◌∷◌, length, nat_le, if◌then◌else◌, Option, Some, None, MatchOption}
use Rattle.std.specs.Option.{option_map}
use Rattle.units.specs.declared.geometry.Axis.TheVariants.{X, Y}
use Rattle.scene_model.specs.Diagram.{Diagram}
use Rattle.scene_model.specs.Separations.{separations}
use Rattle.cycle_test.specs.Cycle.{IsPositiveCycle}
use Rattle.sep_gen.specs.Feasibility.{IsFeasibleAxis}
use Rattle.edit_rules.specs.declared.edits.Edit.{Edit}
use Rattle.edit_rules.specs.declared.refusals.Refusal.{Refusal}
use Rattle.edit_rules.specs.declared.refusals.Refusal.TheVariants as refusal
use Rattle.edit_rules.specs.declared.refusals.Counted.TheVariants as counted
use Rattle.edit_rules.specs.Effects.{edited}
use Rattle.edit_rules.specs.Refusals.{refusal_of, first_of}
use Rattle.doc_book.specs.declared.entries.Entry.{Entry}
use Rattle.doc_book.specs.History.{end_place, standing, scene_at}

-- the most entries with which an edit or undo is still entered
abbrev pub most_entries : ℕ
most_entries = 20000

-- the document was ended
abbrev pub ended_refusal : List Entry → Option Refusal
ended_refusal h = option_map refusal.Ended (end_place h)

-- the history is full
abbrev pub entries_refusal : List Entry → Option Refusal
entries_refusal h = if nat_le most_entries (length h) then Some (refusal.Limit counted.Entries most_entries) else None

-- why a history takes neither edits nor undos: the document was ended, or the history is full
abbrev pub closed_refusal : List Entry → Option Refusal
closed_refusal h = first_of (ended_refusal h ∷ entries_refusal h ∷ [])

-- what feasibility says of an edited scene: nothing, where neither axis has a positive cycle; else a positive cycle of the
-- first axis that has one, whichever, by the numbers that the separations have in the edited scene
abbrev pub IsFeasibility : Diagram → Option Refusal → Type 0
IsFeasibility scene None = IsFeasibleAxis scene X × IsFeasibleAxis scene Y
IsFeasibility scene (Some (refusal.Infeasible X walk)) = IsPositiveCycle (separations scene X) walk
IsFeasibility scene (Some (refusal.Infeasible Y walk)) = IsFeasibleAxis scene X × IsPositiveCycle (separations scene Y) walk
IsFeasibility scene (Some _) = ⊥

-- the verdict of a scene on an edit, None where it accepts it: the first cause for which it refuses the edit, or else what
-- feasibility says of the edited scene
abbrev pub IsSceneVerdict : Diagram → Edit → Option Refusal → Type 0
IsSceneVerdict scene e v = MatchOption (refusal_of scene e) (IsFeasibility (edited e scene) v) (λ r. v ≡ Some r)

-- the verdict of a history on an edit: that it is closed, or else the verdict of its scene
abbrev pub IsVerdict : List Entry → Edit → Option Refusal → Type 0
IsVerdict h e v = MatchOption (closed_refusal h) (IsSceneVerdict (scene_at h) e v) (λ r. v ≡ Some r)

-- nothing is left to undo
abbrev pub nothing_refusal : List Edit → Option Refusal
nothing_refusal [] = Some refusal.NothingToUndo
nothing_refusal (e ∷ es) = None

-- the verdict of a history on an undo: that it is closed, or else that no edit stands, or None where it is accepted
abbrev pub undo_verdict : List Entry → Option Refusal
undo_verdict h = first_of (closed_refusal h ∷ nothing_refusal (standing h) ∷ [])
