-- What a book keeps beside its history.
use Rattle.std.specs.Prelude.{◌≡◌, ◌↔◌, ℕ, ◌+◌, ◌≤◌, List, [], ◌∷◌, length, Bool, IsTrue, MatchOption, ⊤}
use Rattle.units.specs.declared.geometry.Axis.{Axis}
use Rattle.units.specs.declared.geometry.Axis.TheVariants.{X, Y}
use Rattle.scene_model.specs.Diagram.{Diagram, empty_diagram}
use Rattle.scene_model.specs.Separations.{separations}
use Rattle.scene_model.specs.Sound.{IsSound}
use Rattle.scene_model.specs.Variables.{variables}
use Rattle.edit_rules.specs.declared.edits.Edit.{Edit}
use Rattle.edit_rules.specs.Effects.{edited, scene_of}
use Rattle.edit_rules.specs.Refusals.{most_separations}
use Rattle.frame_store.specs.declared.places.Places.{Places}
use Rattle.doc_book.specs.declared.entries.Entry.{Entry}
use Rattle.doc_book.specs.declared.hints.Hints.{Hints}
use Rattle.doc_book.specs.Hints.{hints_at}
use Rattle.doc_book.specs.History.{standing, scene_at, places_at, end_place, frame_count, after_end, IsSettled}
use Rattle.doc_book.specs.Legal.{most_frames, most_finishing, IsLegal}
use Rattle.doc_book.specs.Verdicts.{most_entries}

-- no axis has more separations than it may
abbrev pub IsUncrowded : Diagram → Type 0
IsUncrowded scene = (axis : Axis) → length (separations scene axis) ≤ most_separations

-- the scene of those before each of the edits is well formed, from a scene on
abbrev pub AllSound : Diagram → List Edit → Type 0
AllSound scene [] = ⊤
AllSound scene (e ∷ es) = IsSound scene × AllSound (edited e scene) es

-- a history that was not ended has at most 20,000 entries and its frames, and no more frames than its budget
pub record IsOpenCount (h : List Entry) (budget : ℕ) : Type 0 where
  pub frames : frame_count h ≤ budget
  pub entries : length h ≤ most_entries + frame_count h

-- one that was ended has End besides, and no more frames than its budget and those after End
pub record IsEndedCount (h : List Entry) (budget : ℕ) : Type 0 where
  pub frames : frame_count h ≤ budget + length (after_end h)
  pub entries : length h ≤ most_entries + frame_count h + 1
  pub finishing : length (after_end h) ≤ most_finishing

-- the history is legal, the scene and places are those that it leads to, and its counts are bounded. That the scene is
-- feasible on both axes follows from the history
pub record IsKept (h : List Entry) (budget : ℕ) (scene : Diagram) (places : Places) (settled : Bool) : Type 0 where
  pub legal : IsLegal h budget
  pub scene_is : scene ≡ scene_at h
  pub places_are : places ≡ places_at h
  pub on_x : length places.x ≡ length (variables scene X)
  pub on_y : length places.y ≡ length (variables scene Y)
  pub settled_is : IsTrue settled ↔ IsSettled h
  pub budget_small : budget ≤ most_frames
  pub counts : MatchOption (end_place h) (IsOpenCount h budget) (λ _. IsEndedCount h budget)

-- the stand is that of the history, whose scene and places are kept beside it, and so are the hints. That no axis has more
-- separations than it may follows from what the stand's scenes were
pub record IsBook (h : List Entry) (budget : ℕ) (stand : List Edit) (places : Places) (settled : Bool) (hints : Hints) : Type 0 where
  pub stand_is : stand ≡ standing h
  pub sound : AllSound empty_diagram stand
  pub kept : IsKept h budget (scene_of stand) places settled
  pub hints_are : hints ≡ hints_at h
