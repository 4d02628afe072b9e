-- Edits that were accepted one after the other.
use Rattle.std.specs.Prelude.{◌≡◌, List, [], ◌∷◌, None, ⊤}
use Rattle.scene_model.specs.Diagram.{Diagram, empty_diagram}
use Rattle.edit_rules.specs.declared.edits.Edit.{Edit}
use Rattle.edit_rules.specs.Effects.{edited}
use Rattle.edit_rules.specs.Refusals.{refusal_of}
use Rattle.doc_book.specs.Verdicts.{IsFeasibility}

-- the scene refuses the edit for no cause, and the edited scene is feasible on both axes
pub record IsAcceptedBy (scene : Diagram) (e : Edit) : Type 0 where
  pub causes : refusal_of scene e ≡ None
  pub feasible : IsFeasibility (edited e scene) None

-- each of the further edits is accepted by the scene of those before it
abbrev pub AllAccepted : Diagram → List Edit → Type 0
AllAccepted scene [] = ⊤
AllAccepted scene (e ∷ es) = IsAcceptedBy scene e × AllAccepted (edited e scene) es

-- each of the edits is accepted by the scene of those before it
abbrev pub AreAccepted : List Edit → Type 0
AreAccepted edits = AllAccepted empty_diagram edits
