-- Scenes and places of which a frame can be made.
use Rattle.std.specs.Prelude.{◌≡◌, length}
use Rattle.units.specs.declared.geometry.Axis.{Axis}
use Rattle.units.specs.declared.geometry.Axis.TheVariants.{X, Y}
use Rattle.scene_model.specs.Diagram.{Diagram}
use Rattle.scene_model.specs.Variables.{variables}
use Rattle.frame_store.specs.declared.places.Places.{Places}
use Rattle.sep_gen.specs.Feasibility.{IsFeasibleAxis}
use Rattle.doc_book.specs.Kept.{IsUncrowded}

-- each variable has a place, no axis has more separations than it may, and both are feasible
pub record IsLayable (scene : Diagram) (places : Places) : Type 0 where
  pub on_x : length places.x ≡ length (variables scene X)
  pub on_y : length places.y ≡ length (variables scene Y)
  pub uncrowded : IsUncrowded scene
  pub feasible : (axis : Axis) → IsFeasibleAxis scene axis
