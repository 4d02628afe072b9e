-- The frame that may follow a scene and its places.
use Rattle.std.specs.Prelude.{◌≡◌}
use Rattle.units.specs.declared.geometry.Axis.TheVariants.{X, Y}
use Rattle.scene_model.specs.Diagram.{Diagram}
use Rattle.frame_store.specs.declared.places.Places.{Places}
use Rattle.frame_store.specs.declared.frames.Frame.{Frame}
use Rattle.stress_step.specs.Proposal.{proposal}
use Rattle.axis_project.specs.Projection.{IsShown}

-- a frame that may follow: its desired places are the proposal, and on each axis its certificate shows their
-- projection in the scene
pub record IsFrameOf (scene : Diagram) (places : Places) (frame : Frame) : Type 0 where
  pub proposed : frame.desired ≡ proposal scene places
  pub on_x : IsShown scene X frame.desired.x frame.x
  pub on_y : IsShown scene Y frame.desired.y frame.y
