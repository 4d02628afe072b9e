use Rattle.std.proofs.Common.{◌≡◌, drop, slice_get}
use Rattle.scene_model.specs.Variables.{guides_on}
use Rattle.scene_model.proofs.scene.Scene.guide_on.Given as goal

abbrev pub invariant-loop-at : goal.invariant-loop-at
invariant-loop-at l = slice_get (guides_on l.axis (drop l.at l.self.guides)) l.left ≡ slice_get (guides_on l.axis l.self.guides) l.number
