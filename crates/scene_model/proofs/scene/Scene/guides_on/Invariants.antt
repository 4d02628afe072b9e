use Rattle.std.proofs.Common.{◌≡◌, ◌+◌, ◌≤◌, drop, length}
use Rattle.scene_model.specs.Variables.{guides_on}
use Rattle.scene_model.proofs.scene.Scene.guides_on.Given as goal

abbrev pub invariant-loop-at : goal.invariant-loop-at
invariant-loop-at l = record {
  counted : l.passed + length (guides_on l.axis (drop l.at l.self.guides)) ≡ length (guides_on l.axis l.self.guides);
  few : l.passed ≤ l.at;
}
