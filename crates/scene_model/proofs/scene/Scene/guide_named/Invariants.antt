use Rattle.std.proofs.Common.{◌≡◌, ◌+◌, ◌≤◌, drop}
use Rattle.std.specs.Prelude.{position}
use Rattle.std.specs.Option.{option_map}
use Rattle.scene_model.specs.Names.{same_name}
use Rattle.scene_model.specs.Diagram.{guide_names}
use Rattle.scene_model.specs.Variables.{guides_on}
use Rattle.scene_model.proofs.scene.Scene.guide_named.Given as goal

abbrev pub invariant-loop-at : goal.invariant-loop-at
invariant-loop-at l = record {
  found : position (same_name l.name) (guide_names (guides_on l.axis l.self.guides)) ≡ option_map (λ k. l.passed + k) (position (same_name l.name) (guide_names (guides_on l.axis (drop l.at l.self.guides))));
  few : l.passed ≤ l.at;
}
