use Rattle.std.proofs.Common.{◌≡◌, take, map}
use Rattle.std.specs.Prelude.{filter}
use Rattle.std.specs.List.{list_any}
use Rattle.scene_model.specs.declared.items.Shape.{Shape}
use Rattle.scene_model.specs.Names.{same_name}
use Rattle.scene_model.specs.Variables.{high}
use Rattle.edit_rules.specs.Effects.{greatest}
use Rattle.edit_rules.proofs.corners.greatest_high.Given as goal

abbrev pub invariant-loop-at : goal.invariant-loop-at
invariant-loop-at l = l.greatest ≡ greatest (map (high l.axis) (filter (λ (s : Shape). list_any (same_name s.name) l.members) (take l.at l.scene.shapes)))
