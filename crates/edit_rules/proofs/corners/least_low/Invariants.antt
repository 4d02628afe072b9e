use Rattle.std.proofs.Common.{◌≡◌, take, map}
use Rattle.std.specs.Prelude.{filter}
use Rattle.std.specs.List.{list_any}
use Rattle.scene_model.specs.declared.items.Shape.{Shape}
use Rattle.scene_model.specs.Names.{same_name}
use Rattle.scene_model.specs.Variables.{low}
use Rattle.edit_rules.specs.Effects.{least}
use Rattle.edit_rules.proofs.corners.least_low.Given as goal

abbrev pub invariant-loop-at : goal.invariant-loop-at
invariant-loop-at l = l.least ≡ least (map (low l.axis) (filter (λ (s : Shape). list_any (same_name s.name) l.members) (take l.at l.scene.shapes)))
