use Rattle.std.proofs.Common.{◌≡◌, drop, map, IfSome}
use Rattle.std.specs.Prelude.{fold}
use Rattle.scene_model.specs.declared.items.Group.{Group}
use Rattle.svg_text.specs.Picture.{hull}
use Rattle.svg_text.specs.Steps.{over_groups}
use Rattle.svg_text.specs.Points.{IsWide, edge_span}
use Rattle.svg_text.proofs.bounds.over_groups.Given as goal

abbrev pub invariant-loop-at : goal.invariant-loop-at
invariant-loop-at l = record {
  value : over_groups l.scene l.axis l.places ≡ fold hull l.so_far (map (λ (g : Group). edge_span l.scene l.axis l.places g.name) (drop l.at l.scene.groups));
  wide : IfSome l.so_far IsWide;
}
