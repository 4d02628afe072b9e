use Rattle.std.proofs.Common.{◌≡◌, drop, map, IfSome}
use Rattle.std.specs.Prelude.{fold}
use Rattle.svg_text.specs.Picture.{hull}
use Rattle.svg_text.specs.Picture.{shapes_span}
use Rattle.svg_text.specs.Points.{IsWide, shape_span}
use Rattle.svg_text.proofs.bounds.shapes_span.Given as goal

abbrev pub invariant-loop-at : goal.invariant-loop-at
invariant-loop-at l = record {
  value : shapes_span l.scene l.axis l.places ≡ fold hull l.so_far (map (shape_span l.scene l.axis l.places) (drop l.at l.scene.shapes));
  wide : IfSome l.so_far IsWide;
}
