use Rattle.std.proofs.Common.{◌≡◌, map}
use Rattle.std.specs.List.{range_with_len}
use Rattle.units.specs.declared.geometry.Axis.TheVariants.{X, Y}
use Rattle.stress_step.specs.Pulls.{pull}
use Rattle.stress_step.proofs.candidates.all_pulls.Given as goal

abbrev pub invariant-loop-shape : goal.invariant-loop-shape
invariant-loop-shape l = record {
  x : l.x.items ≡ map (pull l.scene X l.places) (range_with_len 0 l.shape);
  y : l.y.items ≡ map (pull l.scene Y l.places) (range_with_len 0 l.shape);
}
