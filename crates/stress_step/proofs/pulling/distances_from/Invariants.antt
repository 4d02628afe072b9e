use Rattle.std.proofs.Common.{◌≡◌, map}
use Rattle.std.specs.Prelude.{All}
use Rattle.std.specs.List.{range_with_len}
use Rattle.stress_step.specs.Stress.{distance}
use Rattle.stress_step.specs.Steps.{IsDistance}
use Rattle.stress_step.proofs.pulling.distances_from.Given as goal

abbrev pub invariant-loop-j : goal.invariant-loop-j
invariant-loop-j l = record {
  value : l.row.items ≡ map (distance l.scene l.places l.i) (range_with_len 0 l.j);
  within : All IsDistance l.row.items;
}
