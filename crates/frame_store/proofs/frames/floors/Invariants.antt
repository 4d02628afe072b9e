use Rattle.std.proofs.Common.{◌≡◌, map, take}
use Rattle.frac128.specs.Fraction.{floor_of}
use Rattle.frame_store.proofs.frames.floors.Given as goal

abbrev pub invariant-loop-fraction : goal.invariant-loop-fraction
invariant-loop-fraction l = l.numbers.items ≡ map floor_of (take l.fraction-index l.fractions)
