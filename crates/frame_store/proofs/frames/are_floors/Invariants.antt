use Rattle.std.proofs.Common.{◌≡◌, map, take}
use Rattle.frac128.specs.Fraction.{floor_of}
use Rattle.frame_store.proofs.frames.are_floors.Given as goal

abbrev pub invariant-loop-index : goal.invariant-loop-index
invariant-loop-index l = take l.index (map floor_of l.fractions) ≡ take l.index l.numbers
