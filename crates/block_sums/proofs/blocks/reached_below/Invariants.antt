use Rattle.block_sums.specs.Blocks.{IsFound}
use Rattle.block_sums.proofs.blocks.reached_below.Given as goal

abbrev pub invariant-loop-variable : goal.invariant-loop-variable
invariant-loop-variable l = IsFound l.legs l.variable l.variables
