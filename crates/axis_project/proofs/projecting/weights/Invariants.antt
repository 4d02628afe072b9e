use Rattle.std.proofs.Common.{◌≡◌, take}
use Rattle.axis_project.specs.Projection.{weights}
use Rattle.axis_project.proofs.projecting.weights.Given as goal

abbrev pub invariant-loop-var : goal.invariant-loop-var
invariant-loop-var l = l.list.items ≡ take l.var (weights l.scene l.axis)
