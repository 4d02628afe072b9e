use Rattle.std.proofs.Common.{◌≡◌, map, take, drop, ◌++◌}
use Rattle.axis_project.specs.Labels.{renamed}
use Rattle.axis_project.proofs.joining.relabel.Given as goal

abbrev pub invariant-loop-at : goal.invariant-loop-at
invariant-loop-at l = l.labels.items ≡ map (renamed l.from l.to) (take l.at l.initial.labels.items) ++ drop l.at l.initial.labels.items
