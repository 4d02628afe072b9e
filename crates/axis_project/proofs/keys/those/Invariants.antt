use Rattle.std.proofs.Common.{◌≡◌, ◌++◌, drop}
use Rattle.axis_project.specs.Components.{those}
use Rattle.axis_project.proofs.keys.those.Given as goal

abbrev pub invariant-loop-at : goal.invariant-loop-at
invariant-loop-at g l = l.list.items ++ those l.key (drop l.at l.keys) (drop l.at l.items) ≡ those l.key l.keys l.items
