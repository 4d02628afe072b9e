use Rattle.std.proofs.Common.{◌≡◌, take}
use Rattle.axis_project.specs.Components.{separation_keys}
use Rattle.axis_project.proofs.keys.separation_keys.Given as goal

abbrev pub invariant-loop-at : goal.invariant-loop-at
invariant-loop-at l = l.list.items ≡ separation_keys l.keys (take l.at l.seps)
