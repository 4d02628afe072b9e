use Rattle.std.proofs.Common.{◌≡◌, map, take}
use Rattle.axis_project.specs.Apart.{renumbered_by}
use Rattle.axis_project.proofs.keys.renumbered.Given as goal

abbrev pub invariant-loop-at : goal.invariant-loop-at
invariant-loop-at l = l.list.items ≡ map (renumbered_by l.ranks) (take l.at l.seps)
