use Rattle.std.proofs.Common.{◌≡◌, ◌++◌}
use Rattle.axis_project.specs.Apart.{components, problems}
use Rattle.axis_project.proofs.apart.add_components.Given as goal

abbrev pub invariant-loop-key : goal.invariant-loop-key
invariant-loop-key l = problems l.list.items ≡ problems l.initial.list.items ++ components l.problem l.apart.keys.items l.key
