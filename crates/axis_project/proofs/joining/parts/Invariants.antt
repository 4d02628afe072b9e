use Rattle.axis_project.specs.Labels.{AreLabels}
use Rattle.axis_project.proofs.joining.parts.Given as goal

abbrev pub invariant-loop-at : goal.invariant-loop-at
invariant-loop-at l = AreLabels l.n l.seps l.at l.labels.items
