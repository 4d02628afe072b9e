use Rattle.std.proofs.Common.{◌+◌}
use Rattle.axis_project.specs.Gather.{half_of, certificate_at}
use Rattle.axis_project.proofs.Gathering.{AreGathered}
use Rattle.axis_project.proofs.gather.gathered.Given as goal

abbrev pub invariant-loop-at : goal.invariant-loop-at
invariant-loop-at l = AreGathered l.keys l.ranks (λ key. half_of l.half (certificate_at l.certificates (l.first + key))) l.at l.list.items
