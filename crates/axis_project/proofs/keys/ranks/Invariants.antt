use Rattle.axis_project.proofs.KeysAndRanks.{AreRanksOf}
use Rattle.axis_project.proofs.keys.ranks.Given as goal

abbrev pub invariant-loop-at : goal.invariant-loop-at
invariant-loop-at l = AreRanksOf l.keys l.counts.items l.ranks.items l.at l.count
