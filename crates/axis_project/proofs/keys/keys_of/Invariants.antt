use Rattle.axis_project.proofs.KeysAndRanks.{AreKeysOf}
use Rattle.axis_project.proofs.keys.keys_of.Given as goal

abbrev pub invariant-loop-var : goal.invariant-loop-var
invariant-loop-var l = AreKeysOf l.parts l.keys.items l.var l.count
