use Rattle.cycle_test.proofs.Sweeps.{IsSwept}
use Rattle.cycle_test.proofs.sweep.sweep.Given as goal

abbrev pub invariant-loop-sep : goal.invariant-loop-sep
invariant-loop-sep l = IsSwept l.seps l.initial.reaches.items l.reaches.items l.raised l.sep
