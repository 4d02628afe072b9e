use Rattle.turn_table.specs.States.{IsIdleAt}
use Rattle.run_tests.proofs.turns.add_rounds.Given as goal

abbrev pub invariant-loop : goal.invariant-loop
invariant-loop g l = IsIdleAt l.fn.table l.seat
