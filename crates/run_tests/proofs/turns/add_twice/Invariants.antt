use Rattle.std.proofs.Common.{◌≡◌, true, Some}
use Rattle.run_tests.proofs.turns.add_twice.Given as goal

abbrev pub invariant-loop : goal.invariant-loop
invariant-loop g l = (l.seat.table ≡ Some l.fn.table) × (l.seat.in_turn ≡ true) × (l.turn.marks.items ≡ l.seat.seen) × (l.turn.limit ≡ l.fn.table.terms)
