use Rattle.std.proofs.Common.{◌≡◌, Some}
use Rattle.run_tests.proofs.shared_books.crowd.call_often.Given as goal

abbrev pub invariant-loop-number : goal.invariant-loop-number
invariant-loop-number g l = l.pass.table ≡ Some l.fn.book
