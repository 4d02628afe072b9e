use Rattle.std.proofs.Common.{◌-◌, length}
use Rattle.doc_book.specs.History.{after_end}
use Rattle.doc_book.specs.Legal.{most_finishing}
use Rattle.editor_run.proofs.Settling.{FinishesFrom}
use Rattle.editor_run.proofs.finishing.finish_all.Given as goal

abbrev pub invariant-loop : goal.invariant-loop
invariant-loop g l = FinishesFrom l.initial.book l.book

abbrev pub decreases-loop : goal.decreases-loop
decreases-loop g l = most_finishing - length (after_end l.book.history)
