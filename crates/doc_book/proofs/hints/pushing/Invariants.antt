use Rattle.std.proofs.Common.{◌≡◌, ◌++◌, drop}
use Rattle.doc_book.specs.Hints.{pushing_from, pushing}
use Rattle.doc_book.proofs.hints.pushing.Given as goal

abbrev pub invariant-loop-number : goal.invariant-loop-number
invariant-loop-number l = l.numbers.items ++ pushing_from l.number (drop l.number l.multipliers) ≡ pushing l.multipliers
