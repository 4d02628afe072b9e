use Rattle.std.proofs.Common.{arith}
use Rattle.doc_book.proofs.EndPlace.{length-after_end}
use Rattle.doc_book.proofs.scanning.behind.Goals as goal

pub returns : goal.returns
returns c = let counted = length-after_end c.args.history.now c.args.place c.requires in omega (arith, counted)

pub overflow_sub-result-2 : goal.overflow_sub-result-2
overflow_sub-result-2 c = let counted = length-after_end c.args.history.now c.args.place c.requires in omega (arith, counted)
