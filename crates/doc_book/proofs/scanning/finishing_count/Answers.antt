use Rattle.std.proofs.Common.{length, ap, sym, ◌∙◌}
use Rattle.doc_book.proofs.EndPlace.{after_end-none}
use Rattle.doc_book.proofs.scanning.finishing_count.Goals as goal

pub returns-in-None : goal.returns-in-None
returns-in-None c = ap length (sym (after_end-none c.args.history.now (sym c.end_place.ensures ∙ c.in-None.is)))
