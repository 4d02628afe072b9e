use Rattle.doc_book.proofs.Drawn.{drawn_fits, places_fit}
use Rattle.doc_book.proofs.drawing.drawn_law.Goals as goal

pub returns : goal.returns
returns c = record { frame = drawn_fits; history = places_fit }
