use Rattle.std.proofs.Common.{sym, ◌∙◌}
use Rattle.doc_book.proofs.EndPlace.{end_place-position}
use Rattle.doc_book.proofs.scanning.end_place.Goals as goal

pub returns-in_err-place : goal.returns-in_err-place
returns-in_err-place c = c.from_residual.ensures ∙ (sym c.in_err-place.was ∙ (c.end_index.ensures.value ∙ sym (end_place-position c.args.history.now)))

pub returns : goal.returns
returns c = sym c.in_ok-place.was ∙ (c.end_index.ensures.value ∙ sym (end_place-position c.args.history.now))
