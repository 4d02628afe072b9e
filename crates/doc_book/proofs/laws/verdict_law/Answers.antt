use Rattle.doc_book.proofs.Refusing.{never_both}
use Rattle.doc_book.proofs.laws.verdict_law.Goals as goal

pub returns : goal.returns
returns c = never_both
