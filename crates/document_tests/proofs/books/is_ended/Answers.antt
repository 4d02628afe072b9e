use Rattle.std.proofs.Common.{◌≡◌, sym, ◌∙◌, subst, rules}
use Rattle.std.specs.Prelude.{IsSome}
use Rattle.doc_book.proofs.EndPlace.{end_place-position}
use Rattle.document_tests.proofs.books.is_ended.Goals as goal

pub returns : goal.returns
returns c = λ t. subst IsSome (sym (end_place-position c.args.book.now.history)) (search (rules, t))
