use Rattle.std.proofs.Common.{refl}
use Rattle.doc_book.specs.Events.{Undoes}
use Rattle.doc_book.proofs.ByOne.{entered_alone}
use Rattle.doc_book.proofs.desks.AloneDesk.undo.Goals as goal

pub returns-clause-called : goal.returns-clause-called
returns-clause-called c =
    entered_alone _ _ (Undoes c.args.self.now.who c.args.line) c.args.self.now.who c.args.self.now.told c.args.self.now.told c.args.self.now.book.ghost_name _
    c.undo.ensures.legal_before c.undo.ensures.legal c.undo.ensures.short refl c.undo.ensures.answer
