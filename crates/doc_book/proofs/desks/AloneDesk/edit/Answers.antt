use Rattle.std.proofs.Common.{refl}
use Rattle.doc_book.specs.Events.{Edits}
use Rattle.doc_book.proofs.ByOne.{entered_alone}
use Rattle.doc_book.proofs.desks.AloneDesk.edit.Goals as goal

pub returns-clause-called : goal.returns-clause-called
returns-clause-called c =
    entered_alone _ _ (Edits c.args.self.now.who c.args.line c.args.edit) c.args.self.now.who c.args.self.now.told c.args.self.now.told c.args.self.now.book.ghost_name _
    c.edit.ensures.legal_before c.edit.ensures.legal c.edit.ensures.short refl c.edit.ensures.answer
