use Rattle.doc_book.proofs.ByOne.{asked_alone}
use Rattle.doc_book.proofs.desks.AloneDesk.ask.Goals as goal

pub returns-clause-called : goal.returns-clause-called
returns-clause-called c =
    asked_alone _ c.args.name.now c.args.self.now.who c.args.self.now.told c.args.self.now.book.ghost_name _ c.ask.ensures.legal c.ask.ensures.short c.ask.ensures.answer
