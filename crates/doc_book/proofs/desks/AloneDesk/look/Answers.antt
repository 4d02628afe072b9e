use Rattle.doc_book.proofs.ByOne.{looked_alone}
use Rattle.doc_book.proofs.desks.AloneDesk.look.Goals as goal

pub returns-clause-called : goal.returns-clause-called
returns-clause-called c =
    looked_alone _ c.args.self.now.who c.args.self.now.told _ c.args.self.now.book.ghost_name _ c.look-look.ensures.legal c.look-look.ensures.short c.look-look.ensures.answer
