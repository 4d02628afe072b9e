use Rattle.doc_book.proofs.ByOne.{published_alone}
use Rattle.doc_book.proofs.desks.AloneDesk.publish.Goals as goal

pub returns-clause-called : goal.returns-clause-called
returns-clause-called c =
    published_alone _ _ c.args.self.now.who c.args.line c.args.solved c.args.self.now.told _ c.args.self.now.book.ghost_name _
    c.publish-answer.ensures.legal_before c.publish-answer.ensures.legal c.publish-answer.ensures.short c.publish-answer.ensures.answer
