use Rattle.std.proofs.Common.{sym, subst}
use Rattle.doc_book.specs.Events.{Edits}
use Rattle.doc_book.specs.Jobs.{IsJobOf, JobOf}
use Rattle.doc_book.proofs.Jobs.{looked_job, entered_job}
use Rattle.document_tests.proofs.books.lay_out_late.Goals as goal

pub publish-requires : goal.publish-requires
publish-requires g c =
    let job = c.in-Job.job in
    let new = c.edit-entered.new.self in
    let looked = looked_job c.args.book.now job c.in-Job.ensures.answer in
    let behind = entered_job c.args.book.now new (Edits 1 3 c.args.between) c.edit-entered.result job.front job.scene job.places c.edit-entered.ensures.answer looked in
    subst (λ (j : JobOf). IsJobOf new.history new.budget j.front j.scene j.places) (sym c.in-Ok.ensures) behind
