use Rattle.std.proofs.Common.{ap, sym, ◌∙◌, subst, Ok, arith}
use Rattle.doc_book.specs.Document.{Document}
use Rattle.doc_book.specs.Finished.{IsFinished}
use Rattle.editor_run.proofs.Settling.{FinishesFrom-start, FinishesFrom-once, FinishesFrom-done, longer_behind}
use Rattle.editor_run.proofs.finishing.finish_all.Goals as goal

pub loop-init : goal.loop-init
loop-init g c = FinishesFrom-start c.args.book.now c.requires.ended c.requires.last

pub loop-smaller : goal.loop-smaller
loop-smaller g c =
    let grows = c.finish_once.ensures.more (c.in_ok-finish_once.was ∙ ap Ok c.if-branch.true) in
    let longer = longer_behind c.args.book.now c.loop.book c.finish_once.new.book c.loop.invariant grows in
    omega (arith, longer, grows.room)

pub loop-preserved : goal.loop-preserved
loop-preserved g c = FinishesFrom-once c.args.book.now c.loop.book c.finish_once.new.book c.loop.invariant (c.finish_once.ensures.more (c.in_ok-finish_once.was ∙ ap Ok c.if-branch.true))

pub returns-clause-finished : goal.returns-clause-finished
returns-clause-finished g c =
    let done = c.finish_once.ensures.done (c.in_ok-finish_once.was ∙ ap Ok c.if-branch.false) in
    subst (λ (d : Document). IsFinished d.history) (sym done.same) (FinishesFrom-done c.args.book.now c.loop.book c.loop.invariant done.why)
