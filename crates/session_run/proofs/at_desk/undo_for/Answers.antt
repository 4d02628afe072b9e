use Rattle.doc_book.specs.Events.{Undoes}
use Rattle.session_run.proofs.OneLine.{entered_kept, undo_replied}
use Rattle.session_run.proofs.at_desk.undo_for.Goals as goal

pub returns-clause-replied : goal.returns-clause-replied
returns-clause-replied g c =
    undo_replied (g.D.Desk.at c.args.desk.now) (g.D.Desk.at c.undo.new.self) c.args.line.now c.undo.result c.entered.result
    c.requires.line c.requires.told c.undo.ensures.told c.undo.ensures.called c.entered.ensures

pub returns-clause-kept : goal.returns-clause-kept
returns-clause-kept g c =
    entered_kept (g.D.Desk.at c.args.desk.now) (g.D.Desk.at c.undo.new.self) (Undoes (g.D.Desk.at c.args.desk.now).who c.args.line.now.number) c.undo.result c.undo.ensures.called
