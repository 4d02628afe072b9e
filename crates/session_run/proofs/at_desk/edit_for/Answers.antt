use Rattle.doc_book.specs.Events.{Edits}
use Rattle.session_run.proofs.OneLine.{entered_kept, edit_replied}
use Rattle.session_run.proofs.at_desk.edit_for.Goals as goal

pub returns-clause-replied : goal.returns-clause-replied
returns-clause-replied g c =
    edit_replied (g.D.Desk.at c.args.desk.now) (g.D.Desk.at c.edit.new.self) c.args.line.now c.args.edit c.edit.result c.entered.result
    c.requires.line c.requires.told c.edit.ensures.told c.edit.ensures.called c.entered.ensures

pub returns-clause-kept : goal.returns-clause-kept
returns-clause-kept g c =
    entered_kept (g.D.Desk.at c.args.desk.now) (g.D.Desk.at c.edit.new.self) (Edits (g.D.Desk.at c.args.desk.now).who c.args.line.now.number c.args.edit) c.edit.result c.edit.ensures.called
