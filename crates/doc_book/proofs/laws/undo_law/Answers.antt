use Rattle.std.proofs.Common.{refl, ap}
use Rattle.edit_rules.specs.Effects.{scene_of}
use Rattle.doc_book.specs.declared.entries.Act.TheVariants as act
use Rattle.doc_book.specs.Growing.{entry_of}
use Rattle.doc_book.proofs.Feasible.{standing-taken_back}
use Rattle.doc_book.proofs.laws.undo_law.Goals as goal

pub returns-clause-standing : goal.returns-clause-standing
returns-clause-standing c = λ history edit who line undoer later.
    standing-taken_back history (entry_of who line (act.Edit edit)) (entry_of undoer later act.Undo) edit refl refl

pub returns-clause-scene : goal.returns-clause-scene
returns-clause-scene c = λ history edit who line undoer later.
    ap scene_of (standing-taken_back history (entry_of who line (act.Edit edit)) (entry_of undoer later act.Undo) edit refl refl)
