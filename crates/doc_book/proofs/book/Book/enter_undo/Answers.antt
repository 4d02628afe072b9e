use Rattle.std.proofs.Common.{◌≡◌, List, [], ◌∷◌, ◌++◌, None, ap, sym, ◌∙◌, subst, false}
use Rattle.doc_book.specs.declared.entries.Act.TheVariants as act
use Rattle.doc_book.specs.declared.entries.Entry.{Entry}
use Rattle.doc_book.specs.Document.{Document}
use Rattle.doc_book.specs.Growing.{entry_of}
use Rattle.doc_book.specs.Verdicts.{undo_verdict}
use Rattle.doc_book.specs.Kept.{IsBook}
use Rattle.doc_book.proofs.Booking.{IsBook-undo}
use Rattle.doc_book.proofs.book.Book.enter_undo.Goals as goal

pub invariant_of-self-2 : goal.invariant_of-self-2
invariant_of-self-2 c =
    let h = c.self.inside.history.items in
    let stand = c.self.inside.stand in
    let accepted = subst (λ (d : Document). undo_verdict d.history ≡ None) (sym c.self.view_is) c.requires in
    let stand_is = c.in_ok-_stood.ensures.undone in
    let places_are = c.in_ok-places.ensures in
    let items = c.add.ensures ∙ ap (λ (es : List Entry). es ++ entry_of c.args.who c.args.line act.Undo ∷ []) c.in_ok-reserve.ensures.items in
    subst (λ (es : List Entry). IsBook es c.self.inside.budget c.undo.new.self c.in_ok-places.places false c.self.inside.hints) (sym items)
    (IsBook-undo h c.self.inside.budget stand c.self.inside.places c.self.inside.settled c.self.inside.hints c.args.who c.args.line c.undo.new.self c.in_ok-places.places c.self.invariant accepted
    stand_is places_are)
