use Rattle.std.proofs.Common.{List, ap, sym, ◌∙◌, subst, false}
use Rattle.doc_book.specs.declared.entries.Entry.{Entry}
use Rattle.doc_book.specs.Document.{Document}
use Rattle.doc_book.specs.History.{end_place}
use Rattle.doc_book.specs.Kept.{IsBook}
use Rattle.doc_book.proofs.Booking.{IsBook-end}
use Rattle.doc_book.proofs.book.Book.enter_end.Goals as goal

pub invariant_of-self-2 : goal.invariant_of-self-2
invariant_of-self-2 c =
    let open_history = ap (λ (d : Document). end_place d.history) c.self.view_is ∙ c.requires in
    subst (λ (items : List Entry). IsBook items c.self.inside.budget c.self.inside.stand c.self.inside.places false c.self.inside.hints) (sym c.in_ok-push.ensures.items)
    (IsBook-end c.self.inside.history.items c.self.inside.budget c.self.inside.stand c.self.inside.places c.self.inside.settled c.self.inside.hints c.self.invariant open_history)
