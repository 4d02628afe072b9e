use Rattle.std.proofs.Common.{ap, ◌∙◌, subst}
use Rattle.scene_model.specs.Diagram.{Diagram}
use Rattle.edit_rules.specs.Effects.{scene_of}
use Rattle.frame_store.specs.declared.places.Places.{Places}
use Rattle.doc_book.specs.Document.{Document}
use Rattle.doc_book.specs.History.{scene_at, places_at}
use Rattle.doc_book.specs.Layable.{IsLayable}
use Rattle.doc_book.proofs.Booking.{book_layable}
use Rattle.doc_book.proofs.book.Book.places.Goals as goal

pub returns-clause-layable : goal.returns-clause-layable
returns-clause-layable c =
    let k = c.self.invariant in
    let scene_is = k.kept.scene_is ∙ ap (λ (d : Document). scene_at d.history) c.self.view_is in
    let places_are = k.kept.places_are ∙ ap (λ (d : Document). places_at d.history) c.self.view_is in
    subst (λ (d : Diagram). IsLayable d (places_at c.args.self.now.history)) scene_is
    (subst (λ (p : Places). IsLayable (scene_of c.self.inside.stand) p) places_are (book_layable c.self.inside.history.items c.self.inside.budget c.self.inside.stand c.self.inside.places c.self.inside.settled c.self.inside.hints k))
