use Rattle.std.proofs.Common.{sym, ◌∙◌, subst}
use Rattle.scene_model.specs.Diagram.{Diagram}
use Rattle.frame_store.specs.declared.places.Places.{Places}
use Rattle.doc_book.specs.History.{scene_at}
use Rattle.doc_book.specs.Layable.{IsLayable}
use Rattle.doc_book.proofs.book.Book.job.Goals as goal

pub invariant_of-result : goal.invariant_of-result
invariant_of-result c =
    subst (λ (d : Diagram). IsLayable d c.in_ok-places.places) (sym (c.in_ok-scene.ensures ∙ c.scene.ensures))
    (subst (λ (p : Places). IsLayable (scene_at c.args.self.now.history) p) (sym (c.in_ok-places.ensures ∙ c.places.ensures.value)) c.places.ensures.layable)
