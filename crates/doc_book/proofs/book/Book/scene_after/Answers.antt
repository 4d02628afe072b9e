use Rattle.std.proofs.Common.{◌≡◌, None, ap, sym, ◌∙◌, subst}
use Rattle.scene_model.specs.Diagram.{Diagram}
use Rattle.scene_model.specs.Sound.{IsSound}
use Rattle.edit_rules.specs.Effects.{edited}
use Rattle.edit_rules.specs.Refusals.{refusal_of}
use Rattle.doc_book.specs.Document.{Document}
use Rattle.doc_book.specs.History.{scene_at}
use Rattle.doc_book.proofs.Booking.{edited_scene}
use Rattle.doc_book.proofs.book.Book.scene_after.Goals as goal

pub returns : goal.returns
returns c =
    let same = ap (λ (d : Document). scene_at d.history) c.self.view_is in
    let accepted = subst (λ (d : Diagram). refusal_of d c.args.edit.now ≡ None) (sym same) c.requires in
    let found = edited_scene c.self.inside.history.items c.self.inside.budget c.self.inside.stand c.self.inside.places c.self.inside.settled c.self.inside.hints c.self.invariant (subst IsSound c.scene.ensures c.count-sound.ensures.sound) c.args.edit.now accepted
    c.in_ok-scene.scene c.in_ok-scene.ensures in
    (found.0 ∙ ap (edited c.args.edit.now) same, found.1, found.2)
