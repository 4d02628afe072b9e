use Rattle.std.proofs.Common.{◌≡◌, List, [], ◌∷◌, ◌++◌, None, ap, sym, ◌∙◌, subst, false}
use Rattle.scene_model.specs.Diagram.{Diagram}
use Rattle.scene_model.specs.Sound.{IsSound}
use Rattle.edit_rules.specs.declared.edits.Edit.{Edit}
use Rattle.edit_rules.specs.Effects.{edited, scene_of}
use Rattle.frame_store.specs.Carry.{carried}
use Rattle.doc_book.specs.declared.entries.Act.TheVariants as act
use Rattle.doc_book.specs.declared.entries.Entry.{Entry}
use Rattle.doc_book.specs.Document.{Document}
use Rattle.doc_book.specs.History.{scene_at}
use Rattle.doc_book.specs.Growing.{entry_of}
use Rattle.doc_book.specs.Verdicts.{IsVerdict}
use Rattle.doc_book.proofs.Refusing.{not_closed}
use Rattle.doc_book.specs.Kept.{IsBook}
use Rattle.doc_book.proofs.Booking.{stand_short, IsBook-edit}
use Rattle.doc_book.proofs.book.Book.enter_scene.Goals as goal

pub push_copy-requires-clause-few : goal.push_copy-requires-clause-few
push_copy-requires-clause-few c =
    let h = c.self.inside.history.items in
    let accepted = subst (λ (d : Document). IsVerdict d.history c.args.edit None) (sym c.self.view_is) c.requires.verdict in
    stand_short h c.self.inside.budget c.self.inside.stand c.self.inside.places c.self.inside.settled c.self.inside.hints c.self.invariant (not_closed h c.args.edit accepted)

pub invariant_of-self-2 : goal.invariant_of-self-2
invariant_of-self-2 c =
    let h = c.self.inside.history.items in
    let stand = c.self.inside.stand in
    let accepted = subst (λ (d : Document). IsVerdict d.history c.args.edit None) (sym c.self.view_is) c.requires.verdict in
    let whole : c.args.scene.now ≡ edited c.args.edit (scene_of stand) =
    c.requires.scene ∙ ap (edited c.args.edit) (ap (λ (d : Document). scene_at d.history) (sym c.self.view_is) ∙ sym c.self.invariant.kept.scene_is) in
    let stand_is = c.in_ok-push_copy.ensures.pushed in
    let places_are =
    c.in_ok-places.ensures
    ∙ ap (λ (d : Diagram). carried d c.args.scene.now c.self.inside.places) c.scene-2.ensures
    ∙ ap (λ (d : Diagram). carried (scene_of stand) d c.self.inside.places) whole in
    let items =
    c.add.ensures ∙ ap (λ (es : List Entry). es ++ entry_of c.args.who c.args.line (act.Edit c.args.edit) ∷ []) c.in_ok-reserve.ensures.items in
    subst (λ (es : List Entry). IsBook es c.self.inside.budget c.push_copy.new.stand c.in_ok-places.places false c.self.inside.hints) (sym items)
    (IsBook-edit h c.self.inside.budget stand c.self.inside.places c.self.inside.settled c.self.inside.hints c.args.who c.args.line c.args.edit c.push_copy.new.stand c.in_ok-places.places
    c.self.invariant accepted (subst IsSound c.scene.ensures c.count-sound.ensures.sound) stand_is places_are)
