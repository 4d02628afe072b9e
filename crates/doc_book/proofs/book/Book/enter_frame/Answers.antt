use Rattle.std.proofs.Common.{◌≡◌, List, [], ◌∷◌, ◌++◌, ap, sym, ◌∙◌, subst}
use Rattle.frame_store.specs.declared.frames.Frame.{Frame}
use Rattle.doc_book.specs.declared.entries.Act.TheVariants as act
use Rattle.doc_book.specs.declared.entries.Entry.{Entry}
use Rattle.doc_book.specs.Document.{Document}
use Rattle.doc_book.specs.Frames.{IsFrameOf}
use Rattle.doc_book.specs.Growing.{entry_of}
use Rattle.doc_book.specs.History.{scene_at, places_at}
use Rattle.doc_book.specs.Legal.{HasRoom}
use Rattle.doc_book.specs.Jobs.{SolvedOf}
use Rattle.doc_book.specs.Kept.{IsBook}
use Rattle.doc_book.proofs.Booking.{IsBook-frame}
use Rattle.doc_book.proofs.book.Book.enter_frame.Goals as goal

pub invariant_of-self-2 : goal.invariant_of-self-2
invariant_of-self-2 c =
    let h = c.self.inside.history.items in
    let f = c.solved.inside.frame in
    let same : f ≡ c.args.solved.frame = ap (λ (s : SolvedOf). s.frame) c.solved.view_is in
    let room = subst (λ (d : Document). HasRoom d.history d.budget) (sym c.self.view_is) c.requires.room in
    let legal =
    subst (λ (g : Frame). IsFrameOf (scene_at h) (places_at h) g) (sym same)
    (subst (λ (d : Document). IsFrameOf (scene_at d.history) (places_at d.history) c.args.solved.frame) (sym c.self.view_is) c.requires.legal) in
    let items =
    c.add.ensures
    ∙ ap (λ (es : List Entry). es ++ entry_of c.args.who c.args.line (act.Frame c.into_frame-frame.result) ∷ []) c.reserve.ensures.items
    ∙ ap (λ (g : Frame). h ++ entry_of c.args.who c.args.line (act.Frame g) ∷ []) c.into_frame-frame.ensures in
    subst (λ (es : List Entry). IsBook es c.self.inside.budget c.self.inside.stand c.in-Ok.places c.settled-settled.result c.in-Ok-next_hints.hints) (sym items)
    (subst (λ (g : Frame). IsBook (h ++ entry_of c.args.who c.args.line (act.Frame g) ∷ []) c.self.inside.budget c.self.inside.stand c.in-Ok.places c.settled-settled.result c.in-Ok-next_hints.hints) same
    (IsBook-frame h c.self.inside.budget c.self.inside.stand c.self.inside.places c.self.inside.settled c.self.inside.hints c.args.who c.args.line f c.in-Ok.places c.settled-settled.result c.in-Ok-next_hints.hints c.self.invariant
    room legal c.in-Ok.ensures c.settled-settled.ensures c.in-Ok-next_hints.ensures))
