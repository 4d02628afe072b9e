-- The picture of a finished document is that of its last frame.
use Rattle.std.proofs.Common.{◌≡◌, ℕ, List, Option, Result, ap, ap₂, subst, sym, ◌∙◌}
use Rattle.scene_model.specs.Diagram.{Diagram}
use Rattle.frame_store.specs.declared.places.Places.{Places}
use Rattle.byte_edge.specs.declared.sink.SinkStop.{SinkStop}
use Rattle.doc_book.specs.declared.entries.Entry.{Entry}
use Rattle.doc_book.specs.History.{places_at, scene_at}
use Rattle.listing_text.specs.Putting.{Puts}
use Rattle.svg_text.specs.Picture.{svg_text}
use Rattle.summary_text.specs.LastFrame.{EndsInFrame}
use Rattle.summary_text.proofs.LastFrames.{through_all}
use Rattle.output_text.specs.Output.{picture_text}

pub picture_is : (h : List Entry) → EndsInFrame h → (scene : Diagram) (places : Places) → scene ≡ scene_at h → places ≡ places_at h → svg_text scene places ≡ picture_text h
picture_is h is scene places same_scene same_places =
    ap₂ svg_text same_scene same_places ∙ ap (λ (xs : List Entry). svg_text (scene_at xs) (places_at xs)) (sym (through_all h is))

-- the same text, in other words
pub as_text : (put put' : Option (List ℕ)) (faults faults' : ℕ) (text text' : List ℕ) (answer : Result Unit SinkStop) → text ≡ text' → Puts put put' faults faults' text answer
    → Puts put put' faults faults' text' answer
as_text put put' faults faults' text text' answer same puts = subst (λ (t : List ℕ). Puts put put' faults faults' t answer) same puts
