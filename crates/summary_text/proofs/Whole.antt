-- The six lines of a document whose last entry is a frame are its summary.
use Rattle.std.proofs.Common.{◌≡◌, ℕ, List, ap, sym, ◌∙◌}
use Rattle.std.specs.Prelude.{ℤ}
use Rattle.units.specs.declared.geometry.Axis.TheVariants.{X, Y}
use Rattle.units.specs.declared.geometry.Axis.{Axis}
use Rattle.doc_book.specs.declared.entries.Entry.{Entry}
use Rattle.doc_book.specs.declared.replies.Reply.{Reply}
use Rattle.doc_book.specs.History.{frame_count, places_at, scene_at}
use Rattle.summary_text.specs.declared.counting.Verdict.TheVariants as verdict
use Rattle.summary_text.specs.Counts.{count_of}
use Rattle.summary_text.specs.LastFrame.{EndsInFrame, drawn_places, drawn_scene}
use Rattle.summary_text.specs.Summary.{shapes_length, six_lines, summary_text}
use Rattle.summary_text.proofs.LastFrames.{through_all}

drawn-length : (h : List Entry) → EndsInFrame h → (axis : Axis) → shapes_length (scene_at h) axis (places_at h) ≡ shapes_length (drawn_scene h) axis (drawn_places h)
drawn-length h is axis = ap (λ (xs : List Entry). shapes_length (scene_at xs) axis (places_at xs)) (sym (through_all h is))

pub summary_is : (number : ℕ) (h : List Entry) (replies : List (List Reply)) → EndsInFrame h → (accepted refused frames : ℕ) (width height : ℤ)
    → accepted ≡ count_of verdict.Accepted replies → refused ≡ count_of verdict.Refused replies → frames ≡ frame_count h
    → width ≡ shapes_length (scene_at h) X (places_at h) → height ≡ shapes_length (scene_at h) Y (places_at h)
    → six_lines number accepted refused frames width height ≡ summary_text number h replies
unfolding summary_text
summary_is number h replies is accepted refused frames width height a r f w t =
    let on_x = w ∙ drawn-length h is X in
    let on_y = t ∙ drawn-length h is Y in
    λ i. six_lines number (a i) (r i) (f i) (on_x i) (on_y i)
