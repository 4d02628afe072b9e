-- The summary of the run on a made script (the format is this project's own).
use Rattle.std.specs.Prelude.{ℕ, ℤ, pos, List, [], ◌∷◌, codes, decimal}
use Rattle.std.specs.Fmt.{signed_decimal}
use Rattle.std.specs.Option.{option_map_or}
use Rattle.units.specs.declared.geometry.Axis.{Axis}
use Rattle.units.specs.declared.geometry.Axis.TheVariants.{X, Y}
use Rattle.scene_model.specs.Diagram.{Diagram}
use Rattle.frame_store.specs.declared.places.Places.{Places}
use Rattle.doc_book.specs.declared.entries.Entry.{Entry}
use Rattle.doc_book.specs.declared.replies.Reply.{Reply}
use Rattle.doc_book.specs.History.{frame_count}
use Rattle.svg_text.specs.Picture.{joined, length_of, shapes_span}
use Rattle.summary_text.specs.declared.counting.Verdict.TheVariants as verdict
use Rattle.summary_text.specs.Counts.{count_of}
use Rattle.summary_text.specs.LastFrame.{drawn_places, drawn_scene}

-- how long a part of an axis the shapes take, from the least low place to the greatest high place; 0 where there is none
abbrev pub shapes_length : Diagram → Axis → Places → ℤ
shapes_length d axis places = option_map_or length_of (shapes_span d axis places) (pos 0)

-- the six lines with these numbers
unfoldable pub six_lines : ℕ → ℕ → ℕ → ℕ → ℤ → ℤ → List ℕ
six_lines number accepted refused frames width height = joined (codes "made " ∷ decimal number
    ∷ codes "\nlines 344\naccepted " ∷ decimal accepted ∷ codes "\nrefused " ∷ decimal refused ∷ codes "\nframes " ∷ decimal frames
    ∷ codes "\nspan " ∷ signed_decimal width ∷ codes " " ∷ signed_decimal height ∷ codes "\n" ∷ [])

-- the summary of the made script of this number: how many replies are Accepted and how many are refusals, how many
-- frames there are, and how far the shapes reach on X and on Y where the last frame drew them
unfoldable pub summary_text : ℕ → List Entry → List (List Reply) → List ℕ
summary_text number history replies = six_lines number (count_of verdict.Accepted replies) (count_of verdict.Refused replies) (frame_count history)
    (shapes_length (drawn_scene history) X (drawn_places history)) (shapes_length (drawn_scene history) Y (drawn_places history))
