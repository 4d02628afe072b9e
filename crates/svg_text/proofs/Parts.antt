-- The parts of a picture, put together.
use Rattle.std.proofs.Common.{◌≡◌, ℕ, List, [], ◌++◌, codes, append_assoc}
use Rattle.std.proofs.lemmas.List.{append-nil}
use Rattle.units.specs.declared.geometry.Axis.TheVariants.{X, Y}
use Rattle.scene_model.specs.Diagram.{Diagram}
use Rattle.frame_store.specs.declared.places.Places.{Places}
use Rattle.svg_text.specs.Picture.{groups_text, guides_text, head_text, links_text, pages_text, shapes_text, shown, svg_text}
use Rattle.svg_text.specs.Steps.{picture_text}

-- texts one behind the other, however they are put together
regrouped : (head a b c d e last : List ℕ) → head ++ ((a ++ (b ++ (c ++ (d ++ (e ++ []))))) ++ last) ≡ head ++ a ++ b ++ c ++ d ++ e ++ last
regrouped head a b c d e last = simp (append_assoc, append-nil)

-- the picture is the text of its parts
pub picture_parts : (d : Diagram) (places : Places) → picture_text d places (shown d X places) (shown d Y places) ≡ svg_text d places
unfolding svg_text
picture_parts d places =
    let x = shown d X places in
    let y = shown d Y places in
    regrouped (head_text x y) (pages_text d places) (groups_text d places) (guides_text d places x y) (links_text d places) (shapes_text d places) (codes "</svg>\n")
