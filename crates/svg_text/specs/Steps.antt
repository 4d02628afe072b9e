-- What the steps of writing a picture know: its bounds sort by sort, and its text part by part.
use Rattle.std.specs.Prelude.{ℕ, List, [], ◌∷◌, ◌++◌, codes, fold, Option}
use Rattle.std.specs.List.{flat_map}
use Rattle.units.specs.declared.geometry.Axis.{Axis}
use Rattle.scene_model.specs.Diagram.{Diagram}
use Rattle.frame_store.specs.declared.places.Places.{Places}
use Rattle.svg_text.specs.declared.picture.Part.{Part}
use Rattle.svg_text.specs.declared.picture.Part.TheVariants as part
use Rattle.svg_text.specs.declared.spans.Span.{Span}
use Rattle.svg_text.specs.Picture.{group_spans, groups_text, guides_text, head_text, hull, links_text, page_spans, pages_text, shapes_span, shapes_text}

-- the least span that has the groups too, then the page too
abbrev pub over_groups : Diagram → Axis → Places → Option Span
over_groups d axis places = fold hull (shapes_span d axis places) (group_spans d axis places)

abbrev pub over_page : Diagram → Axis → Places → Option Span
over_page d axis places = fold hull (over_groups d axis places) (page_spans d axis places)

-- a part of a picture that shows these parts of the axes
abbrev pub part_text : Diagram → Places → Span → Span → Part → List ℕ
part_text d places x y part.Page = pages_text d places
part_text d places x y part.Groups = groups_text d places
part_text d places x y part.Guides = guides_text d places x y
part_text d places x y part.Links = links_text d places
part_text d places x y part.Shapes = shapes_text d places

-- all parts, in the order in which they are drawn
abbrev pub all_parts : List Part
all_parts = part.Page ∷ part.Groups ∷ part.Guides ∷ part.Links ∷ part.Shapes ∷ []

abbrev pub parts_text : Diagram → Places → Span → Span → List ℕ
parts_text d places x y = flat_map (part_text d places x y) all_parts

-- what stands behind the first line
abbrev pub below_head : Diagram → Places → Span → Span → List ℕ
below_head d places x y = parts_text d places x y ++ codes "</svg>\n"

abbrev pub picture_text : Diagram → Places → Span → Span → List ℕ
picture_text d places x y = head_text x y ++ below_head d places x y
