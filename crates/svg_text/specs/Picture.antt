-- The text of a picture. The form is this project's own; the elements and attributes are those of SVG 1.1. Numbers are
-- whole diagram units, in decimal digits.
use Rattle.std.specs.Prelude.{ℕ, ℤ, pos, ◌+ℤ◌, ◌-ℤ◌, List, [], ◌∷◌, ◌++◌, codes, map, fold, Option, Some, None, slice_get, unwrap_or}
use Rattle.std.specs.Fmt.{signed_decimal}
use Rattle.std.specs.Int.{int_max, int_min}
use Rattle.std.specs.List.{flat_map}
use Rattle.std.specs.Option.{option_map_or}
use Rattle.units.specs.declared.geometry.Axis.{Axis}
use Rattle.units.specs.declared.geometry.Axis.TheVariants.{X, Y}
use Rattle.units.specs.declared.geometry.Pt.{Pt}
use Rattle.scene_model.specs.declared.items.Form.{Form}
use Rattle.scene_model.specs.declared.items.Form.TheVariants as form
use Rattle.scene_model.specs.declared.items.Group.{Group}
use Rattle.scene_model.specs.declared.items.Guide.{Guide}
use Rattle.scene_model.specs.declared.items.Link.{Link}
use Rattle.scene_model.specs.declared.items.Page.{Page}
use Rattle.scene_model.specs.declared.items.Shape.{Shape}
use Rattle.scene_model.specs.declared.variables.VariableName.TheVariants.{OfItem}
use Rattle.scene_model.specs.Diagram.{Diagram}
use Rattle.scene_model.specs.Names.{NameOf}
use Rattle.scene_model.specs.Variables.{half}
use Rattle.frame_store.specs.declared.places.Places.{Places}
use Rattle.svg_text.specs.declared.spans.Span.{Span}
use Rattle.svg_text.specs.Points.{edge_span, middle_of, place_of, shape_named, shape_span}

-- ---- bounds

-- the least span that has both, where there is a first
abbrev pub hull : Option Span → Span → Option Span
hull None s = Some s
hull (Some t) s = Some (record { low = int_min t.low s.low; high = int_max t.high s.high })

-- the parts of an axis that shapes, groups and page take
abbrev pub shape_spans : Diagram → Axis → Places → List Span
shape_spans d axis places = map (shape_span d axis places) d.shapes

-- the least span that has all shapes
abbrev pub shapes_span : Diagram → Axis → Places → Option Span
shapes_span d axis places = fold hull None (shape_spans d axis places)

abbrev pub group_spans : Diagram → Axis → Places → List Span
group_spans d axis places = map (λ (g : Group). edge_span d axis places g.name) d.groups

abbrev pub page_spans : Diagram → Axis → Places → List Span
page_spans d axis places = option_map_or (λ (p : Page). edge_span d axis places p.name ∷ []) (slice_get d.pages 0) []

abbrev pub taken : Diagram → Axis → Places → List Span
taken d axis places = shape_spans d axis places ++ (group_spans d axis places ++ page_spans d axis places)

-- from the least low to the greatest high place of them; 0 for both where there is none
abbrev pub bounds : Diagram → Axis → Places → Span
bounds d axis places = unwrap_or (fold hull None (taken d axis places)) (record { low = pos 0; high = pos 0 })

-- wider by 10 at both ends
abbrev pub widened : Span → Span
widened s = record { low = s.low -ℤ pos 10; high = s.high +ℤ pos 10 }

-- the part of an axis that the picture shows
unfoldable pub shown : Diagram → Axis → Places → Span
shown d axis places = widened (bounds d axis places)

-- ---- elements

-- how long a span is
abbrev pub length_of : Span → ℤ
length_of s = s.high -ℤ s.low

-- texts, one behind the other
abbrev pub joined : List (List ℕ) → List ℕ
joined texts = flat_map (λ (text : List ℕ). text) texts

-- the first line of a picture that shows these parts of the axes
unfoldable pub head_text : Span → Span → List ℕ
head_text x y = joined (codes "<svg xmlns=\"http://www.w3.org/2000/svg\" viewBox=\""
    ∷ signed_decimal x.low ∷ codes " " ∷ signed_decimal y.low ∷ codes " " ∷ signed_decimal (length_of x) ∷ codes " " ∷ signed_decimal (length_of y)
    ∷ codes "\">\n" ∷ [])

-- a rectangle over these parts of the axes: its class, fill and stroke are words
unfoldable pub rect_text : List ℕ → Span → Span → List ℕ → List ℕ → List ℕ
rect_text class x y fill stroke = joined (codes "<rect class=\"" ∷ class
    ∷ codes "\" x=\"" ∷ signed_decimal x.low ∷ codes "\" y=\"" ∷ signed_decimal y.low
    ∷ codes "\" width=\"" ∷ signed_decimal (length_of x) ∷ codes "\" height=\"" ∷ signed_decimal (length_of y)
    ∷ codes "\" fill=\"" ∷ fill ∷ codes "\" stroke=\"" ∷ stroke ∷ codes "\"/>\n" ∷ [])

-- a line from one point to another
unfoldable pub line_text : List ℕ → Pt → Pt → List ℕ → List ℕ
line_text class from to stroke = joined (codes "<line class=\"" ∷ class
    ∷ codes "\" x1=\"" ∷ signed_decimal from.x ∷ codes "\" y1=\"" ∷ signed_decimal from.y
    ∷ codes "\" x2=\"" ∷ signed_decimal to.x ∷ codes "\" y2=\"" ∷ signed_decimal to.y
    ∷ codes "\" stroke=\"" ∷ stroke ∷ codes "\"/>\n" ∷ [])

-- the ellipse of an oval, by its middle and its radii
unfoldable pub ellipse_text : Pt → ℤ → ℤ → List ℕ
ellipse_text middle rx ry = joined (codes "<ellipse class=\"shape\" cx=\"" ∷ signed_decimal middle.x ∷ codes "\" cy=\"" ∷ signed_decimal middle.y
    ∷ codes "\" rx=\"" ∷ signed_decimal rx ∷ codes "\" ry=\"" ∷ signed_decimal ry ∷ codes "\" fill=\"white\" stroke=\"black\"/>\n" ∷ [])

-- the polygon of a diamond: its upper, right, lower and left corner
unfoldable pub diamond_text : Pt → Span → Span → List ℕ
diamond_text middle x y = joined (codes "<polygon class=\"shape\" points=\""
    ∷ signed_decimal middle.x ∷ codes "," ∷ signed_decimal y.low ∷ codes " " ∷ signed_decimal x.high ∷ codes "," ∷ signed_decimal middle.y
    ∷ codes " " ∷ signed_decimal middle.x ∷ codes "," ∷ signed_decimal y.high ∷ codes " " ∷ signed_decimal x.low ∷ codes "," ∷ signed_decimal middle.y
    ∷ codes "\" fill=\"white\" stroke=\"black\"/>\n" ∷ [])

-- the name of a shape, at its middle
unfoldable pub label_text : Pt → NameOf → List ℕ
label_text middle name = joined (codes "<text x=\"" ∷ signed_decimal middle.x ∷ codes "\" y=\"" ∷ signed_decimal middle.y
    ∷ codes "\" text-anchor=\"middle\">" ∷ name ∷ codes "</text>\n" ∷ [])

-- ---- items

-- the page, and a group: the rectangle between its edges
abbrev pub page_text : Diagram → Places → Page → List ℕ
page_text d places p = rect_text (codes "page") (edge_span d X places p.name) (edge_span d Y places p.name) (codes "none") (codes "silver")

abbrev pub group_text : Diagram → Places → Group → List ℕ
group_text d places g = rect_text (codes "group") (edge_span d X places g.name) (edge_span d Y places g.name) (codes "none") (codes "gray")

-- a guideline of X runs down the whole picture, one of Y across it
abbrev pub guide_ends : Axis → ℤ → Span → Span → Pt × Pt
guide_ends X at x y = (record { x = at; y = y.low }, record { x = at; y = y.high })
guide_ends Y at x y = (record { x = x.low; y = at }, record { x = x.high; y = at })

-- a guideline between these ends
abbrev pub guide_line : Pt × Pt → List ℕ
guide_line ends = line_text (codes "guide") ends.0 ends.1 (codes "blue")

-- a guideline at its place, across the parts of the axes that the picture shows
abbrev pub guide_text : Diagram → Places → Span → Span → Guide → List ℕ
guide_text d places x y g = guide_line (guide_ends g.axis (place_of d g.axis places (OfItem g.name)) x y)

-- the middle of the shape of a name; a link of a sound scene is between shapes
abbrev pub end_of : Diagram → Places → NameOf → Pt
end_of d places name = option_map_or (middle_of d places) (shape_named d name) (record { x = pos 0; y = pos 0 })

-- a link: a line between the middles of its two shapes
abbrev pub link_text : Diagram → Places → Link → List ℕ
link_text d places l = line_text (codes "link") (end_of d places l.a) (end_of d places l.b) (codes "black")

-- the outline of a shape, by its form
abbrev pub outline_text : Form → Shape → Pt → Span → Span → List ℕ
outline_text form.Box s middle x y = rect_text (codes "shape") x y (codes "white") (codes "black")
outline_text form.Oval s middle x y = ellipse_text middle (half s.w) (half s.h)
outline_text form.Diamond s middle x y = diamond_text middle x y

-- a shape: its outline, and its name
abbrev pub shape_text : Diagram → Places → Shape → List ℕ
shape_text d places s =
    outline_text s.form s (middle_of d places s) (shape_span d X places s) (shape_span d Y places s) ++ label_text (middle_of d places s) s.name

-- ---- the picture

-- the items of each sort, in the order of making
abbrev pub pages_text : Diagram → Places → List ℕ
pages_text d places = option_map_or (page_text d places) (slice_get d.pages 0) []

abbrev pub groups_text : Diagram → Places → List ℕ
groups_text d places = flat_map (group_text d places) d.groups

abbrev pub guides_text : Diagram → Places → Span → Span → List ℕ
guides_text d places x y = flat_map (guide_text d places x y) d.guides

abbrev pub links_text : Diagram → Places → List ℕ
links_text d places = flat_map (link_text d places) d.links

abbrev pub shapes_text : Diagram → Places → List ℕ
shapes_text d places = flat_map (shape_text d places) d.shapes

-- the page, the groups, the guidelines, the links and the shapes, each sort in the order of making: what comes later is
-- drawn over what came before
unfoldable pub svg_text : Diagram → Places → List ℕ
svg_text d places =
    let x = shown d X places in
    let y = shown d Y places in
    head_text x y
    ++ pages_text d places
    ++ groups_text d places
    ++ guides_text d places x y
    ++ links_text d places
    ++ shapes_text d places
    ++ codes "</svg>\n"
