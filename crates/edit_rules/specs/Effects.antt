-- What an edit does to a diagram.
use Rattle.std.specs.Prelude.{ℕ, ◌+◌, ◌≤◌, ℤ, pos, ◌+ℤ◌, ◌-ℤ◌, List, fold, map, filter, true, false, Option, Some, None}
use Rattle.std.specs.Int.{int_min, int_max}
use Rattle.std.specs.List.{AllByRecursion, list_any}
use Rattle.std.specs.Option.{option_map_or}
use Rattle.units.specs.declared.geometry.Axis.{Axis}
use Rattle.units.specs.declared.geometry.Axis.TheVariants.{X, Y}
use Rattle.scene_model.specs.declared.items.Shape.{Shape}
use Rattle.scene_model.specs.declared.items.Guide.{Guide}
use Rattle.scene_model.specs.declared.items.Group.{Group}
use Rattle.scene_model.specs.declared.items.Rule.TheVariants as rule
use Rattle.scene_model.specs.declared.items.Thing.{Thing}
use Rattle.scene_model.specs.declared.items.Thing.TheVariants as thing
use Rattle.scene_model.specs.Names.{NameOf, same_name}
use Rattle.scene_model.specs.Diagram.{Diagram, empty_diagram}
use Rattle.scene_model.specs.Items.{thing_named, with_thing, with_replaced, without}
use Rattle.scene_model.specs.Variables.{low, high}
use Rattle.edit_rules.specs.declared.edits.Edit.{Edit}
use Rattle.edit_rules.specs.declared.edits.Edit.TheVariants as edit

-- ---- the corners of a group

-- the least of a list, if it has one
abbrev pub least : List ℤ → Option ℤ
least zs = fold (λ (o : Option ℤ) (z : ℤ). Some (option_map_or (int_min z) o z)) None zs

-- the greatest of a list, if it has one
abbrev pub greatest : List ℤ → Option ℤ
greatest zs = fold (λ (o : Option ℤ) (z : ℤ). Some (option_map_or (int_max z) o z)) None zs

-- the shapes whose names are members
abbrev pub member_shapes : Diagram → List NameOf → List Shape
member_shapes d members = filter (λ (s : Shape). list_any (same_name s.name) members) d.shapes

-- the least low edge of the members as declared, less the pad
abbrev pub low_corner : Diagram → List NameOf → ℤ → Axis → ℤ
low_corner d members pad axis = option_map_or (λ z. z) (least (map (low axis) (member_shapes d members))) (pos 0) -ℤ pad

-- their greatest high edge as declared, and the pad
abbrev pub high_corner : Diagram → List NameOf → ℤ → Axis → ℤ
high_corner d members pad axis = option_map_or (λ z. z) (greatest (map (high axis) (member_shapes d members))) (pos 0) +ℤ pad

-- a new group: its corners lie the pad outside its members as they are declared now
abbrev pub group_around : Diagram → NameOf → ℤ → List NameOf → Group
group_around d name pad members = record {
  name = name;
  pad = pad;
  members = members;
  low = record { x = low_corner d members pad X; y = low_corner d members pad Y };
  high = record { x = high_corner d members pad X; y = high_corner d members pad Y };
}

-- ---- the effect of an edit

-- the item that an edit makes, if it makes one: it is not held and was never moved
abbrev pub made : Diagram → Edit → Option Thing
made d (edit.Put name form x y w h) =
    Some (thing.Shape (record { name = name; form = form; x = x; y = y; w = w; h = h; held = false; moves = 0 }))
made d (edit.Guide name axis at) = Some (thing.Guide (record { name = name; axis = axis; at = at; moves = 0 }))
made d (edit.Join name a b) = Some (thing.Link (record { name = name; a = a; b = b }))
made d (edit.Align name guide line members) = Some (thing.Compound (record { name = name; rule = rule.Align guide line members }))
made d (edit.Spread name axis gap members) = Some (thing.Compound (record { name = name; rule = rule.Spread axis gap members }))
made d (edit.Rank name axis gap members) = Some (thing.Compound (record { name = name; rule = rule.Rank axis gap members }))
made d (edit.Apart name axis a b gap exact) = Some (thing.Compound (record { name = name; rule = rule.Apart axis a b gap exact }))
made d (edit.Group name pad members) = Some (thing.Group (group_around d name pad members))
made d (edit.Page name x y w h margin rigid) =
    Some (thing.Page (record { name = name; x = x; y = y; w = w; h = h; margin = margin; rigid = rigid }))
made d (edit.Size name w h) = None
made d (edit.Move name x y) = None
made d (edit.Shift name at) = None
made d (edit.Hold name) = None
made d (edit.Free name) = None
made d (edit.Remove name) = None
made d (edit.Unlink name) = None
made d (edit.Drop name) = None

-- the diagram with a shape that was found changed
abbrev pub with_found_shape : Diagram → (Shape → Shape) → Option Thing → Diagram
with_found_shape d change (Some (thing.Shape s)) = with_replaced d (thing.Shape (change s))
with_found_shape d change _ = d

-- the diagram with the shape of a name changed
abbrev pub with_shape : Diagram → NameOf → (Shape → Shape) → Diagram
with_shape d name change = with_found_shape d change (thing_named d name)

-- the diagram with a guideline that was found changed
abbrev pub with_found_guide : Diagram → (Guide → Guide) → Option Thing → Diagram
with_found_guide d change (Some (thing.Guide g)) = with_replaced d (thing.Guide (change g))
with_found_guide d change _ = d

-- the diagram with the guideline of a name changed
abbrev pub with_guide : Diagram → NameOf → (Guide → Guide) → Diagram
with_guide d name change = with_found_guide d change (thing_named d name)

-- the diagram after what an edit changes of the items that stand: a move or shift is counted, also where the anchor
-- stays; all that an edit doesn't name stays as it is
abbrev pub changed : Edit → Diagram → Diagram
changed (edit.Size name w h) d = with_shape d name (λ s. record s { w = w; h = h })
changed (edit.Move name x y) d = with_shape d name (λ s. record s { x = x; y = y; moves = s.moves + 1 })
changed (edit.Shift name at) d = with_guide d name (λ g. record g { at = at; moves = g.moves + 1 })
changed (edit.Hold name) d = with_shape d name (λ s. record s { held = true })
changed (edit.Free name) d = with_shape d name (λ s. record s { held = false })
changed (edit.Remove name) d = without d name
changed (edit.Unlink name) d = without d name
changed (edit.Drop name) d = without d name
changed (edit.Put name form x y w h) d = d
changed (edit.Join name a b) d = d
changed (edit.Guide name axis at) d = d
changed (edit.Align name guide line members) d = d
changed (edit.Spread name axis gap members) d = d
changed (edit.Rank name axis gap members) d = d
changed (edit.Apart name axis a b gap exact) d = d
changed (edit.Group name pad members) d = d
changed (edit.Page name x y w h margin rigid) d = d

-- the diagram after an edit: the item that it makes is the last of its sort
unfoldable pub edited : Edit → Diagram → Diagram
edited e d = option_map_or (with_thing d) (made d e) (changed e d)

-- the empty diagram after each edit in turn
abbrev pub scene_of : List Edit → Diagram
scene_of edits = fold (λ d e. edited e d) empty_diagram edits

-- no shape or guideline was moved more often than this
pub record HasFewMoves (n : ℕ) (d : Diagram) : Type 0 where
  pub shapes : AllByRecursion (λ (s : Shape). s.moves ≤ n) d.shapes
  pub guides : AllByRecursion (λ (g : Guide). g.moves ≤ n) d.guides
