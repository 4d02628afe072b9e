-- The items of a diagram by sort and by name.
use Rattle.std.specs.Prelude.{ℕ, ◌<◌, ◌++◌, ◌∷◌, [], List, length, Bool, Option, None, position, slice_get}
use Rattle.std.specs.Option.{option_map, option_map_or, option_or}
use Rattle.std.specs.List.{list_any, insert, remove}
use Rattle.scene_model.specs.declared.items.Shape.{Shape}
use Rattle.scene_model.specs.declared.items.Guide.{Guide}
use Rattle.scene_model.specs.declared.items.Link.{Link}
use Rattle.scene_model.specs.declared.items.Compound.{Compound}
use Rattle.scene_model.specs.declared.items.Group.{Group}
use Rattle.scene_model.specs.declared.items.Page.{Page}
use Rattle.scene_model.specs.declared.items.Sort.{Sort}
use Rattle.scene_model.specs.declared.items.Sort.TheVariants as sort
use Rattle.scene_model.specs.declared.items.Item.{Item}
use Rattle.scene_model.specs.declared.items.Thing.{Thing}
use Rattle.scene_model.specs.declared.items.Thing.TheVariants as thing
use Rattle.scene_model.specs.Names.{NameOf, same_name}
use Rattle.scene_model.specs.Naming.{replaced}
use Rattle.scene_model.specs.Diagram.{Diagram, names_of, sort_names, all_sorts, most_of}
use Rattle.scene_model.specs.Sound.{IsShape, IsGuide, IsLink, IsCompound, IsGroup, IsPage}

-- ---- finding an item

-- whether an item of the name stands
abbrev pub stands : Diagram → NameOf → Bool
stands d name = list_any (same_name name) (names_of d)

-- how many items of a sort stand
abbrev pub count_of : Diagram → Sort → ℕ
count_of d sort.Shape = length d.shapes
count_of d sort.Guide = length d.guides
count_of d sort.Link = length d.links
count_of d sort.Compound = length d.compounds
count_of d sort.Group = length d.groups
count_of d sort.Page = length d.pages

-- the item of a name among those of a sort
abbrev pub item_among : Diagram → NameOf → Sort → Option Item
item_among d name s = option_map (λ at. record { sort = s; at = at }) (position (same_name name) (sort_names d s))

-- the item of a name, where it stands as one of these sorts
abbrev pub item_in : Diagram → NameOf → List Sort → Option Item
item_in d name [] = None
item_in d name (s ∷ more) = option_or (item_among d name s) (item_in d name more)

-- the item of a name: its sort, and its number among those of the sort
abbrev pub item_named : Diagram → NameOf → Option Item
item_named d name = item_in d name all_sorts

-- the sort of the item of a name
abbrev pub sort_named : Diagram → NameOf → Option Sort
sort_named d name = option_map (λ (item : Item). item.sort) (item_named d name)

-- the item of a sort and number
abbrev pub thing_at : Diagram → Sort → ℕ → Option Thing
thing_at d sort.Shape at = option_map thing.Shape (slice_get d.shapes at)
thing_at d sort.Guide at = option_map thing.Guide (slice_get d.guides at)
thing_at d sort.Link at = option_map thing.Link (slice_get d.links at)
thing_at d sort.Compound at = option_map thing.Compound (slice_get d.compounds at)
thing_at d sort.Group at = option_map thing.Group (slice_get d.groups at)
thing_at d sort.Page at = option_map thing.Page (slice_get d.pages at)

-- the item at a place that was found
abbrev pub thing_found : Diagram → Option Item → Option Thing
thing_found d found = option_map_or (λ (item : Item). thing_at d item.sort item.at) found None

-- the item of a name, whole
abbrev pub thing_named : Diagram → NameOf → Option Thing
thing_named d name = thing_found d (item_named d name)

-- ---- an item by itself

-- the name of an item of any sort
abbrev pub name_of_thing : Thing → NameOf
name_of_thing (thing.Shape s) = s.name
name_of_thing (thing.Guide g) = g.name
name_of_thing (thing.Link l) = l.name
name_of_thing (thing.Compound c) = c.name
name_of_thing (thing.Group g) = g.name
name_of_thing (thing.Page p) = p.name

-- the sort of an item
abbrev pub sort_of : Thing → Sort
sort_of (thing.Shape s) = sort.Shape
sort_of (thing.Guide g) = sort.Guide
sort_of (thing.Link l) = sort.Link
sort_of (thing.Compound c) = sort.Compound
sort_of (thing.Group g) = sort.Group
sort_of (thing.Page p) = sort.Page

-- whether the numbers of an item lie in their ranges, and the names that it uses stand as what is wanted
abbrev pub IsThing : Diagram → Thing → Type 0
IsThing d (thing.Shape s) = IsShape s
IsThing d (thing.Guide g) = IsGuide g
IsThing d (thing.Link l) = IsLink d.shapes d.guides l
IsThing d (thing.Compound c) = IsCompound d.shapes d.guides c
IsThing d (thing.Group g) = IsGroup d.shapes d.guides g
IsThing d (thing.Page p) = IsPage p

-- whether another item of its sort fits within the limits
abbrev pub HasRoomFor : Diagram → Thing → Type 0
HasRoomFor d t = count_of d (sort_of t) < most_of (sort_of t)

-- ---- changes

-- the diagram with a further item, at a place of the list of its sort: those from there on move down
abbrev pub with_thing_at : Diagram → ℕ → Thing → Diagram
with_thing_at d at (thing.Shape s) = record d { shapes = insert d.shapes at s }
with_thing_at d at (thing.Guide g) = record d { guides = insert d.guides at g }
with_thing_at d at (thing.Link l) = record d { links = insert d.links at l }
with_thing_at d at (thing.Compound c) = record d { compounds = insert d.compounds at c }
with_thing_at d at (thing.Group g) = record d { groups = insert d.groups at g }
with_thing_at d at (thing.Page p) = record d { pages = insert d.pages at p }

-- the diagram with a further item, the last of its sort
abbrev pub with_thing : Diagram → Thing → Diagram
with_thing d (thing.Shape s) = record d { shapes = d.shapes ++ s ∷ [] }
with_thing d (thing.Guide g) = record d { guides = d.guides ++ g ∷ [] }
with_thing d (thing.Link l) = record d { links = d.links ++ l ∷ [] }
with_thing d (thing.Compound c) = record d { compounds = d.compounds ++ c ∷ [] }
with_thing d (thing.Group g) = record d { groups = d.groups ++ g ∷ [] }
with_thing d (thing.Page p) = record d { pages = d.pages ++ p ∷ [] }

-- the diagram with the item in the place of the one of the same name and sort
abbrev pub with_replaced : Diagram → Thing → Diagram
with_replaced d (thing.Shape s) = record d { shapes = replaced (λ (s : Shape). s.name) s d.shapes }
with_replaced d (thing.Guide g) = record d { guides = replaced (λ (g : Guide). g.name) g d.guides }
with_replaced d (thing.Link l) = record d { links = replaced (λ (l : Link). l.name) l d.links }
with_replaced d (thing.Compound c) = record d { compounds = replaced (λ (c : Compound). c.name) c d.compounds }
with_replaced d (thing.Group g) = record d { groups = replaced (λ (g : Group). g.name) g d.groups }
with_replaced d (thing.Page p) = record d { pages = replaced (λ (p : Page). p.name) p d.pages }

-- the diagram without the item of a sort and number: those behind it in its list move up
abbrev pub without_at : Diagram → Sort → ℕ → Diagram
without_at d sort.Shape at = record d { shapes = remove d.shapes at }
without_at d sort.Guide at = record d { guides = remove d.guides at }
without_at d sort.Link at = record d { links = remove d.links at }
without_at d sort.Compound at = record d { compounds = remove d.compounds at }
without_at d sort.Group at = record d { groups = remove d.groups at }
without_at d sort.Page at = record d { pages = remove d.pages at }

-- the diagram without the item of a name
abbrev pub without : Diagram → NameOf → Diagram
without d name = option_map_or (λ (item : Item). without_at d item.sort item.at) (item_named d name) d
