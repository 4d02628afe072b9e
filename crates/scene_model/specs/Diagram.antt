-- A diagram: the lists of its items, each in the order of making (in 2008 Dwyer, Marriott and Wybrow described the
-- shapes, guidelines, connectors, groups and page of such a diagram).
use Rattle.std.specs.Prelude.{ℕ, List, [], ◌∷◌, map}
use Rattle.std.specs.List.{flat_map}
use Rattle.scene_model.specs.declared.items.Shape.{Shape}
use Rattle.scene_model.specs.declared.items.Guide.{Guide}
use Rattle.scene_model.specs.declared.items.Link.{Link}
use Rattle.scene_model.specs.declared.items.Compound.{Compound}
use Rattle.scene_model.specs.declared.items.Group.{Group}
use Rattle.scene_model.specs.declared.items.Page.{Page}
use Rattle.scene_model.specs.declared.items.Sort.{Sort}
use Rattle.scene_model.specs.declared.items.Sort.TheVariants as sort
use Rattle.scene_model.specs.Names.{NameOf}

-- the items of a document
pub record Diagram : Type 0 where
  pub shapes : List Shape
  pub guides : List Guide
  pub links : List Link
  pub compounds : List Compound
  pub groups : List Group
  pub pages : List Page

-- the diagram without items
abbrev pub empty_diagram : Diagram
empty_diagram = record { shapes = []; guides = []; links = []; compounds = []; groups = []; pages = [] }

-- the names of the items of each sort, in order
abbrev pub shape_names : List Shape → List NameOf
shape_names shapes = map (λ (s : Shape). s.name) shapes

abbrev pub guide_names : List Guide → List NameOf
guide_names guides = map (λ (g : Guide). g.name) guides

abbrev pub link_names : List Link → List NameOf
link_names links = map (λ (l : Link). l.name) links

abbrev pub compound_names : List Compound → List NameOf
compound_names compounds = map (λ (c : Compound). c.name) compounds

abbrev pub group_names : List Group → List NameOf
group_names groups = map (λ (g : Group). g.name) groups

abbrev pub page_names : List Page → List NameOf
page_names pages = map (λ (p : Page). p.name) pages

-- the names of the items of a sort
abbrev pub sort_names : Diagram → Sort → List NameOf
sort_names d sort.Shape = shape_names d.shapes
sort_names d sort.Guide = guide_names d.guides
sort_names d sort.Link = link_names d.links
sort_names d sort.Compound = compound_names d.compounds
sort_names d sort.Group = group_names d.groups
sort_names d sort.Page = page_names d.pages

-- all sorts
abbrev pub all_sorts : List Sort
all_sorts = sort.Shape ∷ sort.Guide ∷ sort.Link ∷ sort.Compound ∷ sort.Group ∷ sort.Page ∷ []

-- the names of all items
abbrev pub names_of : Diagram → List NameOf
names_of d = flat_map (sort_names d) all_sorts

-- the most items of a sort that a diagram has (the limits are this project's own)
abbrev pub most_of : Sort → ℕ
most_of sort.Shape = 128
most_of sort.Guide = 64
most_of sort.Link = 256
most_of sort.Compound = 128
most_of sort.Group = 32
most_of sort.Page = 1
