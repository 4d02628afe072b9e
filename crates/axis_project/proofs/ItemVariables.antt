-- An item that stands has its variables.
use Rattle.std.proofs.Common.{◌≡◌, ◌∙◌, ap, sym, refl, ℕ, zero, suc, List, [], ◌∷◌, ◌++◌, Bool, true, false, cond, ◌||◌, map, slice_get, Some, subst}
use Rattle.std.specs.Prelude.{◌⊎◌, IsSome}
use Rattle.std.proofs.Common.{⊎_elim}
use Rattle.std.specs.Option.{option_map}
use Rattle.std.specs.List.{list_any, flat_map}
use Rattle.std.proofs.lemmas.Slice.Eq.{bytes_eq-Decides}
use Rattle.units.specs.declared.geometry.Axis.{Axis}
use Rattle.units.specs.declared.geometry.Axis.TheVariants.{X, Y}
use Rattle.scene_model.specs.declared.items.Shape.{Shape}
use Rattle.scene_model.specs.declared.items.Guide.{Guide}
use Rattle.scene_model.specs.declared.items.Group.{Group}
use Rattle.scene_model.specs.declared.items.Page.{Page}
use Rattle.scene_model.specs.declared.items.Sort.TheVariants as sort
use Rattle.scene_model.specs.declared.items.Thing.TheVariants as thing
use Rattle.scene_model.specs.declared.variables.Variable.{Variable}
use Rattle.scene_model.specs.declared.variables.VariableName.{VariableName}
use Rattle.scene_model.specs.declared.variables.VariableName.TheVariants.{OfItem, LowEdge, HighEdge}
use Rattle.scene_model.specs.Names.{NameOf, same_name, same_axis}
use Rattle.scene_model.specs.Diagram.{Diagram, shape_names}
use Rattle.scene_model.specs.Items.{item_named, sort_named, thing_found, thing_named}
use Rattle.scene_model.specs.Variables.{variables, variable_number, same_variable, shape_variable, guide_variable, guides_on, group_variables, page_variables}
use Rattle.scene_model.proofs.Named.{is_some-position}
use Rattle.scene_model.proofs.Places.{sort_stands, thing_found_is, found_as}

pub any-front : {A : Type 0} (p : A → Bool) (xs ys : List A) → list_any p xs ≡ true → list_any p (xs ++ ys) ≡ true
any-front p [] ys is = cc
any-front {A} p (x ∷ xs) ys is = by (p x) is (any-front p xs ys)
  where
    by : (b : Bool) → (b || list_any p xs) ≡ true → (list_any p xs ≡ true → list_any p (xs ++ ys) ≡ true) → (b || list_any p (xs ++ ys)) ≡ true
    by true is rest = refl
    by false is rest = rest is

pub any-behind : {A : Type 0} (p : A → Bool) (xs ys : List A) → list_any p ys ≡ true → list_any p (xs ++ ys) ≡ true
any-behind p [] ys is = is
any-behind {A} p (x ∷ xs) ys is = by (p x) (any-behind p xs ys is)
  where
    by : (b : Bool) → list_any p (xs ++ ys) ≡ true → (b || list_any p (xs ++ ys)) ≡ true
    by true rest = refl
    by false rest = rest

-- a variable that is among those of the axis is found
found : (scene : Diagram) (axis : Axis) (name : VariableName) → list_any (λ (v : Variable). same_variable name v.name) (variables scene axis) ≡ true → IsSome (variable_number scene axis name)
found scene axis name any = is_some-position (λ (v : Variable). same_variable name v.name) (variables scene axis) ∙ any

-- where an item of a name stands, so does its variable
module _ {T : Type 0} (name_of : T → NameOf) (parts : T → List Variable) (name : VariableName) (n : NameOf)
    (has : (x : T) → same_name n (name_of x) ≡ true → list_any (λ (v : Variable). same_variable name v.name) (parts x) ≡ true) where
  pub any-parts : (xs : List T) → list_any (same_name n) (map name_of xs) ≡ true → list_any (λ (v : Variable). same_variable name v.name) (flat_map parts xs) ≡ true
  any-parts [] is = cc
  any-parts (x ∷ xs) is = by (same_name n (name_of x)) refl is (any-parts xs)
    where
      by : (b : Bool) → same_name n (name_of x) ≡ b → (b || list_any (same_name n) (map name_of xs)) ≡ true
          → (list_any (same_name n) (map name_of xs) ≡ true → list_any (λ (v : Variable). same_variable name v.name) (flat_map parts xs) ≡ true)
          → list_any (λ (v : Variable). same_variable name v.name) (parts x ++ flat_map parts xs) ≡ true
      by true same is rest = any-front (λ (v : Variable). same_variable name v.name) (parts x) (flat_map parts xs) (has x same)
      by false differs is rest = any-behind (λ (v : Variable). same_variable name v.name) (parts x) (flat_map parts xs) (rest is)

pub any-shapes : (axis : Axis) (n : NameOf) (ss : List Shape) → list_any (λ (v : Variable). same_variable (OfItem n) v.name) (map (shape_variable axis) ss) ≡ list_any (same_name n) (shape_names ss)
any-shapes axis n [] = refl
any-shapes axis n (s ∷ ss) = ap (λ b. same_name n s.name || b) (any-shapes axis n ss)

-- whether a variable has the name
abbrev pub is_of : VariableName → Variable → Bool
is_of name v = same_variable name v.name

-- a variable among those of one sort is among those of the axis
module _ (scene : Diagram) (axis : Axis) (name : VariableName) where
  pub of_shapes : list_any (is_of name) (map (shape_variable axis) scene.shapes) ≡ true → IsSome (variable_number scene axis name)
  of_shapes any =
      found scene axis name
      (any-front (is_of name) (map (shape_variable axis) scene.shapes ++ map guide_variable (guides_on axis scene.guides) ++ flat_map (group_variables axis) scene.groups) (flat_map (page_variables axis) scene.pages)
      (any-front (is_of name) (map (shape_variable axis) scene.shapes ++ map guide_variable (guides_on axis scene.guides)) (flat_map (group_variables axis) scene.groups)
      (any-front (is_of name) (map (shape_variable axis) scene.shapes) (map guide_variable (guides_on axis scene.guides)) any)))

  pub of_guides : list_any (is_of name) (map guide_variable (guides_on axis scene.guides)) ≡ true → IsSome (variable_number scene axis name)
  of_guides any =
      found scene axis name
      (any-front (is_of name) (map (shape_variable axis) scene.shapes ++ map guide_variable (guides_on axis scene.guides) ++ flat_map (group_variables axis) scene.groups) (flat_map (page_variables axis) scene.pages)
      (any-front (is_of name) (map (shape_variable axis) scene.shapes ++ map guide_variable (guides_on axis scene.guides)) (flat_map (group_variables axis) scene.groups)
      (any-behind (is_of name) (map (shape_variable axis) scene.shapes) (map guide_variable (guides_on axis scene.guides)) any)))

  pub of_groups : list_any (is_of name) (flat_map (group_variables axis) scene.groups) ≡ true → IsSome (variable_number scene axis name)
  of_groups any =
      found scene axis name
      (any-front (is_of name) (map (shape_variable axis) scene.shapes ++ map guide_variable (guides_on axis scene.guides) ++ flat_map (group_variables axis) scene.groups) (flat_map (page_variables axis) scene.pages)
      (any-behind (is_of name) (map (shape_variable axis) scene.shapes ++ map guide_variable (guides_on axis scene.guides)) (flat_map (group_variables axis) scene.groups) any))

  pub of_pages : list_any (is_of name) (flat_map (page_variables axis) scene.pages) ≡ true → IsSome (variable_number scene axis name)
  of_pages any =
      found scene axis name
      (any-behind (is_of name) (map (shape_variable axis) scene.shapes ++ map guide_variable (guides_on axis scene.guides) ++ flat_map (group_variables axis) scene.groups) (flat_map (page_variables axis) scene.pages) any)

-- a shape has a variable on each axis
pub shape_has_variable : (scene : Diagram) (axis : Axis) (name : NameOf) → sort_named scene name ≡ Some sort.Shape → IsSome (variable_number scene axis (OfItem name))
shape_has_variable scene axis name stands = of_shapes scene axis (OfItem name) (any-shapes axis name scene.shapes ∙ sort_stands scene name sort.Shape stands)

-- a guideline has one on its own
pub guide_has_variable : (scene : Diagram) (name : NameOf) (g : Guide) → thing_named scene name ≡ Some (thing.Guide g) → IsSome (variable_number scene g.axis (OfItem name))
guide_has_variable scene name g found =
    let x = thing_found_is scene name (thing.Guide g) found in
    of_guides scene g.axis (OfItem name) (among scene.guides x.at (found_as thing.Guide (λ a b e. cc) (slice_get scene.guides x.at) g x.there) x.named)
  where
    own : (axis : Axis) → same_axis axis axis ≡ true
    own X = refl
    own Y = refl

    among : (gs : List Guide) (k : ℕ) → slice_get gs k ≡ Some g → g.name ≡ name → list_any (is_of (OfItem name)) (map guide_variable (guides_on g.axis gs)) ≡ true
    among [] k at named = cc
    among (h ∷ hs) zero at named =
        let same : h ≡ g = cc in
        subst (λ (z : Guide). list_any (is_of (OfItem name)) (map guide_variable (guides_on g.axis (z ∷ hs))) ≡ true) (sym same)
        (ap (λ b. list_any (is_of (OfItem name)) (map guide_variable (cond b (g ∷ guides_on g.axis hs) (guides_on g.axis hs)))) (own g.axis)
        ∙ ap (λ b. b || list_any (is_of (OfItem name)) (map guide_variable (guides_on g.axis hs))) ((bytes_eq-Decides name g.name).1 (sym named)))
    among (h ∷ hs) (suc k) at named = by (same_axis h.axis g.axis) (among hs k at named)
      where
        by : (b : Bool) → list_any (is_of (OfItem name)) (map guide_variable (guides_on g.axis hs)) ≡ true → list_any (is_of (OfItem name)) (map guide_variable (cond b (h ∷ guides_on g.axis hs) (guides_on g.axis hs))) ≡ true
        by true rest = any-behind (is_of (OfItem name)) (guide_variable h ∷ []) (map guide_variable (guides_on g.axis hs)) rest
        by false rest = rest

-- a group has its edges on each axis, and so has a page
pub group_has_variables : (scene : Diagram) (axis : Axis) (name : NameOf) → sort_named scene name ≡ Some sort.Group → IsSome (variable_number scene axis (LowEdge name)) × IsSome (variable_number scene axis (HighEdge name))
group_has_variables scene axis name stands =
    let among = sort_stands scene name sort.Group stands in (
      of_groups scene axis (LowEdge name) (any-parts (λ (g : Group). g.name) (group_variables axis) (LowEdge name) name (λ g is. ap (λ b. b || false) is) scene.groups among),
      of_groups scene axis (HighEdge name) (any-parts (λ (g : Group). g.name) (group_variables axis) (HighEdge name) name (λ g is. ap (λ b. b || false) is) scene.groups among),
    )

pub page_has_variables : (scene : Diagram) (axis : Axis) (name : NameOf) → sort_named scene name ≡ Some sort.Page → IsSome (variable_number scene axis (LowEdge name)) × IsSome (variable_number scene axis (HighEdge name))
page_has_variables scene axis name stands =
    let among = sort_stands scene name sort.Page stands in (
      of_pages scene axis (LowEdge name) (any-parts (λ (p : Page). p.name) (page_variables axis) (LowEdge name) name (λ p is. ap (λ b. b || false) is) scene.pages among),
      of_pages scene axis (HighEdge name) (any-parts (λ (p : Page). p.name) (page_variables axis) (HighEdge name) name (λ p is. ap (λ b. b || false) is) scene.pages among),
    )

-- a group or page has its low and its high edge on each axis
pub area_has_variables : (scene : Diagram) (axis : Axis) (name : NameOf) → (sort_named scene name ≡ Some sort.Group) ⊎ (sort_named scene name ≡ Some sort.Page)
    → IsSome (variable_number scene axis (LowEdge name)) × IsSome (variable_number scene axis (HighEdge name))
area_has_variables scene axis name stands = ⊎_elim (group_has_variables scene axis name) (page_has_variables scene axis name) stands

-- the guideline that a name finds, whole
pub guide_whole : (scene : Diagram) (name : NameOf) (at : ℕ) (g : Guide) → item_named scene name ≡ Some (record { sort = sort.Guide; at = at }) → slice_get scene.guides at ≡ Some g
    → thing_named scene name ≡ Some (thing.Guide g)
guide_whole scene name at g found there = ap (thing_found scene) found ∙ ap (option_map thing.Guide) there
