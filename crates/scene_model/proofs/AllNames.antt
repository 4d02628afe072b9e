-- The names of all items, as one of them comes or goes.
use Rattle.std.proofs.Common.{◌≡◌, ℕ, zero, suc, List, [], ◌∷◌, ◌++◌, map, refl, ap, sym, ◌∙◌, subst, slice_get, Some, false}
use Rattle.std.specs.List.{insert, remove, list_any, IsDistinct, AllByRecursion, flat_map}
use Rattle.std.proofs.lemmas.Map.Keys.{IsDistinct-tail}
use Rattle.std.specs.Option.{option_map}
use Rattle.scene_model.specs.declared.items.Thing.{Thing}
use Rattle.scene_model.specs.declared.items.Thing.TheVariants as thing
use Rattle.scene_model.specs.declared.items.Sort.{Sort}
use Rattle.scene_model.specs.declared.items.Sort.TheVariants as sort
use Rattle.scene_model.specs.declared.items.Shape.{Shape}
use Rattle.scene_model.specs.declared.items.Guide.{Guide}
use Rattle.scene_model.specs.declared.items.Link.{Link}
use Rattle.scene_model.specs.declared.items.Compound.{Compound}
use Rattle.scene_model.specs.declared.items.Group.{Group}
use Rattle.scene_model.specs.declared.items.Page.{Page}
use Rattle.scene_model.specs.Names.{NameOf, same_name}
use Rattle.scene_model.specs.Diagram.{Diagram, names_of, sort_names}
use Rattle.scene_model.specs.Items.{stands, name_of_thing, sort_of, thing_at, without_at, with_thing_at}
use Rattle.scene_model.proofs.Changes.{map-insert, map-remove, IsDistinct-insert, IsDistinct-remove, removed-free}
use Rattle.scene_model.proofs.Places.{slice_get-map, found_as}

-- ---- one name more

-- a list with a name put in somewhere
abbrev HasOneMore : NameOf → List NameOf → List NameOf → Type 0
HasOneMore n before after = (k : ℕ) × (after ≡ insert before k n)

insert-zero : {A : Type 0} (xs : List A) (x : A) → insert xs zero x ≡ x ∷ xs
insert-zero [] x = refl
insert-zero (y ∷ ys) x = refl

-- and further names behind it
more_behind : (n : NameOf) (xs zs : List NameOf) (k : ℕ) → HasOneMore n (xs ++ zs) (insert xs k n ++ zs)
more_behind n [] zs zero = (0, sym (insert-zero zs n))
more_behind n [] zs (suc k) = (0, sym (insert-zero zs n))
more_behind n (x ∷ xs) zs zero = (0, refl)
more_behind n (x ∷ xs) zs (suc k) = let rest = more_behind n xs zs k in (suc rest.0, ap (λ ys. x ∷ ys) rest.1)

-- and before it
more_before : (n : NameOf) (xs ys zs : List NameOf) → HasOneMore n ys zs → HasOneMore n (xs ++ ys) (xs ++ zs)
more_before n [] ys zs more = more
more_before n (x ∷ xs) ys zs more = let rest = more_before n xs ys zs more in (suc rest.0, ap (λ ys. x ∷ ys) rest.1)

-- the names of items, of which one more was put in
names_more : {T : Type 0} (name_of : T → NameOf) (xs : List T) (k : ℕ) (x : T) (zs : List NameOf) → HasOneMore (name_of x) (map name_of xs ++ zs) (map name_of (insert xs k x) ++ zs)
names_more name_of xs k x zs = subst (λ ns. HasOneMore (name_of x) (map name_of xs ++ zs) (ns ++ zs)) (sym (map-insert name_of xs k x)) (more_behind (name_of x) (map name_of xs) zs k)

-- an item that is put in brings its name
names-put_back : (d : Diagram) (at : ℕ) (t : Thing) → HasOneMore (name_of_thing t) (names_of d) (names_of (with_thing_at d at t))
names-put_back d at (thing.Shape x) = names_more (λ (y : Shape). y.name) d.shapes at x _
names-put_back d at (thing.Guide x) = more_before x.name (sort_names d sort.Shape) _ _ (names_more (λ (y : Guide). y.name) d.guides at x _)
names-put_back d at (thing.Link x) =
    more_before x.name (sort_names d sort.Shape) _ _ (more_before x.name (sort_names d sort.Guide) _ _ (names_more (λ (y : Link). y.name) d.links at x _))
names-put_back d at (thing.Compound x) =
    more_before x.name (sort_names d sort.Shape) _ _
    (more_before x.name (sort_names d sort.Guide) _ _
    (more_before x.name (sort_names d sort.Link) _ _ (names_more (λ (y : Compound). y.name) d.compounds at x _)))
names-put_back d at (thing.Group x) =
    more_before x.name (sort_names d sort.Shape) _ _
    (more_before x.name (sort_names d sort.Guide) _ _
    (more_before x.name (sort_names d sort.Link) _ _
    (more_before x.name (sort_names d sort.Compound) _ _ (names_more (λ (y : Group). y.name) d.groups at x _))))
names-put_back d at (thing.Page x) =
    more_before x.name (sort_names d sort.Shape) _ _
    (more_before x.name (sort_names d sort.Guide) _ _
    (more_before x.name (sort_names d sort.Link) _ _
    (more_before x.name (sort_names d sort.Compound) _ _
    (more_before x.name (sort_names d sort.Group) _ _ (names_more (λ (y : Page). y.name) d.pages at x [])))))

-- names that differ still do with a new one
pub distinct-put_back : (d : Diagram) (at : ℕ) (t : Thing) → IsDistinct same_name (names_of d) → stands d (name_of_thing t) ≡ false → IsDistinct same_name (names_of (with_thing_at d at t))
distinct-put_back d at t distinct free =
    let more = names-put_back d at t in
    subst (IsDistinct same_name) (sym more.1) (IsDistinct-insert (names_of d) more.0 (name_of_thing t) distinct free)

-- ---- one name less

-- a list with a name of its own taken out
abbrev HasOneLess : NameOf → List NameOf → List NameOf → Type 0
HasOneLess n before after = (k : ℕ) × (slice_get before k ≡ Some n) × (after ≡ remove before k)

less_behind : (n : NameOf) (xs zs : List NameOf) (k : ℕ) → slice_get xs k ≡ Some n → HasOneLess n (xs ++ zs) (remove xs k ++ zs)
less_behind n [] zs k at = cc
less_behind n (x ∷ xs) zs zero at = (0, at, refl)
less_behind n (x ∷ xs) zs (suc k) at = let rest = less_behind n xs zs k at in (suc rest.0, rest.1, ap (λ ys. x ∷ ys) rest.2)

less_before : (n : NameOf) (xs ys zs : List NameOf) → HasOneLess n ys zs → HasOneLess n (xs ++ ys) (xs ++ zs)
less_before n [] ys zs less = less
less_before n (x ∷ xs) ys zs less = let rest = less_before n xs ys zs less in (suc rest.0, rest.1, ap (λ ys. x ∷ ys) rest.2)

names_less : {T : Type 0} (name_of : T → NameOf) (xs : List T) (k : ℕ) (x : T) (zs : List NameOf) → slice_get xs k ≡ Some x → HasOneLess (name_of x) (map name_of xs ++ zs) (map name_of (remove xs k) ++ zs)
names_less name_of xs k x zs at =
    subst (λ ns. HasOneLess (name_of x) (map name_of xs ++ zs) (ns ++ zs)) (sym (map-remove name_of xs k))
    (less_behind (name_of x) (map name_of xs) zs k (slice_get-map name_of xs k ∙ ap (option_map name_of) at))

-- an item that is taken out takes its name away
names-without_at : (d : Diagram) (at : ℕ) (t : Thing) → thing_at d (sort_of t) at ≡ Some t → HasOneLess (name_of_thing t) (names_of d) (names_of (without_at d (sort_of t) at))
names-without_at d at (thing.Shape x) there = names_less (λ (y : Shape). y.name) d.shapes at x _ (found_as thing.Shape (λ a b e. cc) (slice_get d.shapes at) x there)
names-without_at d at (thing.Guide x) there =
    less_before x.name (sort_names d sort.Shape) _ _ (names_less (λ (y : Guide). y.name) d.guides at x _ (found_as thing.Guide (λ a b e. cc) (slice_get d.guides at) x there))
names-without_at d at (thing.Link x) there =
    less_before x.name (sort_names d sort.Shape) _ _
    (less_before x.name (sort_names d sort.Guide) _ _ (names_less (λ (y : Link). y.name) d.links at x _ (found_as thing.Link (λ a b e. cc) (slice_get d.links at) x there)))
names-without_at d at (thing.Compound x) there =
    less_before x.name (sort_names d sort.Shape) _ _
    (less_before x.name (sort_names d sort.Guide) _ _
    (less_before x.name (sort_names d sort.Link) _ _ (names_less (λ (y : Compound). y.name) d.compounds at x _ (found_as thing.Compound (λ a b e. cc) (slice_get d.compounds at) x there))))
names-without_at d at (thing.Group x) there =
    less_before x.name (sort_names d sort.Shape) _ _
    (less_before x.name (sort_names d sort.Guide) _ _
    (less_before x.name (sort_names d sort.Link) _ _
    (less_before x.name (sort_names d sort.Compound) _ _ (names_less (λ (y : Group). y.name) d.groups at x _ (found_as thing.Group (λ a b e. cc) (slice_get d.groups at) x there)))))
names-without_at d at (thing.Page x) there =
    less_before x.name (sort_names d sort.Shape) _ _
    (less_before x.name (sort_names d sort.Guide) _ _
    (less_before x.name (sort_names d sort.Link) _ _
    (less_before x.name (sort_names d sort.Compound) _ _
    (less_before x.name (sort_names d sort.Group) _ _ (names_less (λ (y : Page). y.name) d.pages at x [] (found_as thing.Page (λ a b e. cc) (slice_get d.pages at) x there))))))

-- names that differ still do without one
pub distinct-without_at : (d : Diagram) (at : ℕ) (t : Thing) → thing_at d (sort_of t) at ≡ Some t → IsDistinct same_name (names_of d) → IsDistinct same_name (names_of (without_at d (sort_of t) at))
distinct-without_at d at t there distinct =
    let less = names-without_at d at t there in
    subst (IsDistinct same_name) (sym less.2) (IsDistinct-remove (names_of d) less.0 distinct)

-- the name of an item that was taken out is free
pub free-without_at : (d : Diagram) (at : ℕ) (t : Thing) → IsDistinct same_name (names_of d) → thing_at d (sort_of t) at ≡ Some t → stands (without_at d (sort_of t) at) (name_of_thing t) ≡ false
free-without_at d at t distinct there =
    let less = names-without_at d at t there in
    ap (list_any (same_name (name_of_thing t))) less.2 ∙ removed-free (names_of d) less.0 (name_of_thing t) distinct less.1

-- ---- the names of one sort

-- names that differ in a list differ in its parts
distinct-front : (xs ys : List NameOf) → IsDistinct same_name (xs ++ ys) → IsDistinct same_name xs
unfolding IsDistinct
distinct-front [] ys distinct = tt
distinct-front (x ∷ xs) ys distinct = (front xs distinct.0, distinct-front xs ys distinct.1)
  where
    front : (zs : List NameOf) → AllByRecursion (λ y. same_name x y ≡ false) (zs ++ ys) → AllByRecursion (λ y. same_name x y ≡ false) zs
    front [] all = tt
    front (z ∷ zs) all = (all.0, front zs all.1)

distinct-rest : (xs ys : List NameOf) → IsDistinct same_name (xs ++ ys) → IsDistinct same_name ys
distinct-rest [] ys distinct = distinct
distinct-rest (x ∷ xs) ys distinct = distinct-rest xs ys (IsDistinct-tail same_name x (xs ++ ys) distinct)

-- the names of a sort differ
pub sort_distinct : (d : Diagram) (s : Sort) → IsDistinct same_name (names_of d) → IsDistinct same_name (sort_names d s)
sort_distinct d s distinct =
    let guides = distinct-rest (sort_names d sort.Shape) (flat_map (sort_names d) (sort.Guide ∷ sort.Link ∷ sort.Compound ∷ sort.Group ∷ sort.Page ∷ [])) distinct in
    let links = distinct-rest (sort_names d sort.Guide) (flat_map (sort_names d) (sort.Link ∷ sort.Compound ∷ sort.Group ∷ sort.Page ∷ [])) guides in
    let compounds = distinct-rest (sort_names d sort.Link) (flat_map (sort_names d) (sort.Compound ∷ sort.Group ∷ sort.Page ∷ [])) links in
    let groups = distinct-rest (sort_names d sort.Compound) (flat_map (sort_names d) (sort.Group ∷ sort.Page ∷ [])) compounds in
    let pages = distinct-rest (sort_names d sort.Group) (flat_map (sort_names d) (sort.Page ∷ [])) groups in
    by s guides links compounds groups pages
  where
    by : (s : Sort) → IsDistinct same_name (flat_map (sort_names d) (sort.Guide ∷ sort.Link ∷ sort.Compound ∷ sort.Group ∷ sort.Page ∷ []))
        → IsDistinct same_name (flat_map (sort_names d) (sort.Link ∷ sort.Compound ∷ sort.Group ∷ sort.Page ∷ []))
        → IsDistinct same_name (flat_map (sort_names d) (sort.Compound ∷ sort.Group ∷ sort.Page ∷ []))
        → IsDistinct same_name (flat_map (sort_names d) (sort.Group ∷ sort.Page ∷ [])) → IsDistinct same_name (flat_map (sort_names d) (sort.Page ∷ []))
        → IsDistinct same_name (sort_names d s)
    by sort.Shape g l c r p = distinct-front (sort_names d sort.Shape) (flat_map (sort_names d) (sort.Guide ∷ sort.Link ∷ sort.Compound ∷ sort.Group ∷ sort.Page ∷ [])) distinct
    by sort.Guide g l c r p = distinct-front (sort_names d sort.Guide) (flat_map (sort_names d) (sort.Link ∷ sort.Compound ∷ sort.Group ∷ sort.Page ∷ [])) g
    by sort.Link g l c r p = distinct-front (sort_names d sort.Link) (flat_map (sort_names d) (sort.Compound ∷ sort.Group ∷ sort.Page ∷ [])) l
    by sort.Compound g l c r p = distinct-front (sort_names d sort.Compound) (flat_map (sort_names d) (sort.Group ∷ sort.Page ∷ [])) c
    by sort.Group g l c r p = distinct-front (sort_names d sort.Group) (flat_map (sort_names d) (sort.Page ∷ [])) r
    by sort.Page g l c r p = distinct-front (sort_names d sort.Page) [] p
