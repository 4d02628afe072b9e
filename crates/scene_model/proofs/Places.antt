-- Items at their places: what is found by name, taken out and put back.
use Rattle.std.proofs.Common.{◌≡◌, ◌≤◌, ℕ, zero, suc, List, [], ◌∷◌, ◌++◌, Bool, true, false, cond, ◌||◌, length, map, refl, ap, sym, ◌∙◌, subst, arith, slice_get, Option, Some, None}
use Rattle.std.specs.Prelude.{position}
use Rattle.std.specs.List.{list_any, insert, remove, flat_map}
use Rattle.std.specs.Option.{option_map, option_map_or, option_or, is_some}
use Rattle.std.proofs.lemmas.Slice.Eq.{bytes_eq-Decides}
use Rattle.scene_model.specs.declared.items.Thing.{Thing}
use Rattle.scene_model.specs.declared.items.Thing.TheVariants as thing
use Rattle.scene_model.specs.declared.items.Item.{Item}
use Rattle.scene_model.specs.declared.items.Sort.{Sort}
use Rattle.scene_model.specs.declared.items.Sort.TheVariants as sort
use Rattle.scene_model.specs.declared.items.Shape.{Shape}
use Rattle.scene_model.specs.declared.items.Guide.{Guide}
use Rattle.scene_model.specs.declared.items.Link.{Link}
use Rattle.scene_model.specs.declared.items.Compound.{Compound}
use Rattle.scene_model.specs.declared.items.Group.{Group}
use Rattle.scene_model.specs.declared.items.Page.{Page}
use Rattle.scene_model.specs.Names.{NameOf, same_name}
use Rattle.scene_model.specs.Naming.{has_name}
use Rattle.scene_model.specs.Diagram.{Diagram, sort_names, all_sorts}
use Rattle.scene_model.specs.Items.{stands, count_of, item_among, item_in, item_named, name_of_thing, sort_of, sort_named, thing_at, thing_found, thing_named, without_at, without, with_thing_at}
use Rattle.scene_model.proofs.Named.{is_some-position}
use Rattle.scene_model.proofs.Positions.{position-next}

-- ---- lists

-- what was taken out and is put back stands where it was
pub insert-removed : {A : Type 0} (xs : List A) (k : ℕ) (x : A) → slice_get xs k ≡ Some x → insert (remove xs k) k x ≡ xs
insert-removed [] k x at = cc
insert-removed (y ∷ ys) zero x at = let e : y ≡ x = cc in ap (λ z. z ∷ ys) (sym e)
insert-removed (y ∷ ys) (suc k) x at = ap (λ zs. y ∷ zs) (insert-removed ys k x at)

-- what was put in and is taken out leaves the list as it was
pub remove-inserted : {A : Type 0} (xs : List A) (k : ℕ) (x : A) → k ≤ length xs → remove (insert xs k x) k ≡ xs
remove-inserted [] zero x within = refl
remove-inserted [] (suc k) x within = absurd (omega arith)
remove-inserted (y ∷ ys) zero x within = refl
remove-inserted (y ∷ ys) (suc k) x within = ap (λ zs. y ∷ zs) (remove-inserted ys k x (omega arith))

-- the item that is found has the name
pub position_named : {T : Type 0} (name_of : T → NameOf) (xs : List T) (n : NameOf) (k : ℕ) → position (same_name n) (map name_of xs) ≡ Some k → (x : T) × (slice_get xs k ≡ Some x) × (name_of x ≡ n)
position_named name_of [] n k found = cc
position_named {T} name_of (y ∷ ys) n k found =
    by (same_name n (name_of y)) (position (same_name n) (map name_of ys)) refl refl (sym (position-next (same_name n) (name_of y) (map name_of ys)) ∙ found) (position_named name_of ys n)
  where
    by : (b : Bool) (o : Option ℕ) → same_name n (name_of y) ≡ b → position (same_name n) (map name_of ys) ≡ o → cond b (Some 0) (option_map suc o) ≡ Some k
        → ((j : ℕ) → position (same_name n) (map name_of ys) ≡ Some j → (x : T) × (slice_get ys j ≡ Some x) × (name_of x ≡ n))
        → (x : T) × (slice_get (y ∷ ys) k ≡ Some x) × (name_of x ≡ n)
    by true o same at e rest = let first : 0 ≡ k = cc in subst (λ j. (x : T) × (slice_get (y ∷ ys) j ≡ Some x) × (name_of x ≡ n)) first (y, refl, sym ((bytes_eq-Decides n (name_of y)).0 same))
    by false (Some j) differs at e rest = let later : suc j ≡ k = cc in subst (λ i. (x : T) × (slice_get (y ∷ ys) i ≡ Some x) × (name_of x ≡ n)) later (rest j at)
    by false None differs at e rest = cc

-- an item of a new name is found where it was put
pub position-inserted : {T : Type 0} (name_of : T → NameOf) (xs : List T) (k : ℕ) (x : T) → k ≤ length xs → has_name name_of (name_of x) xs ≡ false → position (same_name (name_of x)) (map name_of (insert xs k x)) ≡ Some k
position-inserted name_of [] zero x within free = position-next (same_name (name_of x)) (name_of x) [] ∙ ap (λ b. cond b (Some 0) None) ((bytes_eq-Decides (name_of x) (name_of x)).1 refl)
position-inserted name_of [] (suc k) x within free = absurd (omega arith)
position-inserted name_of (y ∷ ys) zero x within free = position-next (same_name (name_of x)) (name_of x) (map name_of (y ∷ ys)) ∙ ap (λ b. cond b (Some 0) (option_map suc (position (same_name (name_of x)) (map name_of (y ∷ ys))))) ((bytes_eq-Decides (name_of x) (name_of x)).1 refl)
position-inserted {T} name_of (y ∷ ys) (suc k) x within free =
    position-next (same_name (name_of x)) (name_of y) (map name_of (insert ys k x))
    ∙ by (same_name (name_of x) (name_of y)) free (position-inserted name_of ys k x (omega arith))
  where
    by : (b : Bool) → (b || has_name name_of (name_of x) ys) ≡ false → (has_name name_of (name_of x) ys ≡ false → position (same_name (name_of x)) (map name_of (insert ys k x)) ≡ Some k)
        → cond b (Some 0) (option_map suc (position (same_name (name_of x)) (map name_of (insert ys k x)))) ≡ Some (suc k)
    by true free rest = cc
    by false free rest = ap (option_map suc) (rest free)

-- a name under which none stands is found nowhere
pub position-free : {A : Type 0} (p : A → Bool) (xs : List A) → list_any p xs ≡ false → position p xs ≡ None
position-free p [] free = refl
position-free {A} p (x ∷ xs) free = position-next p x xs ∙ by (p x) free (position-free p xs)
  where
    by : (b : Bool) → (b || list_any p xs) ≡ false → (list_any p xs ≡ false → position p xs ≡ None) → cond b (Some 0) (option_map suc (position p xs)) ≡ None
    by true free rest = cc
    by false free rest = ap (option_map suc) (rest free)

pub slice_get-map : {A B : Type 0} (f : A → B) (xs : List A) (k : ℕ) → slice_get (map f xs) k ≡ option_map f (slice_get xs k)
slice_get-map f [] k = refl
slice_get-map f (x ∷ xs) zero = refl
slice_get-map f (x ∷ xs) (suc k) = slice_get-map f xs k

-- ---- names, sort by sort

list_any-append : {A : Type 0} (p : A → Bool) (xs ys : List A) → list_any p (xs ++ ys) ≡ (list_any p xs || list_any p ys)
list_any-append p [] ys = refl
list_any-append {A} p (x ∷ xs) ys = by (p x) (list_any-append p xs ys)
  where
    by : (b : Bool) → list_any p (xs ++ ys) ≡ (list_any p xs || list_any p ys) → (b || list_any p (xs ++ ys)) ≡ ((b || list_any p xs) || list_any p ys)
    by true rest = refl
    by false rest = rest

-- none of both lists, none of each
none_of_both : {A : Type 0} (p : A → Bool) (xs ys : List A) → list_any p (xs ++ ys) ≡ false → (list_any p xs ≡ false) × (list_any p ys ≡ false)
none_of_both p xs ys none = by (list_any p xs) refl (sym (list_any-append p xs ys) ∙ none)
  where
    by : (b : Bool) → list_any p xs ≡ b → (b || list_any p ys) ≡ false → (list_any p xs ≡ false) × (list_any p ys ≡ false)
    by true is none = cc
    by false is none = (is, none)

-- a name that is free is the name of no item of any sort
pub free_in : (d : Diagram) (n : NameOf) → stands d n ≡ false → (s : Sort) → list_any (same_name n) (sort_names d s) ≡ false
free_in d n free s =
    let p = same_name n in
    let shapes = none_of_both p (sort_names d sort.Shape) (flat_map (sort_names d) (sort.Guide ∷ sort.Link ∷ sort.Compound ∷ sort.Group ∷ sort.Page ∷ [])) free in
    let guides = none_of_both p (sort_names d sort.Guide) (flat_map (sort_names d) (sort.Link ∷ sort.Compound ∷ sort.Group ∷ sort.Page ∷ [])) shapes.1 in
    let links = none_of_both p (sort_names d sort.Link) (flat_map (sort_names d) (sort.Compound ∷ sort.Group ∷ sort.Page ∷ [])) guides.1 in
    let compounds = none_of_both p (sort_names d sort.Compound) (flat_map (sort_names d) (sort.Group ∷ sort.Page ∷ [])) links.1 in
    let groups = none_of_both p (sort_names d sort.Group) (flat_map (sort_names d) (sort.Page ∷ [])) compounds.1 in
    let pages = none_of_both p (sort_names d sort.Page) [] groups.1 in
    by shapes.0 guides.0 links.0 compounds.0 groups.0 pages.0 s
  where
    by : list_any (same_name n) (sort_names d sort.Shape) ≡ false → list_any (same_name n) (sort_names d sort.Guide) ≡ false
        → list_any (same_name n) (sort_names d sort.Link) ≡ false → list_any (same_name n) (sort_names d sort.Compound) ≡ false
        → list_any (same_name n) (sort_names d sort.Group) ≡ false → list_any (same_name n) (sort_names d sort.Page) ≡ false
        → (s : Sort) → list_any (same_name n) (sort_names d s) ≡ false
    by a b c d e f sort.Shape = a
    by a b c d e f sort.Guide = b
    by a b c d e f sort.Link = c
    by a b c d e f sort.Compound = d
    by a b c d e f sort.Group = e
    by a b c d e f sort.Page = f

-- an item is found among a sort exactly where one of the sort has the name
is_some-among : (d : Diagram) (n : NameOf) (s : Sort) → is_some (item_among d n s) ≡ list_any (same_name n) (sort_names d s)
is_some-among d n s = by (position (same_name n) (sort_names d s)) ∙ is_some-position (same_name n) (sort_names d s)
  where
    by : (o : Option ℕ) → is_some {T = Item} (option_map (λ at. record { sort = s; at = at }) o) ≡ is_some o
    by None = refl
    by (Some k) = refl

-- and among these sorts exactly where one of them has
pub is_some-in : (d : Diagram) (n : NameOf) (sorts : List Sort) → is_some (item_in d n sorts) ≡ list_any (same_name n) (flat_map (sort_names d) sorts)
is_some-in d n [] = refl
is_some-in d n (s ∷ more) =
    either (item_among d n s) (item_in d n more) ∙ (λ j. is_some-among d n s j || is_some-in d n more j) ∙ sym (list_any-append (same_name n) (sort_names d s) (flat_map (sort_names d) more))
  where
    either : {A : Type 0} (a b : Option A) → is_some (option_or a b) ≡ (is_some a || is_some b)
    either None b = refl
    either (Some x) b = refl

-- the sorts behind a sort
abbrev behind : Sort → List Sort
behind sort.Shape = sort.Guide ∷ sort.Link ∷ sort.Compound ∷ sort.Group ∷ sort.Page ∷ []
behind sort.Guide = sort.Link ∷ sort.Compound ∷ sort.Group ∷ sort.Page ∷ []
behind sort.Link = sort.Compound ∷ sort.Group ∷ sort.Page ∷ []
behind sort.Compound = sort.Group ∷ sort.Page ∷ []
behind sort.Group = sort.Page ∷ []
behind sort.Page = []

-- no item of the sort has the name, so that one of those behind it is found
skip : (d : Diagram) (n : NameOf) (s : Sort) → list_any (same_name n) (sort_names d s) ≡ false → item_in d n (s ∷ behind s) ≡ item_in d n (behind s)
skip d n s free = ap (λ o. option_or (option_map (λ (at : ℕ). record { sort = s; at = at }) o) (item_in d n (behind s))) (position-free (same_name n) (sort_names d s) free)

-- one of the sort has it
here : (d : Diagram) (n : NameOf) (s : Sort) (k : ℕ) → position (same_name n) (sort_names d s) ≡ Some k → item_in d n (s ∷ behind s) ≡ Some (record { sort = s; at = k })
here d n s k at = ap (λ o. option_or (option_map (λ (i : ℕ). record { sort = s; at = i }) o) (item_in d n (behind s))) at

-- ---- what a name finds

-- an item at a place of its sort, whichever sort
module _ {T : Type 0} (con : T → Thing) (same : (a b : T) → con a ≡ con b → a ≡ b) where
  pub found_as : (o : Option T) (x : T) → option_map con o ≡ Some (con x) → o ≡ Some x
  found_as None x is = cc
  found_as (Some y) x is = let equal : con y ≡ con x = cc in ap Some (same y x equal)

named_at : {T : Type 0} (con : T → Thing) (name_of : T → NameOf) → ((x : T) → name_of_thing (con x) ≡ name_of x) → (xs : List T) (n : NameOf) (k : ℕ)
    → position (same_name n) (map name_of xs) ≡ Some k → (t : Thing) × (option_map con (slice_get xs k) ≡ Some t) × (name_of_thing t ≡ n)
named_at con name_of is xs n k found = let x = position_named name_of xs n k found in (con x.0, ap (option_map con) x.1, is x.0 ∙ x.2)

-- what is found among a sort stands at its place, under the name
among_found : (d : Diagram) (n : NameOf) (s : Sort) (k : ℕ) → position (same_name n) (sort_names d s) ≡ Some k → (t : Thing) × (thing_at d s k ≡ Some t) × (name_of_thing t ≡ n)
among_found d n sort.Shape k found = named_at thing.Shape (λ (x : Shape). x.name) (λ x. refl) d.shapes n k found
among_found d n sort.Guide k found = named_at thing.Guide (λ (x : Guide). x.name) (λ x. refl) d.guides n k found
among_found d n sort.Link k found = named_at thing.Link (λ (x : Link). x.name) (λ x. refl) d.links n k found
among_found d n sort.Compound k found = named_at thing.Compound (λ (x : Compound). x.name) (λ x. refl) d.compounds n k found
among_found d n sort.Group k found = named_at thing.Group (λ (x : Group). x.name) (λ x. refl) d.groups n k found
among_found d n sort.Page k found = named_at thing.Page (λ (x : Page). x.name) (λ x. refl) d.pages n k found

-- what is found among some sorts is found among one of them
in_found : (d : Diagram) (n : NameOf) (sorts : List Sort) (item : Item) → item_in d n sorts ≡ Some item → position (same_name n) (sort_names d item.sort) ≡ Some item.at
in_found d n [] item found = cc
in_found d n (s ∷ more) item found = by (position (same_name n) (sort_names d s)) refl found (in_found d n more item)
  where
    by : (o : Option ℕ) → position (same_name n) (sort_names d s) ≡ o → option_or (option_map (λ at. record { sort = s; at = at }) o) (item_in d n more) ≡ Some item
        → (item_in d n more ≡ Some item → position (same_name n) (sort_names d item.sort) ≡ Some item.at) → position (same_name n) (sort_names d item.sort) ≡ Some item.at
    by (Some k) at e rest = let same : record { sort = s; at = k } ≡ item = cc in subst (λ (i : Item). position (same_name n) (sort_names d i.sort) ≡ Some i.at) same at
    by None at e rest = rest e

-- what a name finds stands at its place, under the name
pub item_found : (d : Diagram) (n : NameOf) (item : Item) → item_named d n ≡ Some item → (t : Thing) × (thing_at d item.sort item.at ≡ Some t) × (name_of_thing t ≡ n)
item_found d n item found = among_found d n item.sort item.at (in_found d n all_sorts item found)

-- a name that finds an item of a sort is the name of one
pub sort_stands : (d : Diagram) (n : NameOf) (s : Sort) → sort_named d n ≡ Some s → list_any (same_name n) (sort_names d s) ≡ true
sort_stands d n s found = by (item_named d n) refl found
  where
    by : (o : Option Item) → item_named d n ≡ o → option_map (λ (item : Item). item.sort) o ≡ Some s → list_any (same_name n) (sort_names d s) ≡ true
    by None is e = cc
    by (Some item) is e =
        let same : item.sort ≡ s = cc in
        subst (λ t. list_any (same_name n) (sort_names d t) ≡ true) same (sym (is_some-position (same_name n) (sort_names d item.sort)) ∙ ap is_some (in_found d n all_sorts item is))

-- the same of an item that is given
pub thing_stands : (d : Diagram) (t u : Thing) → t ≡ u → sort_named d (name_of_thing t) ≡ Some (sort_of t) → list_any (same_name (name_of_thing u)) (sort_names d (sort_of u)) ≡ true
thing_stands d t u same found = subst (λ x. list_any (same_name (name_of_thing x)) (sort_names d (sort_of x)) ≡ true) same (sort_stands d (name_of_thing t) (sort_of t) found)

-- an item at a place of a sort is of the sort
sort_is : {T : Type 0} (con : T → Thing) (s : Sort) → ((x : T) → sort_of (con x) ≡ s) → (o : Option T) (t : Thing) → option_map con o ≡ Some t → s ≡ sort_of t
sort_is con s is None t at = cc
sort_is con s is (Some x) t at = let same : con x ≡ t = cc in sym (is x) ∙ ap sort_of same

pub sort_at : (d : Diagram) (s : Sort) (k : ℕ) (t : Thing) → thing_at d s k ≡ Some t → s ≡ sort_of t
sort_at d sort.Shape k t at = sort_is thing.Shape sort.Shape (λ x. refl) (slice_get d.shapes k) t at
sort_at d sort.Guide k t at = sort_is thing.Guide sort.Guide (λ x. refl) (slice_get d.guides k) t at
sort_at d sort.Link k t at = sort_is thing.Link sort.Link (λ x. refl) (slice_get d.links k) t at
sort_at d sort.Compound k t at = sort_is thing.Compound sort.Compound (λ x. refl) (slice_get d.compounds k) t at
sort_at d sort.Group k t at = sort_is thing.Group sort.Group (λ x. refl) (slice_get d.groups k) t at
sort_at d sort.Page k t at = sort_is thing.Page sort.Page (λ x. refl) (slice_get d.pages k) t at

-- an item that a name finds whole: its place, its sort, and its name
pub record IsFound (d : Diagram) (n : NameOf) (t : Thing) : Type 0 where
  pub at : ℕ
  pub item : item_named d n ≡ Some (record { sort = sort_of t; at = at })
  pub there : thing_at d (sort_of t) at ≡ Some t
  pub named : name_of_thing t ≡ n

pub thing_found_is : (d : Diagram) (n : NameOf) (t : Thing) → thing_named d n ≡ Some t → IsFound d n t
thing_found_is d n t found = by (item_named d n) refl found
  where
    by : (o : Option Item) → item_named d n ≡ o → thing_found d o ≡ Some t → IsFound d n t
    by None is found = cc
    by (Some item) is found =
        let sorted = sort_at d item.sort item.at t found in
        let x = item_found d n item is in
        let same : x.0 ≡ t = cc in
        record {
          at = item.at;
          item = is ∙ ap (λ s. Some (record { sort = s; at = item.at })) sorted;
          there = subst (λ s. thing_at d s item.at ≡ Some t) sorted found;
          named = ap name_of_thing (sym same) ∙ x.2;
        }

-- ---- taken out and put back

-- an item that was taken out, put back at its place
pub put_back-taken : (d : Diagram) (at : ℕ) (t : Thing) → thing_at d (sort_of t) at ≡ Some t → with_thing_at (without_at d (sort_of t) at) at t ≡ d
put_back-taken d at (thing.Shape x) there = ap (λ xs. record d { shapes = xs }) (insert-removed d.shapes at x (found_as thing.Shape (λ a b e. cc) (slice_get d.shapes at) x there))
put_back-taken d at (thing.Guide x) there = ap (λ xs. record d { guides = xs }) (insert-removed d.guides at x (found_as thing.Guide (λ a b e. cc) (slice_get d.guides at) x there))
put_back-taken d at (thing.Link x) there = ap (λ xs. record d { links = xs }) (insert-removed d.links at x (found_as thing.Link (λ a b e. cc) (slice_get d.links at) x there))
put_back-taken d at (thing.Compound x) there = ap (λ xs. record d { compounds = xs }) (insert-removed d.compounds at x (found_as thing.Compound (λ a b e. cc) (slice_get d.compounds at) x there))
put_back-taken d at (thing.Group x) there = ap (λ xs. record d { groups = xs }) (insert-removed d.groups at x (found_as thing.Group (λ a b e. cc) (slice_get d.groups at) x there))
put_back-taken d at (thing.Page x) there = ap (λ xs. record d { pages = xs }) (insert-removed d.pages at x (found_as thing.Page (λ a b e. cc) (slice_get d.pages at) x there))

-- an item of a new name, put in at a place, is found there
found-put_back : (d : Diagram) (at : ℕ) (t : Thing) → at ≤ count_of d (sort_of t) → stands d (name_of_thing t) ≡ false
    → item_named (with_thing_at d at t) (name_of_thing t) ≡ Some (record { sort = sort_of t; at = at })
found-put_back d at (thing.Shape x) within free =
    let e = with_thing_at d at (thing.Shape x) in
    let free_as = free_in d x.name free in
    here e x.name sort.Shape at (position-inserted (λ (y : Shape). y.name) d.shapes at x within (free_as sort.Shape))
found-put_back d at (thing.Guide x) within free =
    let e = with_thing_at d at (thing.Guide x) in
    let free_as = free_in d x.name free in
    skip e x.name sort.Shape (free_as sort.Shape) ∙ here e x.name sort.Guide at (position-inserted (λ (y : Guide). y.name) d.guides at x within (free_as sort.Guide))
found-put_back d at (thing.Link x) within free =
    let e = with_thing_at d at (thing.Link x) in
    let free_as = free_in d x.name free in
    skip e x.name sort.Shape (free_as sort.Shape) ∙ skip e x.name sort.Guide (free_as sort.Guide)
    ∙ here e x.name sort.Link at (position-inserted (λ (y : Link). y.name) d.links at x within (free_as sort.Link))
found-put_back d at (thing.Compound x) within free =
    let e = with_thing_at d at (thing.Compound x) in
    let free_as = free_in d x.name free in
    skip e x.name sort.Shape (free_as sort.Shape) ∙ skip e x.name sort.Guide (free_as sort.Guide) ∙ skip e x.name sort.Link (free_as sort.Link)
    ∙ here e x.name sort.Compound at (position-inserted (λ (y : Compound). y.name) d.compounds at x within (free_as sort.Compound))
found-put_back d at (thing.Group x) within free =
    let e = with_thing_at d at (thing.Group x) in
    let free_as = free_in d x.name free in
    skip e x.name sort.Shape (free_as sort.Shape) ∙ skip e x.name sort.Guide (free_as sort.Guide) ∙ skip e x.name sort.Link (free_as sort.Link)
    ∙ skip e x.name sort.Compound (free_as sort.Compound)
    ∙ here e x.name sort.Group at (position-inserted (λ (y : Group). y.name) d.groups at x within (free_as sort.Group))
found-put_back d at (thing.Page x) within free =
    let e = with_thing_at d at (thing.Page x) in
    let free_as = free_in d x.name free in
    skip e x.name sort.Shape (free_as sort.Shape) ∙ skip e x.name sort.Guide (free_as sort.Guide) ∙ skip e x.name sort.Link (free_as sort.Link)
    ∙ skip e x.name sort.Compound (free_as sort.Compound) ∙ skip e x.name sort.Group (free_as sort.Group)
    ∙ here e x.name sort.Page at (position-inserted (λ (y : Page). y.name) d.pages at x within (free_as sort.Page))

-- taken out of its place, it leaves the diagram as it was
without_at-put_back : (d : Diagram) (at : ℕ) (t : Thing) → at ≤ count_of d (sort_of t) → without_at (with_thing_at d at t) (sort_of t) at ≡ d
without_at-put_back d at (thing.Shape x) within = ap (λ xs. record d { shapes = xs }) (remove-inserted d.shapes at x within)
without_at-put_back d at (thing.Guide x) within = ap (λ xs. record d { guides = xs }) (remove-inserted d.guides at x within)
without_at-put_back d at (thing.Link x) within = ap (λ xs. record d { links = xs }) (remove-inserted d.links at x within)
without_at-put_back d at (thing.Compound x) within = ap (λ xs. record d { compounds = xs }) (remove-inserted d.compounds at x within)
without_at-put_back d at (thing.Group x) within = ap (λ xs. record d { groups = xs }) (remove-inserted d.groups at x within)
without_at-put_back d at (thing.Page x) within = ap (λ xs. record d { pages = xs }) (remove-inserted d.pages at x within)

-- an item of a new name, put in at a place and taken out by its name
pub without-put_back : (d : Diagram) (at : ℕ) (t : Thing) → at ≤ count_of d (sort_of t) → stands d (name_of_thing t) ≡ false → without (with_thing_at d at t) (name_of_thing t) ≡ d
without-put_back d at t within free =
    ap (λ o. option_map_or (λ (item : Item). without_at (with_thing_at d at t) item.sort item.at) o (with_thing_at d at t)) (found-put_back d at t within free)
    ∙ without_at-put_back d at t within
