-- What the record of an edit takes back.
use Rattle.std.proofs.Common.{◌≡◌, ◌≤◌, ℕ, zero, suc, List, [], ◌∷◌, ◌++◌, Bool, true, false, cond, ◌||◌, length, map, get_or, refl, ap, sym, ◌∙◌, subst, arith, slice_get, Some}
use Rattle.std.specs.Prelude.{position, slice_set}
use Rattle.std.specs.List.{IsDistinct, list_any, remove}
use Rattle.std.specs.Option.{option_map, option_map_or, option_or}
use Rattle.std.proofs.lemmas.List.{length-map}
use Rattle.std.proofs.lemmas.List.Edits.{length-remove}
use Rattle.std.proofs.lemmas.Map.Keys.{IsDistinct-tail, apart_from_distinct}
use Rattle.std.proofs.lemmas.Option.{slice_get_within, get_or_from_slice_get}
use Rattle.std.proofs.lemmas.Slice.Eq.{bytes_eq-Decides}
use Rattle.scene_model.specs.declared.items.Item.{Item}
use Rattle.scene_model.specs.declared.items.Shape.{Shape}
use Rattle.scene_model.specs.declared.items.Guide.{Guide}
use Rattle.scene_model.specs.declared.items.Link.{Link}
use Rattle.scene_model.specs.declared.items.Compound.{Compound}
use Rattle.scene_model.specs.declared.items.Group.{Group}
use Rattle.scene_model.specs.declared.items.Page.{Page}
use Rattle.scene_model.specs.declared.items.Sort.TheVariants as sort
use Rattle.scene_model.specs.declared.items.Thing.{Thing}
use Rattle.scene_model.specs.declared.items.Thing.TheVariants as thing
use Rattle.scene_model.specs.Names.{NameOf, same_name}
use Rattle.scene_model.specs.Naming.{replaced}
use Rattle.scene_model.specs.Sound.{IsSound}
use Rattle.scene_model.specs.Diagram.{Diagram, sort_names}
use Rattle.scene_model.specs.Items.{stands, count_of, item_among, item_in, item_named, sort_named, thing_named, thing_at, name_of_thing, sort_of, with_thing, with_replaced, without, without_at}
use Rattle.scene_model.proofs.AllNames.{free-without_at, sort_distinct}
use Rattle.scene_model.proofs.Changes.{map-replaced}
use Rattle.scene_model.proofs.Named.{same_name-sym}
use Rattle.scene_model.proofs.Places.{IsFound, found_as, free_in, put_back-taken, slice_get-map, thing_found_is, without-put_back}
use Rattle.scene_model.proofs.Positions.{position-next}
use Rattle.scene_model.proofs.Sound.{with_thing_at-end}
use Rattle.scene_model.proofs.Using.{set-replaced}
use Rattle.edit_rules.specs.Effects.{with_shape, with_guide, with_found_shape, with_found_guide}
use Rattle.undo_store.specs.declared.records.Record.TheVariants as back
use Rattle.undo_store.specs.TakenBack.{TakesBack}

-- ---- an item that was made

any-end : {T : Type 0} (name_of : T → NameOf) (xs : List T) (x : T) → list_any (same_name (name_of x)) (map name_of (xs ++ x ∷ [])) ≡ true
any-end name_of [] x = ap (λ b. b || false) ((bytes_eq-Decides (name_of x) (name_of x)).1 refl)
any-end name_of (y ∷ ys) x = by (same_name (name_of x) (name_of y)) (any-end name_of ys x)
  where
    by : (b : Bool) → list_any (same_name (name_of x)) (map name_of (ys ++ x ∷ [])) ≡ true → (b || list_any (same_name (name_of x)) (map name_of (ys ++ x ∷ []))) ≡ true
    by true rest = refl
    by false rest = rest

any-made : (d : Diagram) (t : Thing) → list_any (same_name (name_of_thing t)) (sort_names (with_thing d t) (sort_of t)) ≡ true
any-made d (thing.Shape x) = any-end (λ (y : Shape). y.name) d.shapes x
any-made d (thing.Guide x) = any-end (λ (y : Guide). y.name) d.guides x
any-made d (thing.Link x) = any-end (λ (y : Link). y.name) d.links x
any-made d (thing.Compound x) = any-end (λ (y : Compound). y.name) d.compounds x
any-made d (thing.Group x) = any-end (λ (y : Group). y.name) d.groups x
any-made d (thing.Page x) = any-end (λ (y : Page). y.name) d.pages x

stands-made : (d : Diagram) (t : Thing) → stands (with_thing d t) (name_of_thing t) ≡ true
stands-made d t = by (stands (with_thing d t) (name_of_thing t)) refl
  where
    by : (b : Bool) → stands (with_thing d t) (name_of_thing t) ≡ b → b ≡ true
    by true is = refl
    by false is = let free = free_in (with_thing d t) (name_of_thing t) is (sort_of t) in let there = any-made d t in cc

pub takes_back-made : (d : Diagram) (t : Thing) → IsSound d → stands d (name_of_thing t) ≡ false → TakesBack (back.Made (name_of_thing t)) d (with_thing d t)
takes_back-made d t sound free = record {
  can = stands-made d t;
  is =
      ap (λ e. without e (name_of_thing t)) (sym (with_thing_at-end d t))
      ∙ without-put_back d (count_of d (sort_of t)) t (omega arith) free;
  sound = sound;
}

-- ---- an item that was taken out

one_less : {A : Type 0} (xs : List A) (k : ℕ) (x : A) → slice_get xs k ≡ Some x → k ≤ length (remove xs k)
one_less xs k x at = let within = slice_get_within xs k x at in omega (arith, within, length-remove xs k within)

within-without_at : (d : Diagram) (at : ℕ) (t : Thing) → thing_at d (sort_of t) at ≡ Some t → at ≤ count_of (without_at d (sort_of t) at) (sort_of t)
within-without_at d at (thing.Shape x) there = one_less d.shapes at x (found_as thing.Shape (λ a b e. cc) (slice_get d.shapes at) x there)
within-without_at d at (thing.Guide x) there = one_less d.guides at x (found_as thing.Guide (λ a b e. cc) (slice_get d.guides at) x there)
within-without_at d at (thing.Link x) there = one_less d.links at x (found_as thing.Link (λ a b e. cc) (slice_get d.links at) x there)
within-without_at d at (thing.Compound x) there = one_less d.compounds at x (found_as thing.Compound (λ a b e. cc) (slice_get d.compounds at) x there)
within-without_at d at (thing.Group x) there = one_less d.groups at x (found_as thing.Group (λ a b e. cc) (slice_get d.groups at) x there)
within-without_at d at (thing.Page x) there = one_less d.pages at x (found_as thing.Page (λ a b e. cc) (slice_get d.pages at) x there)

pub takes_back-taken : (d : Diagram) (n : NameOf) (at : ℕ) (t : Thing) → IsSound d → item_named d n ≡ Some (record { sort = sort_of t; at = at }) → thing_at d (sort_of t) at ≡ Some t
    → TakesBack (back.Taken at t) d (without d n)
takes_back-taken d n at t sound found there =
    let gone : without d n ≡ without_at d (sort_of t) at = ap (λ o. option_map_or (λ (item : Item). without_at d item.sort item.at) o d) found in
    subst (TakesBack (back.Taken at t) d) (sym gone) (record {
      can = (within-without_at d at t there, free-without_at d at t sound.distinct there);
      is = put_back-taken d at t there;
      sound = sound;
    })

-- ---- an item that was changed

set-again : {A : Type 0} (xs : List A) (k : ℕ) (x y : A) → slice_get xs k ≡ Some x → slice_set (slice_set xs k y) k x ≡ xs
set-again [] k x y at = cc
set-again (z ∷ zs) zero x y at = let e : z ≡ x = cc in ap (λ v. v ∷ zs) (sym e)
set-again (z ∷ zs) (suc k) x y at = ap (λ vs. z ∷ vs) (set-again zs k x y at)

module _ {T : Type 0} (name_of : T → NameOf) (x : T) where
  -- where names differ an item is found under its name
  position-at : (xs : List T) (k : ℕ) → IsDistinct same_name (map name_of xs) → slice_get xs k ≡ Some x → position (same_name (name_of x)) (map name_of xs) ≡ Some k
  position-at [] k distinct at = cc
  position-at (y ∷ ys) zero distinct at =
      let same : y ≡ x = cc in
      position-next (same_name (name_of x)) (name_of y) (map name_of ys)
      ∙ ap (λ b. cond b (Some 0) (option_map suc (position (same_name (name_of x)) (map name_of ys)))) ((bytes_eq-Decides (name_of x) (name_of y)).1 (ap name_of (sym same)))
  position-at (y ∷ ys) (suc k) distinct at =
      position-next (same_name (name_of x)) (name_of y) (map name_of ys)
      ∙ ap (λ b. cond b (Some 0) (option_map suc (position (same_name (name_of x)) (map name_of ys)))) (same_name-sym (name_of x) (name_of y) ∙ differs)
      ∙ ap (option_map suc) (position-at ys k (IsDistinct-tail same_name (name_of y) (map name_of ys) distinct) at)
    where
      names : get_or (map name_of ys) k (name_of y) ≡ name_of x
      names = get_or_from_slice_get (map name_of ys) k (name_of x) (name_of y) (slice_get-map name_of ys k ∙ ap (option_map name_of) at)

      differs : same_name (name_of y) (name_of x) ≡ false
      differs =
          let within = slice_get_within ys k x at in
          ap (same_name (name_of y)) (sym names)
          ∙ apart_from_distinct same_name (map name_of (y ∷ ys)) 0 (suc k) (name_of y) distinct (omega arith) (omega (arith, within, length-map ys name_of))

  -- the item that another of its name has replaced, put in the place of that one
  replaced-again : (y : T) (xs : List T) (k : ℕ) → IsDistinct same_name (map name_of xs) → name_of y ≡ name_of x → slice_get xs k ≡ Some x → replaced name_of x (replaced name_of y xs) ≡ xs
  replaced-again y xs k distinct same at =
      let found = position-at xs k distinct at in
      let names : map name_of (replaced name_of y xs) ≡ map name_of xs = map-replaced name_of y xs in
      let first : slice_set xs k y ≡ replaced name_of y xs = set-replaced name_of y xs k distinct (ap (λ n. position (same_name n) (map name_of xs)) same ∙ found) in
      sym (set-replaced name_of x (replaced name_of y xs) k (subst (IsDistinct same_name) (sym names) distinct) (ap (position (same_name (name_of x))) names ∙ found))
      ∙ ap (λ zs. slice_set zs k x) (sym first)
      ∙ set-again xs k x y at

-- the sort that a name finds, of an item that it finds whole
sort_found : (d : Diagram) (n : NameOf) (t : Thing) → IsFound d n t → sort_named d n ≡ Some (sort_of t)
sort_found d n t found = ap (option_map (λ (item : Item). item.sort)) found.item

takes_back-shape : (d : Diagram) (n : NameOf) (s u : Shape) → IsSound d → u.name ≡ s.name → thing_named d n ≡ Some (thing.Shape s) → TakesBack (back.Changed (thing.Shape s)) d (with_replaced d (thing.Shape u))
takes_back-shape d n s u sound same found =
    let x = thing_found_is d n (thing.Shape s) found in
    let others = item_in d s.name (sort.Guide ∷ sort.Link ∷ sort.Compound ∷ sort.Group ∷ sort.Page ∷ []) in
    record {
      can =
          ap (λ names. option_map (λ (item : Item). item.sort) (option_or (option_map (λ (at : ℕ). record { sort = sort.Shape; at = at }) (position (same_name s.name) names)) others))
          (map-replaced (λ (y : Shape). y.name) u d.shapes)
          ∙ ap (sort_named d) x.named
          ∙ sort_found d n (thing.Shape s) x;
      is =
          ap (λ shapes. record d { shapes = shapes })
          (replaced-again (λ (y : Shape). y.name) s u d.shapes x.at (sort_distinct d sort.Shape sound.distinct) same (found_as thing.Shape (λ a b e. cc) (slice_get d.shapes x.at) s x.there));
      sound = sound;
    }

takes_back-guide : (d : Diagram) (n : NameOf) (g u : Guide) → IsSound d → u.name ≡ g.name → thing_named d n ≡ Some (thing.Guide g) → TakesBack (back.Changed (thing.Guide g)) d (with_replaced d (thing.Guide u))
takes_back-guide d n g u sound same found =
    let x = thing_found_is d n (thing.Guide g) found in
    let shape = item_among d g.name sort.Shape in
    let others = item_in d g.name (sort.Link ∷ sort.Compound ∷ sort.Group ∷ sort.Page ∷ []) in
    record {
      can =
          ap (λ names. option_map (λ (item : Item). item.sort) (option_or shape (option_or (option_map (λ (at : ℕ). record { sort = sort.Guide; at = at }) (position (same_name g.name) names)) others)))
          (map-replaced (λ (y : Guide). y.name) u d.guides)
          ∙ ap (sort_named d) x.named
          ∙ sort_found d n (thing.Guide g) x;
      is =
          ap (λ guides. record d { guides = guides })
          (replaced-again (λ (y : Guide). y.name) g u d.guides x.at (sort_distinct d sort.Guide sound.distinct) same (found_as thing.Guide (λ a b e. cc) (slice_get d.guides x.at) g x.there));
      sound = sound;
    }

-- an item of a name that finds a shape, or a guideline, is one
pub takes_back-with_shape : (d : Diagram) (n : NameOf) (t : Thing) (change : Shape → Shape) → IsSound d → ((s : Shape) → (change s).name ≡ s.name) → sort_named d n ≡ Some sort.Shape → thing_named d n ≡ Some t
    → TakesBack (back.Changed t) d (with_shape d n change)
takes_back-with_shape d n t change sound keeps stands found = subst (λ o. TakesBack (back.Changed t) d (with_found_shape d change o)) (sym found) (by t found (sort_found d n t (thing_found_is d n t found)))
  where
    by : (t : Thing) → thing_named d n ≡ Some t → sort_named d n ≡ Some (sort_of t) → TakesBack (back.Changed t) d (with_found_shape d change (Some t))
    by (thing.Shape s) found is = takes_back-shape d n s (change s) sound (keeps s) found
    by (thing.Guide x) found is = cc
    by (thing.Link x) found is = cc
    by (thing.Compound x) found is = cc
    by (thing.Group x) found is = cc
    by (thing.Page x) found is = cc

pub takes_back-with_guide : (d : Diagram) (n : NameOf) (t : Thing) (change : Guide → Guide) → IsSound d → ((g : Guide) → (change g).name ≡ g.name) → sort_named d n ≡ Some sort.Guide → thing_named d n ≡ Some t
    → TakesBack (back.Changed t) d (with_guide d n change)
takes_back-with_guide d n t change sound keeps stands found = subst (λ o. TakesBack (back.Changed t) d (with_found_guide d change o)) (sym found) (by t found (sort_found d n t (thing_found_is d n t found)))
  where
    by : (t : Thing) → thing_named d n ≡ Some t → sort_named d n ≡ Some (sort_of t) → TakesBack (back.Changed t) d (with_found_guide d change (Some t))
    by (thing.Guide g) found is = takes_back-guide d n g (change g) sound (keeps g) found
    by (thing.Shape x) found is = cc
    by (thing.Link x) found is = cc
    by (thing.Compound x) found is = cc
    by (thing.Group x) found is = cc
    by (thing.Page x) found is = cc
