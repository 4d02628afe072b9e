-- A sound diagram stays sound.
use Rattle.std.proofs.Common.{◌≡◌, ℕ, zero, suc, List, [], ◌∷◌, ◌++◌, Bool, true, false, cond, ◌||◌, ◌&&◌, length, map, Option, Some, None, refl, ap, sym, ◌∙◌, arith, subst, slice_get}
use Rattle.std.specs.Prelude.{find, ⊤}
use Rattle.std.specs.List.{IsDistinct, AllByRecursion, list_any, insert, remove, flat_map}
use Rattle.std.specs.Option.{option_map, option_map_or}
use Rattle.std.proofs.lemmas.List.{length-map}
use Rattle.std.proofs.lemmas.List.Edits.{insert_end}
use Rattle.std.proofs.lemmas.Map.Keys.{IsDistinct-head, IsDistinct-tail}
use Rattle.std.proofs.lemmas.Bool.{false≢true}
use Rattle.std.proofs.lemmas.Slice.Eq.{bytes_eq-Decides}
use Rattle.units.specs.declared.geometry.Axis.{Axis}
use Rattle.scene_model.specs.declared.items.Shape.{Shape}
use Rattle.scene_model.specs.declared.items.Guide.{Guide}
use Rattle.scene_model.specs.declared.items.Link.{Link}
use Rattle.scene_model.specs.declared.items.Compound.{Compound}
use Rattle.scene_model.specs.declared.items.Group.{Group}
use Rattle.scene_model.specs.declared.items.Item.{Item}
use Rattle.scene_model.specs.declared.items.Sort.TheVariants as sort
use Rattle.scene_model.specs.declared.items.Thing.{Thing}
use Rattle.scene_model.specs.declared.items.Thing.TheVariants as thing
use Rattle.scene_model.specs.declared.uses.Wanted.{Wanted}
use Rattle.scene_model.specs.declared.uses.Wanted.TheVariants as wanted
use Rattle.scene_model.specs.Names.{NameOf, same_name, same_axis}
use Rattle.scene_model.specs.Naming.{replaced}
use Rattle.scene_model.specs.Diagram.{Diagram, shape_names, guide_names, sort_names}
use Rattle.scene_model.specs.Uses.{has_shape, has_guide_on, stands_as, Use, IsUser, is_used_in, User, users, user_of, link_uses, rule_uses, group_uses, link_user, compound_user, group_user}
use Rattle.scene_model.specs.Sound.{IsSound, IsShape, IsGuide, IsLink, IsCompound, IsGroup, IsPage}
use Rattle.scene_model.specs.Items.{stands, count_of, name_of_thing, sort_of, thing_at, thing_named, IsThing, HasRoomFor, with_thing, with_replaced, without_at, without, with_thing_at}
use Rattle.scene_model.proofs.Changes.{map-insert, map-remove, map-replaced, All-insert, All-remove, All-replaced, length-insert, length-remove}
use Rattle.scene_model.proofs.AllNames.{distinct-put_back, distinct-without_at, sort_distinct}
use Rattle.scene_model.proofs.Named.{same_name-sym}
use Rattle.scene_model.proofs.Places.{found_as, thing_found_is, slice_get-map}

-- ---- lists

-- what each has makes what each is to have
All-mono : {A : Type 0} (P Q : A → Type 0) → ((x : A) → P x → Q x) → (xs : List A) → AllByRecursion P xs → AllByRecursion Q xs
All-mono P Q to [] all = tt
All-mono P Q to (x ∷ xs) all = (to x all.0, All-mono P Q to xs all.1)

-- of two things that each has
All-both : {A : Type 0} (P R Q : A → Type 0) → ((x : A) → P x → R x → Q x) → (xs : List A) → AllByRecursion P xs → AllByRecursion R xs → AllByRecursion Q xs
All-both P R Q to [] p r = tt
All-both P R Q to (x ∷ xs) p r = (to x p.0 r.0, All-both P R Q to xs p.1 r.1)

either_true : (a b : Bool) → a ≡ true → (a || b) ≡ true
either_true true b is = refl
either_true false b is = cc

or_true : (a b : Bool) → b ≡ true → (a || b) ≡ true
or_true true b is = refl
or_true false b is = is

-- of two facts of which one holds, each makes what is to hold
from_either : (a b a' b' : Bool) → (a ≡ true → a' ≡ true) → (b ≡ true → b' ≡ true) → (a || b) ≡ true → (a' || b') ≡ true
from_either true b a' b' on_a on_b is = either_true a' b' (on_a refl)
from_either false b a' b' on_a on_b is = or_true a' b' (on_b is)

any-insert : {A : Type 0} (p : A → Bool) (xs : List A) (k : ℕ) (x : A) → list_any p xs ≡ true → list_any p (insert xs k x) ≡ true
any-insert p [] k x is = cc
any-insert p (y ∷ ys) zero x is = or_true (p x) (list_any p (y ∷ ys)) is
any-insert p (y ∷ ys) (suc k) x is = from_either (p y) (list_any p ys) (p y) (list_any p (insert ys k x)) (λ h. h) (any-insert p ys k x) is

any-remove : {A : Type 0} (p : A → Bool) (xs : List A) (k : ℕ) (x : A) → slice_get xs k ≡ Some x → p x ≡ false → list_any p xs ≡ true → list_any p (remove xs k) ≡ true
any-remove p [] k x at not is = cc
any-remove p (y ∷ ys) zero x at not is =
    let same : y ≡ x = cc in
    ap (λ b. b || list_any p ys) (sym (ap p same ∙ not)) ∙ is
any-remove p (y ∷ ys) (suc k) x at not is = from_either (p y) (list_any p ys) (p y) (list_any p (remove ys k)) (λ h. h) (any-remove p ys k x at not) is

-- ---- what stands still does

-- with a shape more
as_before-shape : (shapes : List Shape) (guides : List Guide) (k : ℕ) (s : Shape) (w : Wanted) (n : NameOf) → stands_as shapes guides w n ≡ true → stands_as (insert shapes k s) guides w n ≡ true
as_before-shape shapes guides k s w n is = by w is
  where
    has : has_shape shapes n ≡ true → has_shape (insert shapes k s) n ≡ true
    has is = subst (λ ns. list_any (same_name n) ns ≡ true) (sym (map-insert (λ (x : Shape). x.name) shapes k s)) (any-insert (same_name n) (shape_names shapes) k s.name is)

    by : (w : Wanted) → stands_as shapes guides w n ≡ true → stands_as (insert shapes k s) guides w n ≡ true
    by wanted.Shape is = has is
    by wanted.Guide is = is
    by (wanted.Placed axis) is = from_either (has_shape shapes n) (has_guide_on axis guides n) (has_shape (insert shapes k s) n) (has_guide_on axis guides n) has (λ h. h) is

-- with a guideline more
as_before-guide : (shapes : List Shape) (guides : List Guide) (k : ℕ) (g : Guide) (w : Wanted) (n : NameOf) → stands_as shapes guides w n ≡ true → stands_as shapes (insert guides k g) w n ≡ true
as_before-guide shapes guides k g w n is = by w is
  where
    by : (w : Wanted) → stands_as shapes guides w n ≡ true → stands_as shapes (insert guides k g) w n ≡ true
    by wanted.Shape is = is
    by wanted.Guide is = subst (λ ns. list_any (same_name n) ns ≡ true) (sym (map-insert (λ (x : Guide). x.name) guides k g)) (any-insert (same_name n) (guide_names guides) k g.name is)
    by (wanted.Placed axis) is =
        from_either (has_shape shapes n) (has_guide_on axis guides n) (has_shape shapes n) (has_guide_on axis (insert guides k g) n)
        (λ h. h) (any-insert (λ (x : Guide). same_name n x.name && same_axis x.axis axis) guides k g) is

-- without a shape of another name
as_before-no_shape : (shapes : List Shape) (guides : List Guide) (k : ℕ) (s : Shape) → slice_get shapes k ≡ Some s → (w : Wanted) (n : NameOf) → same_name s.name n ≡ false
    → stands_as shapes guides w n ≡ true → stands_as (remove shapes k) guides w n ≡ true
as_before-no_shape shapes guides k s at w n other is = by w is
  where
    has : has_shape shapes n ≡ true → has_shape (remove shapes k) n ≡ true
    has is =
        subst (λ ns. list_any (same_name n) ns ≡ true) (sym (map-remove (λ (x : Shape). x.name) shapes k))
        (any-remove (same_name n) (shape_names shapes) k s.name (slice_get-map (λ (x : Shape). x.name) shapes k ∙ ap (option_map (λ (x : Shape). x.name)) at) (same_name-sym n s.name ∙ other) is)

    by : (w : Wanted) → stands_as shapes guides w n ≡ true → stands_as (remove shapes k) guides w n ≡ true
    by wanted.Shape is = has is
    by wanted.Guide is = is
    by (wanted.Placed axis) is = from_either (has_shape shapes n) (has_guide_on axis guides n) (has_shape (remove shapes k) n) (has_guide_on axis guides n) has (λ h. h) is

-- without a guideline of another name
as_before-no_guide : (shapes : List Shape) (guides : List Guide) (k : ℕ) (g : Guide) → slice_get guides k ≡ Some g → (w : Wanted) (n : NameOf) → same_name g.name n ≡ false
    → stands_as shapes guides w n ≡ true → stands_as shapes (remove guides k) w n ≡ true
as_before-no_guide shapes guides k g at w n other is = by w is
  where
    differs : same_name n g.name ≡ false
    differs = same_name-sym n g.name ∙ other

    by : (w : Wanted) → stands_as shapes guides w n ≡ true → stands_as shapes (remove guides k) w n ≡ true
    by wanted.Shape is = is
    by wanted.Guide is =
        subst (λ ns. list_any (same_name n) ns ≡ true) (sym (map-remove (λ (x : Guide). x.name) guides k))
        (any-remove (same_name n) (guide_names guides) k g.name (slice_get-map (λ (x : Guide). x.name) guides k ∙ ap (option_map (λ (x : Guide). x.name)) at) differs is)
    by (wanted.Placed axis) is =
        from_either (has_shape shapes n) (has_guide_on axis guides n) (has_shape shapes n) (has_guide_on axis (remove guides k) n)
        (λ h. h) (any-remove (λ (x : Guide). same_name n x.name && same_axis x.axis axis) guides k g at (ap (λ b. b && same_axis g.axis axis) differs)) is

-- ---- users stay users

-- where all that stands still does
module _ (shapes shapes' : List Shape) (guides guides' : List Guide) (keep : (w : Wanted) (n : NameOf) → stands_as shapes guides w n ≡ true → stands_as shapes' guides' w n ≡ true) where
  IsUser-keep : (uses : List Use) (row : List NameOf) → IsUser shapes guides uses row → IsUser shapes' guides' uses row
  IsUser-keep uses row user = record {
    stand = All-mono (λ (u : Use). stands_as shapes guides u.wanted u.name ≡ true) (λ (u : Use). stands_as shapes' guides' u.wanted u.name ≡ true) (λ u. keep u.wanted u.name) uses user.stand;
    differ = user.differ;
    few = user.few;
  }

  links-keep : (ls : List Link) → AllByRecursion (IsLink shapes guides) ls → AllByRecursion (IsLink shapes' guides') ls
  links-keep ls = All-mono (IsLink shapes guides) (IsLink shapes' guides') (λ l. IsUser-keep (link_uses l) (l.a ∷ l.b ∷ [])) ls

  compounds-keep : (cs : List Compound) → AllByRecursion (IsCompound shapes guides) cs → AllByRecursion (IsCompound shapes' guides') cs
  compounds-keep cs = All-mono (IsCompound shapes guides) (IsCompound shapes' guides') (λ c is. record { gap = is.gap; user = IsUser-keep (rule_uses c.rule) _ is.user }) cs

  groups-keep : (gs : List Group) → AllByRecursion (IsGroup shapes guides) gs → AllByRecursion (IsGroup shapes' guides') gs
  groups-keep gs = All-mono (IsGroup shapes guides) (IsGroup shapes' guides') (λ g is. record { pad = is.pad; low = is.low; high = is.high; user = IsUser-keep (group_uses g) g.members is.user }) gs

-- where all but a name does that none uses
module _ (shapes shapes' : List Shape) (guides guides' : List Guide) (n : NameOf) (keep : (w : Wanted) (m : NameOf) → same_name n m ≡ false → stands_as shapes guides w m ≡ true → stands_as shapes' guides' w m ≡ true) where
  uses-keep : (uses : List Use) → is_used_in uses n ≡ false → AllByRecursion (λ (u : Use). stands_as shapes guides u.wanted u.name ≡ true) uses → AllByRecursion (λ (u : Use). stands_as shapes' guides' u.wanted u.name ≡ true) uses
  uses-keep [] unused all = tt
  uses-keep (u ∷ us) unused all = by (same_name n u.name) refl unused (uses-keep us)
    where
      by : (b : Bool) → same_name n u.name ≡ b → (b || is_used_in us n) ≡ false
          → (is_used_in us n ≡ false → AllByRecursion (λ (u : Use). stands_as shapes guides u.wanted u.name ≡ true) us → AllByRecursion (λ (u : Use). stands_as shapes' guides' u.wanted u.name ≡ true) us)
          → AllByRecursion (λ (u : Use). stands_as shapes' guides' u.wanted u.name ≡ true) (u ∷ us)
      by true is unused rest = cc
      by false is unused rest = (keep u.wanted u.name is all.0, rest unused all.1)

  IsUser-unused : (uses : List Use) (row : List NameOf) → is_used_in uses n ≡ false → IsUser shapes guides uses row → IsUser shapes' guides' uses row
  IsUser-unused uses row unused user = record { stand = uses-keep uses unused user.stand; differ = user.differ; few = user.few }

  links-unused : (ls : List Link) → AllByRecursion (λ (l : Link). is_used_in (link_uses l) n ≡ false) ls → AllByRecursion (IsLink shapes guides) ls → AllByRecursion (IsLink shapes' guides') ls
  links-unused ls =
      All-both (λ (l : Link). is_used_in (link_uses l) n ≡ false) (IsLink shapes guides) (IsLink shapes' guides') (λ l unused is. IsUser-unused (link_uses l) (l.a ∷ l.b ∷ []) unused is) ls

  compounds-unused : (cs : List Compound) → AllByRecursion (λ (c : Compound). is_used_in (rule_uses c.rule) n ≡ false) cs → AllByRecursion (IsCompound shapes guides) cs → AllByRecursion (IsCompound shapes' guides') cs
  compounds-unused cs =
      All-both (λ (c : Compound). is_used_in (rule_uses c.rule) n ≡ false) (IsCompound shapes guides) (IsCompound shapes' guides')
      (λ c unused is. record { gap = is.gap; user = IsUser-unused (rule_uses c.rule) _ unused is.user }) cs

  groups-unused : (gs : List Group) → AllByRecursion (λ (g : Group). is_used_in (group_uses g) n ≡ false) gs → AllByRecursion (IsGroup shapes guides) gs → AllByRecursion (IsGroup shapes' guides') gs
  groups-unused gs =
      All-both (λ (g : Group). is_used_in (group_uses g) n ≡ false) (IsGroup shapes guides) (IsGroup shapes' guides')
      (λ g unused is. record { pad = is.pad; low = is.low; high = is.high; user = IsUser-unused (group_uses g) g.members unused is.user }) gs

-- ---- a name that none uses

none_of-map : {A : Type 0} (f : A → User) (n : NameOf) (xs : List A) → find (λ (u : User). is_used_in u.uses n) (map f xs) ≡ None → AllByRecursion (λ x. is_used_in (f x).uses n ≡ false) xs
none_of-map f n [] none = tt
none_of-map f n (x ∷ xs) none = by (is_used_in (f x).uses n) refl none (none_of-map f n xs)
  where
    by : (b : Bool) → is_used_in (f x).uses n ≡ b → cond b (Some (f x)) (find (λ (u : User). is_used_in u.uses n) (map f xs)) ≡ None
        → (find (λ (u : User). is_used_in u.uses n) (map f xs) ≡ None → AllByRecursion (λ y. is_used_in (f y).uses n ≡ false) xs) → AllByRecursion (λ y. is_used_in (f y).uses n ≡ false) (x ∷ xs)
    by true is none rest = cc
    by false is none rest = (is, rest none)

find-both : {A : Type 0} (p : A → Bool) (xs ys : List A) → find p (xs ++ ys) ≡ None → (find p xs ≡ None) × (find p ys ≡ None)
find-both p [] ys none = (refl, none)
find-both {A} p (x ∷ xs) ys none = by (p x) none (find-both p xs ys)
  where
    by : (b : Bool) → cond b (Some x) (find p (xs ++ ys)) ≡ None → (find p (xs ++ ys) ≡ None → (find p xs ≡ None) × (find p ys ≡ None)) → (cond b (Some x) (find p xs) ≡ None) × (find p ys ≡ None)
    by true none rest = cc
    by false none rest = rest none

-- no link, compound or group uses the name
pub record IsUnused (d : Diagram) (n : NameOf) : Type 0 where
  pub links : AllByRecursion (λ (l : Link). is_used_in (link_uses l) n ≡ false) d.links
  pub compounds : AllByRecursion (λ (c : Compound). is_used_in (rule_uses c.rule) n ≡ false) d.compounds
  pub groups : AllByRecursion (λ (g : Group). is_used_in (group_uses g) n ≡ false) d.groups

pub unused : (d : Diagram) (n : NameOf) → user_of d n ≡ None → IsUnused d n
unused d n none =
    let all = nothing (find (λ (u : User). is_used_in u.uses n) (users d)) none in
    let last = find-both (λ (u : User). is_used_in u.uses n) (map link_user d.links ++ map compound_user d.compounds) (map group_user d.groups) all in
    let first = find-both (λ (u : User). is_used_in u.uses n) (map link_user d.links) (map compound_user d.compounds) last.0 in
    record { links = none_of-map link_user n d.links first.0; compounds = none_of-map compound_user n d.compounds first.1; groups = none_of-map group_user n d.groups last.1 }
  where
    nothing : (o : Option User) → option_map (λ (u : User). u.name) o ≡ None → o ≡ None
    nothing None is = refl
    nothing (Some u) is = cc

-- ---- one item more

-- with one more item of a new name, for which there is room
pub IsSound-put_back : (d : Diagram) (at : ℕ) (t : Thing) → IsSound d → stands d (name_of_thing t) ≡ false → IsThing d t → HasRoomFor d t → IsSound (with_thing_at d at t)
IsSound-put_back d at (thing.Shape s) sound free this room =
    let keep = as_before-shape d.shapes d.guides at s in
    record {
      distinct = distinct-put_back d at (thing.Shape s) sound.distinct free;
      counts = let c = sound.counts in
          record { shapes = omega (arith, length-insert d.shapes at s, room); guides = c.guides; links = c.links; compounds = c.compounds; groups = c.groups; pages = c.pages };
      shapes = All-insert IsShape d.shapes at s sound.shapes this;
      guides = sound.guides;
      links = links-keep d.shapes (insert d.shapes at s) d.guides d.guides keep d.links sound.links;
      compounds = compounds-keep d.shapes (insert d.shapes at s) d.guides d.guides keep d.compounds sound.compounds;
      groups = groups-keep d.shapes (insert d.shapes at s) d.guides d.guides keep d.groups sound.groups;
      pages = sound.pages;
    }
IsSound-put_back d at (thing.Guide g) sound free this room =
    let keep = as_before-guide d.shapes d.guides at g in
    record {
      distinct = distinct-put_back d at (thing.Guide g) sound.distinct free;
      counts = let c = sound.counts in
          record { shapes = c.shapes; guides = omega (arith, length-insert d.guides at g, room); links = c.links; compounds = c.compounds; groups = c.groups; pages = c.pages };
      shapes = sound.shapes;
      guides = All-insert IsGuide d.guides at g sound.guides this;
      links = links-keep d.shapes d.shapes d.guides (insert d.guides at g) keep d.links sound.links;
      compounds = compounds-keep d.shapes d.shapes d.guides (insert d.guides at g) keep d.compounds sound.compounds;
      groups = groups-keep d.shapes d.shapes d.guides (insert d.guides at g) keep d.groups sound.groups;
      pages = sound.pages;
    }
IsSound-put_back d at (thing.Link l) sound free this room = record {
  distinct = distinct-put_back d at (thing.Link l) sound.distinct free;
  counts = let c = sound.counts in
      record { shapes = c.shapes; guides = c.guides; links = omega (arith, length-insert d.links at l, room); compounds = c.compounds; groups = c.groups; pages = c.pages };
  shapes = sound.shapes;
  guides = sound.guides;
  links = All-insert (IsLink d.shapes d.guides) d.links at l sound.links this;
  compounds = sound.compounds;
  groups = sound.groups;
  pages = sound.pages;
}
IsSound-put_back d at (thing.Compound x) sound free this room = record {
  distinct = distinct-put_back d at (thing.Compound x) sound.distinct free;
  counts = let c = sound.counts in
      record { shapes = c.shapes; guides = c.guides; links = c.links; compounds = omega (arith, length-insert d.compounds at x, room); groups = c.groups; pages = c.pages };
  shapes = sound.shapes;
  guides = sound.guides;
  links = sound.links;
  compounds = All-insert (IsCompound d.shapes d.guides) d.compounds at x sound.compounds this;
  groups = sound.groups;
  pages = sound.pages;
}
IsSound-put_back d at (thing.Group g) sound free this room = record {
  distinct = distinct-put_back d at (thing.Group g) sound.distinct free;
  counts = let c = sound.counts in
      record { shapes = c.shapes; guides = c.guides; links = c.links; compounds = c.compounds; groups = omega (arith, length-insert d.groups at g, room); pages = c.pages };
  shapes = sound.shapes;
  guides = sound.guides;
  links = sound.links;
  compounds = sound.compounds;
  groups = All-insert (IsGroup d.shapes d.guides) d.groups at g sound.groups this;
  pages = sound.pages;
}
IsSound-put_back d at (thing.Page p) sound free this room = record {
  distinct = distinct-put_back d at (thing.Page p) sound.distinct free;
  counts = let c = sound.counts in
      record { shapes = c.shapes; guides = c.guides; links = c.links; compounds = c.compounds; groups = c.groups; pages = omega (arith, length-insert d.pages at p, room) };
  shapes = sound.shapes;
  guides = sound.guides;
  links = sound.links;
  compounds = sound.compounds;
  groups = sound.groups;
  pages = All-insert IsPage d.pages at p sound.pages this;
}

-- the last of its sort is the one put at the end of its list
pub with_thing_at-end : (d : Diagram) (t : Thing) → with_thing_at d (count_of d (sort_of t)) t ≡ with_thing d t
with_thing_at-end d (thing.Shape x) = ap (λ xs. record d { shapes = xs }) (insert_end d.shapes x)
with_thing_at-end d (thing.Guide x) = ap (λ xs. record d { guides = xs }) (insert_end d.guides x)
with_thing_at-end d (thing.Link x) = ap (λ xs. record d { links = xs }) (insert_end d.links x)
with_thing_at-end d (thing.Compound x) = ap (λ xs. record d { compounds = xs }) (insert_end d.compounds x)
with_thing_at-end d (thing.Group x) = ap (λ xs. record d { groups = xs }) (insert_end d.groups x)
with_thing_at-end d (thing.Page x) = ap (λ xs. record d { pages = xs }) (insert_end d.pages x)

pub IsSound-push : (d : Diagram) (t : Thing) → IsSound d → stands d (name_of_thing t) ≡ false → IsThing d t → HasRoomFor d t → IsSound (with_thing d t)
IsSound-push d t sound free this room = subst IsSound (with_thing_at-end d t) (IsSound-put_back d (count_of d (sort_of t)) t sound free this room)

-- ---- one item less

-- no item uses it, where it is a shape or guideline
abbrev pub IsFree : Diagram → Thing → Type 0
IsFree d (thing.Shape s) = IsUnused d s.name
IsFree d (thing.Guide g) = IsUnused d g.name
IsFree d (thing.Link l) = ⊤
IsFree d (thing.Compound c) = ⊤
IsFree d (thing.Group g) = ⊤
IsFree d (thing.Page p) = ⊤

-- what none uses is free to go, whichever its sort
pub IsFree-unused : (d : Diagram) (t : Thing) → IsUnused d (name_of_thing t) → IsFree d t
IsFree-unused d (thing.Shape s) none = none
IsFree-unused d (thing.Guide g) none = none
IsFree-unused d (thing.Link l) none = tt
IsFree-unused d (thing.Compound c) none = tt
IsFree-unused d (thing.Group g) none = tt
IsFree-unused d (thing.Page p) none = tt

pub IsSound-without_at : (d : Diagram) (at : ℕ) (t : Thing) → IsSound d → thing_at d (sort_of t) at ≡ Some t → IsFree d t → IsSound (without_at d (sort_of t) at)
IsSound-without_at d at (thing.Shape s) sound there free =
    let keep = as_before-no_shape d.shapes d.guides at s (found_as thing.Shape (λ a b e. cc) (slice_get d.shapes at) s there) in
    record {
      distinct = distinct-without_at d at (thing.Shape s) there sound.distinct;
      counts = let c = sound.counts in
          record { shapes = omega (arith, length-remove d.shapes at, c.shapes); guides = c.guides; links = c.links; compounds = c.compounds; groups = c.groups; pages = c.pages };
      shapes = All-remove IsShape d.shapes at sound.shapes;
      guides = sound.guides;
      links = links-unused d.shapes (remove d.shapes at) d.guides d.guides s.name keep d.links free.links sound.links;
      compounds = compounds-unused d.shapes (remove d.shapes at) d.guides d.guides s.name keep d.compounds free.compounds sound.compounds;
      groups = groups-unused d.shapes (remove d.shapes at) d.guides d.guides s.name keep d.groups free.groups sound.groups;
      pages = sound.pages;
    }
IsSound-without_at d at (thing.Guide g) sound there free =
    let keep = as_before-no_guide d.shapes d.guides at g (found_as thing.Guide (λ a b e. cc) (slice_get d.guides at) g there) in
    record {
      distinct = distinct-without_at d at (thing.Guide g) there sound.distinct;
      counts = let c = sound.counts in
          record { shapes = c.shapes; guides = omega (arith, length-remove d.guides at, c.guides); links = c.links; compounds = c.compounds; groups = c.groups; pages = c.pages };
      shapes = sound.shapes;
      guides = All-remove IsGuide d.guides at sound.guides;
      links = links-unused d.shapes d.shapes d.guides (remove d.guides at) g.name keep d.links free.links sound.links;
      compounds = compounds-unused d.shapes d.shapes d.guides (remove d.guides at) g.name keep d.compounds free.compounds sound.compounds;
      groups = groups-unused d.shapes d.shapes d.guides (remove d.guides at) g.name keep d.groups free.groups sound.groups;
      pages = sound.pages;
    }
IsSound-without_at d at (thing.Link x) sound there free = record {
  distinct = distinct-without_at d at (thing.Link x) there sound.distinct;
  counts = let c = sound.counts in
      record { shapes = c.shapes; guides = c.guides; links = omega (arith, length-remove d.links at, c.links); compounds = c.compounds; groups = c.groups; pages = c.pages };
  shapes = sound.shapes;
  guides = sound.guides;
  links = All-remove (IsLink d.shapes d.guides) d.links at sound.links;
  compounds = sound.compounds;
  groups = sound.groups;
  pages = sound.pages;
}
IsSound-without_at d at (thing.Compound x) sound there free = record {
  distinct = distinct-without_at d at (thing.Compound x) there sound.distinct;
  counts = let c = sound.counts in
      record { shapes = c.shapes; guides = c.guides; links = c.links; compounds = omega (arith, length-remove d.compounds at, c.compounds); groups = c.groups; pages = c.pages };
  shapes = sound.shapes;
  guides = sound.guides;
  links = sound.links;
  compounds = All-remove (IsCompound d.shapes d.guides) d.compounds at sound.compounds;
  groups = sound.groups;
  pages = sound.pages;
}
IsSound-without_at d at (thing.Group x) sound there free = record {
  distinct = distinct-without_at d at (thing.Group x) there sound.distinct;
  counts = let c = sound.counts in
      record { shapes = c.shapes; guides = c.guides; links = c.links; compounds = c.compounds; groups = omega (arith, length-remove d.groups at, c.groups); pages = c.pages };
  shapes = sound.shapes;
  guides = sound.guides;
  links = sound.links;
  compounds = sound.compounds;
  groups = All-remove (IsGroup d.shapes d.guides) d.groups at sound.groups;
  pages = sound.pages;
}
IsSound-without_at d at (thing.Page x) sound there free = record {
  distinct = distinct-without_at d at (thing.Page x) there sound.distinct;
  counts = let c = sound.counts in
      record { shapes = c.shapes; guides = c.guides; links = c.links; compounds = c.compounds; groups = c.groups; pages = omega (arith, length-remove d.pages at, c.pages) };
  shapes = sound.shapes;
  guides = sound.guides;
  links = sound.links;
  compounds = sound.compounds;
  groups = sound.groups;
  pages = All-remove IsPage d.pages at sound.pages;
}

-- without the item of a name
pub IsSound-without : (d : Diagram) (n : NameOf) (t : Thing) → IsSound d → thing_named d n ≡ Some t → IsFree d t → IsSound (without d n)
IsSound-without d n t sound found free =
    let x = thing_found_is d n t found in
    subst IsSound (sym (ap (λ o. option_map_or (λ (item : Item). without_at d item.sort item.at) o d) x.item))
    (IsSound-without_at d x.at t sound x.there free)

-- ---- one item changed

-- with a shape in the place of the one of its name
pub IsSound-set_shape : (d : Diagram) (s : Shape) → IsSound d → IsShape s → IsSound (with_replaced d (thing.Shape s))
IsSound-set_shape d s sound this =
    let after = replaced (λ (x : Shape). x.name) s d.shapes in
    let names : shape_names after ≡ shape_names d.shapes = map-replaced (λ (x : Shape). x.name) s d.shapes in
    let keep = same_shapes d.shapes after d.guides names in
    record {
      distinct = subst (λ ns. IsDistinct same_name (ns ++ flat_map (sort_names d) (sort.Guide ∷ sort.Link ∷ sort.Compound ∷ sort.Group ∷ sort.Page ∷ []))) (sym names) sound.distinct;
      counts = let c = sound.counts in let same : length after ≡ length d.shapes = length-map d.shapes _ in
          record { shapes = omega (arith, same, c.shapes); guides = c.guides; links = c.links; compounds = c.compounds; groups = c.groups; pages = c.pages };
      shapes = All-replaced (λ (x : Shape). x.name) s IsShape d.shapes sound.shapes this;
      guides = sound.guides;
      links = links-keep d.shapes after d.guides d.guides keep d.links sound.links;
      compounds = compounds-keep d.shapes after d.guides d.guides keep d.compounds sound.compounds;
      groups = groups-keep d.shapes after d.guides d.guides keep d.groups sound.groups;
      pages = sound.pages;
    }
  where
    same_shapes : (before after : List Shape) (guides : List Guide) → shape_names after ≡ shape_names before → (w : Wanted) (n : NameOf) → stands_as before guides w n ≡ true → stands_as after guides w n ≡ true
    same_shapes before after guides names wanted.Shape n is = subst (λ ns. list_any (same_name n) ns ≡ true) (sym names) is
    same_shapes before after guides names wanted.Guide n is = is
    same_shapes before after guides names (wanted.Placed axis) n is =
        from_either (has_shape before n) (has_guide_on axis guides n) (has_shape after n) (has_guide_on axis guides n) (subst (λ ns. list_any (same_name n) ns ≡ true) (sym names)) (λ h. h) is

-- a guideline in the place of those of its name, on the same axis, has the axis
on_axis : (g : Guide) (gs : List Guide) → AllByRecursion (λ (h : Guide). same_name g.name h.name ≡ true → h.axis ≡ g.axis) gs → (axis : Axis) (n : NameOf)
    → has_guide_on axis (replaced (λ (x : Guide). x.name) g gs) n ≡ has_guide_on axis gs n
on_axis g [] all axis n = refl
on_axis g (h ∷ hs) all axis n = λ j. by (same_name g.name h.name) refl all.0 j || on_axis g hs all.1 axis n j
  where
    by : (b : Bool) → same_name g.name h.name ≡ b → (same_name g.name h.name ≡ true → h.axis ≡ g.axis)
        → (same_name n (cond b g h).name && same_axis (cond b g h).axis axis) ≡ (same_name n h.name && same_axis h.axis axis)
    by true same axes = let names = (bytes_eq-Decides g.name h.name).0 same in λ j. same_name n (names j) && same_axis (sym (axes same) j) axis
    by false differs axes = refl

-- of items with different names those of the name of one are that one
alone : {T : Type 0} (name_of : T → NameOf) (xs : List T) (k : ℕ) (x : T) → IsDistinct same_name (map name_of xs) → slice_get xs k ≡ Some x
    → AllByRecursion (λ y. same_name (name_of x) (name_of y) ≡ true → y ≡ x) xs
alone name_of [] k x distinct at = cc
alone {T} name_of (y ∷ ys) zero x distinct at =
    let same : y ≡ x = cc in
    (λ is. same, subst (λ z. AllByRecursion (λ w. same_name (name_of z) (name_of w) ≡ true → w ≡ z) ys) same (none ys (IsDistinct-head same_name (name_of y) (map name_of ys) distinct)))
  where
    none : (ws : List T) → AllByRecursion (λ n. same_name (name_of y) n ≡ false) (map name_of ws) → AllByRecursion (λ w. same_name (name_of y) (name_of w) ≡ true → w ≡ y) ws
    none [] all = tt
    none (w ∷ ws) all = (λ is. cc, none ws all.1)
alone {T} name_of (y ∷ ys) (suc k) x distinct at =
    let differs = at_place ys k (IsDistinct-head same_name (name_of y) (map name_of ys) distinct) at in
    (λ is. absurd (false≢true (sym differs ∙ (same_name-sym (name_of y) (name_of x) ∙ is))), alone name_of ys k x (IsDistinct-tail same_name (name_of y) (map name_of ys) distinct) at)
  where
    at_place : (zs : List T) (k : ℕ) → AllByRecursion (λ n. same_name (name_of y) n ≡ false) (map name_of zs) → slice_get zs k ≡ Some x → same_name (name_of y) (name_of x) ≡ false
    at_place [] k all at = cc
    at_place (z ∷ zs) zero all at = let same : z ≡ x = cc in subst (λ w. same_name (name_of y) (name_of w) ≡ false) same all.0
    at_place (z ∷ zs) (suc k) all at = at_place zs k all.1 at

-- with a guideline in the place of the one of its name, on the same axis, the same names have the axis
pub has_guide_on-set : (d : Diagram) (g h : Guide) → IsSound d → thing_named d g.name ≡ Some (thing.Guide h) → h.axis ≡ g.axis → (axis : Axis) (n : NameOf)
    → has_guide_on axis (replaced (λ (x : Guide). x.name) g d.guides) n ≡ has_guide_on axis d.guides n
has_guide_on-set d g h sound found axes =
    let x = thing_found_is d g.name (thing.Guide h) found in
    let at = found_as thing.Guide (λ a b e. cc) (slice_get d.guides x.at) h x.there in
    let one = alone (λ (y : Guide). y.name) d.guides x.at h (sort_distinct d sort.Guide sound.distinct) at in
    let all =
    All-mono (λ (y : Guide). same_name h.name y.name ≡ true → y ≡ h) (λ (y : Guide). same_name g.name y.name ≡ true → y.axis ≡ g.axis)
    (λ y is same. ap (λ (z : Guide). z.axis) (is (ap (λ n. same_name n y.name) x.named ∙ same)) ∙ axes) d.guides one in
    on_axis g d.guides all

-- with a guideline in the place of the one of its name, on the same axis
pub IsSound-set_guide : (d : Diagram) (g h : Guide) → IsSound d → IsGuide g → thing_named d g.name ≡ Some (thing.Guide h) → h.axis ≡ g.axis → IsSound (with_replaced d (thing.Guide g))
IsSound-set_guide d g h sound this found axes =
    let after = replaced (λ (x : Guide). x.name) g d.guides in
    let names : guide_names after ≡ guide_names d.guides = map-replaced (λ (x : Guide). x.name) g d.guides in
    let keep = same_guides d.shapes d.guides after names (has_guide_on-set d g h sound found axes) in
    record {
      distinct = subst (λ ns. IsDistinct same_name (shape_names d.shapes ++ (ns ++ flat_map (sort_names d) (sort.Link ∷ sort.Compound ∷ sort.Group ∷ sort.Page ∷ [])))) (sym names) sound.distinct;
      counts = let c = sound.counts in let same : length after ≡ length d.guides = length-map d.guides _ in
          record { shapes = c.shapes; guides = omega (arith, same, c.guides); links = c.links; compounds = c.compounds; groups = c.groups; pages = c.pages };
      shapes = sound.shapes;
      guides = All-replaced (λ (x : Guide). x.name) g IsGuide d.guides sound.guides this;
      links = links-keep d.shapes d.shapes d.guides after keep d.links sound.links;
      compounds = compounds-keep d.shapes d.shapes d.guides after keep d.compounds sound.compounds;
      groups = groups-keep d.shapes d.shapes d.guides after keep d.groups sound.groups;
      pages = sound.pages;
    }
  where
    same_guides : (shapes : List Shape) (before after : List Guide) → guide_names after ≡ guide_names before → ((axis : Axis) (n : NameOf) → has_guide_on axis after n ≡ has_guide_on axis before n)
        → (w : Wanted) (n : NameOf) → stands_as shapes before w n ≡ true → stands_as shapes after w n ≡ true
    same_guides shapes before after names on wanted.Shape n is = is
    same_guides shapes before after names on wanted.Guide n is = subst (λ ns. list_any (same_name n) ns ≡ true) (sym names) is
    same_guides shapes before after names on (wanted.Placed axis) n is = ap (λ b. has_shape shapes n || b) (on axis n) ∙ is
