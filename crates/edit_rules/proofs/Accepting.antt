-- What a diagram that accepts an edit tells of it.
use Rattle.std.proofs.Common.{◌≡◌, ◌≤◌, ℤ, List, [], ◌∷◌, ◌++◌, Bool, true, false, cond, ◌||◌, length, map, Option, Some, None, refl, ap, sym, ◌∙◌, subst, arith}
use Rattle.std.specs.Prelude.{find, not, nat_lt, nat_le, IfSome}
use Rattle.std.specs.List.{AllByRecursion, list_any, IsDistinct}
use Rattle.std.specs.Option.{option_map, option_map_or, is_some}
use Rattle.std.proofs.lemmas.Int.{ints}
use Rattle.std.proofs.lemmas.Bool.{leb-false, ltb-false}
use Rattle.units.specs.declared.geometry.Axis.TheVariants.{X, Y}
use Rattle.scene_model.specs.declared.items.Item.{Item}
use Rattle.scene_model.specs.declared.items.Sort.{Sort}
use Rattle.scene_model.specs.declared.items.Sort.TheVariants as sort
use Rattle.scene_model.specs.declared.items.Thing.{Thing}
use Rattle.scene_model.specs.declared.items.Thing.TheVariants as thing
use Rattle.scene_model.specs.declared.uses.Wanted.{Wanted}
use Rattle.scene_model.specs.declared.uses.Wanted.TheVariants as wanted
use Rattle.scene_model.specs.Names.{NameOf, same_name}
use Rattle.scene_model.specs.Diagram.{Diagram, most_of, all_sorts}
use Rattle.scene_model.specs.Uses.{Use, each, stands_as, IsUser, most_members, user_of, link_uses, rule_uses, rule_row, group_uses}
use Rattle.scene_model.specs.Sound.{IsSound, IsCoordinate}
use Rattle.scene_model.specs.Items.{stands, count_of, item_named, sort_named, thing_named, thing_found, name_of_thing, sort_of, IsThing, HasRoomFor, without}
use Rattle.scene_model.proofs.Named.{same_name-sym}
use Rattle.scene_model.proofs.Places.{item_found, sort_at, sort_stands, thing_found_is, is_some-in}
use Rattle.scene_model.proofs.Sound.{unused, IsUnused, IsFree, IsFree-unused, IsSound-without}
use Rattle.edit_rules.specs.declared.edits.Edit.{Edit}
use Rattle.edit_rules.specs.declared.edits.Edit.TheVariants as edit
use Rattle.edit_rules.specs.declared.naming.Ask.{Ask}
use Rattle.edit_rules.specs.declared.naming.Kind.{Kind}
use Rattle.edit_rules.specs.declared.naming.Kind.TheVariants as kind
use Rattle.edit_rules.specs.declared.naming.NewItem.{NewItem}
use Rattle.edit_rules.specs.declared.ranges.Ranged.{Ranged}
use Rattle.edit_rules.specs.declared.refusals.Refusal.{Refusal}
use Rattle.edit_rules.specs.declared.refusals.Refusal.TheVariants as refusal
use Rattle.edit_rules.specs.Ranges.{coordinate, extent, page_extent, border, is_outside, numbers}
use Rattle.edit_rules.specs.Effects.{made}
use Rattle.edit_rules.specs.Naming.{Naming, naming, is_sort_of, has_sort_of, is_of_kind, each_as, old_names}
use Rattle.edit_rules.specs.Refusals.{range_refusal, unknown_among, taken_refusal, kind_among, first_of, first_twice, twice_among, in_use_refusal, members_refusal, count_refusal, full_refusal, separations_refusal, named_refusals, limit_refusals, refusal_of}
use Rattle.edit_rules.proofs.Edges.{low_corner-near, high_corner-near}
use Rattle.edit_rules.proofs.Judging.{in_range}

-- ---- no refusal

-- there is none of the refusals
pub record IsAccepted (d : Diagram) (e : Edit) : Type 0 where
  pub range : range_refusal e ≡ None
  pub unknown : unknown_among d (old_names e) ≡ None
  pub taken : taken_refusal d (naming e).makes ≡ None
  pub kind : kind_among d (naming e).asks ≡ None
  pub twice : twice_among (naming e).row ≡ None
  pub in_use : in_use_refusal d (naming e).frees ≡ None
  pub members : members_refusal (naming e).row ≡ None
  pub full : full_refusal d (naming e).makes ≡ None
  pub separations : separations_refusal d e ≡ None

none_first : (o : Option Refusal) (os : List (Option Refusal)) → first_of (o ∷ os) ≡ None → (o ≡ None) × (first_of os ≡ None)
none_first None os is = (refl, is)
none_first (Some r) os is = cc

pub accepted : (d : Diagram) (e : Edit) → refusal_of d e ≡ None → IsAccepted d e
unfolding refusal_of
accepted d e none =
    let range = none_first (range_refusal e) _ none in
    let unknown = none_first (unknown_among d (old_names e)) _ range.1 in
    let taken = none_first (taken_refusal d (naming e).makes) _ unknown.1 in
    let kind = none_first (kind_among d (naming e).asks) _ taken.1 in
    let twice = none_first (twice_among (naming e).row) _ kind.1 in
    let in_use = none_first (in_use_refusal d (naming e).frees) _ twice.1 in
    let members = none_first (members_refusal (naming e).row) _ in_use.1 in
    let full = none_first (full_refusal d (naming e).makes) _ members.1 in
    let separations = none_first (separations_refusal d e) _ full.1 in
    record { range = range.0; unknown = unknown.0; taken = taken.0; kind = kind.0; twice = twice.0; in_use = in_use.0; members = members.0; full = full.0; separations = separations.0 }

nothing : {A B : Type 0} (f : A → B) (o : Option A) → option_map f o ≡ None → o ≡ None
nothing f None is = refl
nothing f (Some x) is = cc

not_true : {A : Type 0} (b : Bool) (x : A) → cond b (Some x) None ≡ None → b ≡ false
not_true true x is = cc
not_true false x is = refl

none_passes : {A : Type 0} (p : A → Bool) (xs : List A) → find p xs ≡ None → AllByRecursion (λ x. p x ≡ false) xs
none_passes p [] none = tt
none_passes {A} p (x ∷ xs) none = by (p x) refl none (none_passes p xs)
  where
    by : (b : Bool) → p x ≡ b → cond b (Some x) (find p xs) ≡ None → (find p xs ≡ None → AllByRecursion (λ y. p y ≡ false) xs) → AllByRecursion (λ y. p y ≡ false) (x ∷ xs)
    by true is none rest = cc
    by false is none rest = (is, rest none)

-- ---- what an edit says of the item that it makes

-- what an item uses, in the order of its line
abbrev pub uses_of : Thing → List Use
uses_of (thing.Shape s) = []
uses_of (thing.Guide g) = []
uses_of (thing.Link l) = link_uses l
uses_of (thing.Compound c) = rule_uses c.rule
uses_of (thing.Group g) = group_uses g
uses_of (thing.Page p) = []

-- the names of an item that must differ
abbrev pub row_of : Thing → List NameOf
row_of (thing.Shape s) = []
row_of (thing.Guide g) = []
row_of (thing.Link l) = l.a ∷ l.b ∷ []
row_of (thing.Compound c) = rule_row c.rule
row_of (thing.Group g) = g.members
row_of (thing.Page p) = []

abbrev kind_of : Wanted → Kind
kind_of wanted.Shape = kind.Shape
kind_of wanted.Guide = kind.Guide
kind_of (wanted.Placed axis) = kind.Placed axis

-- what must stand for an item to use it
abbrev asks_for : List Use → List Ask
asks_for us = map (λ (u : Use). record { kind = kind_of u.wanted; name = u.name }) us

asks_each : (w : Wanted) (names : List NameOf) → each_as (kind_of w) names ≡ asks_for (each w names)
asks_each w [] = refl
asks_each w (n ∷ ns) = ap (λ asks. record { kind = kind_of w; name = n } ∷ asks) (asks_each w ns)

-- the edit says the name and sort of the item, what it uses, and which names must differ
pub record IsSaid (e : Edit) (t : Thing) : Type 0 where
  pub makes : (naming e).makes ≡ Some (record { name = name_of_thing t; sort = sort_of t })
  pub asks : (naming e).asks ≡ asks_for (uses_of t)
  pub row : (naming e).row ≡ row_of t

pub said : (d : Diagram) (e : Edit) (t : Thing) → made d e ≡ Some t → IsSaid e t
said d e t is = subst (λ o. IfSome o (IsSaid e)) is (by e)
  where
    by : (e : Edit) → IfSome (made d e) (IsSaid e)
    by (edit.Put name form x y w h) = record { makes = refl; asks = refl; row = refl }
    by (edit.Guide name axis at) = record { makes = refl; asks = refl; row = refl }
    by (edit.Join name a b) = record { makes = refl; asks = refl; row = refl }
    by (edit.Align name guide line members) = record { makes = refl; asks = ap (λ asks. record { kind = kind.Guide; name = guide } ∷ asks) (asks_each wanted.Shape members); row = refl }
    by (edit.Spread name axis gap members) = record { makes = refl; asks = asks_each (wanted.Placed axis) members; row = refl }
    by (edit.Rank name axis gap members) = record { makes = refl; asks = asks_each (wanted.Placed axis) members; row = refl }
    by (edit.Apart name axis a b gap exact) = record { makes = refl; asks = refl; row = refl }
    by (edit.Group name pad members) = record { makes = refl; asks = asks_each wanted.Shape members; row = refl }
    by (edit.Page name x y w h margin rigid) = record { makes = refl; asks = refl; row = refl }
    by (edit.Size name w h) = tt
    by (edit.Move name x y) = tt
    by (edit.Shift name at) = tt
    by (edit.Hold name) = tt
    by (edit.Free name) = tt
    by (edit.Remove name) = tt
    by (edit.Unlink name) = tt
    by (edit.Drop name) = tt

-- ---- a new item

pub made_free : (d : Diagram) (e : Edit) (t : Thing) → made d e ≡ Some t → taken_refusal d (naming e).makes ≡ None → stands d (name_of_thing t) ≡ false
made_free d e t is none = not_true (stands d (name_of_thing t)) (refusal.Taken (name_of_thing t)) (sym (ap (taken_refusal d) (said d e t is).makes) ∙ none)

pub made_room : (d : Diagram) (e : Edit) (t : Thing) → made d e ≡ Some t → full_refusal d (naming e).makes ≡ None → HasRoomFor d t
made_room d e t is none =
    let count : count_refusal d (sort_of t) ≡ None = sym (ap (full_refusal d) (said d e t is).makes) ∙ none in
    leb-false (most_of (sort_of t)) (count_of d (sort_of t)) (not_true (nat_le (most_of (sort_of t)) (count_of d (sort_of t))) _ count)

any-push : {A : Type 0} (p : A → Bool) (xs : List A) (x : A) → list_any p (xs ++ x ∷ []) ≡ false → (list_any p xs ≡ false) × (p x ≡ false)
any-push p [] x none = (refl, one (p x) none)
  where
    one : (b : Bool) → (b || false) ≡ false → b ≡ false
    one true is = cc
    one false is = refl
any-push {A} p (y ∷ ys) x none = by (p y) none (any-push p ys x)
  where
    by : (b : Bool) → (b || list_any p (ys ++ x ∷ [])) ≡ false → (list_any p (ys ++ x ∷ []) ≡ false → (list_any p ys ≡ false) × (p x ≡ false)) → ((b || list_any p ys) ≡ false) × (p x ≡ false)
    by true none rest = cc
    by false none rest = rest none

-- names of which none equals an earlier one, nor one that was seen, differ from those and from each other
pub differ : (seen names : List NameOf) → first_twice seen names ≡ None → AllByRecursion (λ n. list_any (same_name n) seen ≡ false) names × IsDistinct same_name names
unfolding IsDistinct
differ seen [] none = (tt, tt)
differ seen (n ∷ ns) none = by (list_any (same_name n) seen) refl none (differ (seen ++ n ∷ []) ns)
  where
    others : (ms : List NameOf) → AllByRecursion (λ m. list_any (same_name m) (seen ++ n ∷ []) ≡ false) ms → AllByRecursion (λ m. list_any (same_name m) seen ≡ false) ms × AllByRecursion (λ m. same_name n m ≡ false) ms
    others [] all = (tt, tt)
    others (m ∷ ms) all =
        let one = any-push (same_name m) seen n all.0 in
        let rest = others ms all.1 in
        ((one.0, rest.0), (same_name-sym n m ∙ one.1, rest.1))

    by : (b : Bool) → list_any (same_name n) seen ≡ b → cond b (Some n) (first_twice (seen ++ n ∷ []) ns) ≡ None
        → (first_twice (seen ++ n ∷ []) ns ≡ None → AllByRecursion (λ m. list_any (same_name m) (seen ++ n ∷ []) ≡ false) ns × IsDistinct same_name ns)
        → AllByRecursion (λ m. list_any (same_name m) seen ≡ false) (n ∷ ns) × IsDistinct same_name (n ∷ ns)
    by true is none rest = cc
    by false is none rest = let tail = rest none in let two = others ns tail.0 in ((is, two.0), (two.1, tail.1))

-- a name that finds an item of a kind finds one of its sorts
pub sort_found : (d : Diagram) (k : Kind) (n : NameOf) → has_sort_of d k n ≡ true → (s : Sort) × (sort_named d n ≡ Some s) × (is_sort_of k s ≡ true)
sort_found d k n is = by (sort_named d n) refl is
  where
    by : (o : Option Sort) → sort_named d n ≡ o → option_map_or (is_sort_of k) o false ≡ true → (s : Sort) × (sort_named d n ≡ Some s) × (is_sort_of k s ≡ true)
    by None at is = cc
    by (Some s) at is = (s, at, is)

pub only_shape : (s : Sort) → is_sort_of kind.Shape s ≡ true → s ≡ sort.Shape
only_shape sort.Shape is = refl
only_shape sort.Guide is = cc
only_shape sort.Link is = cc
only_shape sort.Compound is = cc
only_shape sort.Group is = cc
only_shape sort.Page is = cc

pub only_guide : (s : Sort) → is_sort_of kind.Guide s ≡ true → s ≡ sort.Guide
only_guide sort.Shape is = cc
only_guide sort.Guide is = refl
only_guide sort.Link is = cc
only_guide sort.Compound is = cc
only_guide sort.Group is = cc
only_guide sort.Page is = cc

-- what stands as the kind that a use asks for stands as it wants
stands_as_asked : (d : Diagram) (w : Wanted) (n : NameOf) → is_of_kind d (kind_of w) n ≡ true → stands_as d.shapes d.guides w n ≡ true
stands_as_asked d wanted.Shape n is = let x = sort_found d kind.Shape n is in sort_stands d n sort.Shape (x.1 ∙ ap Some (only_shape x.0 x.2))
stands_as_asked d wanted.Guide n is = let x = sort_found d kind.Guide n is in sort_stands d n sort.Guide (x.1 ∙ ap Some (only_guide x.0 x.2))
stands_as_asked d (wanted.Placed axis) n is = is

-- what a new item uses stands as it wants, and its names differ
pub made_user : (d : Diagram) (e : Edit) (t : Thing) → made d e ≡ Some t → IsAccepted d e → IsUser d.shapes d.guides (uses_of t) (row_of t)
made_user d e t is ok =
    let says = said d e t is in
    let all = none_passes (λ (ask : Ask). not (is_of_kind d ask.kind ask.name)) (asks_for (uses_of t)) (nothing (λ (ask : Ask). refusal.Kind ask.name) _ (sym (ap (kind_among d) says.asks) ∙ ok.kind)) in
    record {
      stand = stand (uses_of t) all;
      differ = (differ [] (row_of t) (nothing refusal.Twice _ (sym (ap twice_among says.row) ∙ ok.twice))).1;
      few = ltb-false most_members (length (row_of t)) (not_true (nat_lt most_members (length (row_of t))) _ (sym (ap members_refusal says.row) ∙ ok.members));
    }
  where
    is_true : (b : Bool) → not b ≡ false → b ≡ true
    is_true true h = refl
    is_true false h = cc

    stand : (us : List Use) → AllByRecursion (λ (ask : Ask). not (is_of_kind d ask.kind ask.name) ≡ false) (asks_for us) → AllByRecursion (λ (u : Use). stands_as d.shapes d.guides u.wanted u.name ≡ true) us
    stand [] all = tt
    stand (u ∷ us) all = (stands_as_asked d u.wanted u.name (is_true _ all.0), stand us all.1)

-- ---- numbers in their ranges

inside : (e : Edit) → range_refusal e ≡ None → AllByRecursion (λ r. is_outside r ≡ false) (numbers e)
inside e none = none_passes is_outside (numbers e) (nothing (λ (r : Ranged). refusal.Range r.value) _ none)

is_coordinate : (z : ℤ) → is_outside (coordinate z) ≡ false → IsCoordinate z
is_coordinate z within = let range = in_range (coordinate z) within in omega (arith, ints, range.0, range.1)

-- a new item is sound
pub made_sound : (d : Diagram) (e : Edit) (t : Thing) → made d e ≡ Some t → IsAccepted d e → IsSound d → IsThing d t
made_sound d e t is ok sound = subst (λ o. IfSome o (IsThing d)) is (by e (inside e ok.range) (λ u at. made_user d e u at ok))
  where
    by : (e : Edit) → AllByRecursion (λ r. is_outside r ≡ false) (numbers e) → ((u : Thing) → made d e ≡ Some u → IsUser d.shapes d.guides (uses_of u) (row_of u)) → IfSome (made d e) (IsThing d)
    by (edit.Put name form x y w h) within user = record {
      x = is_coordinate x within.0;
      y = is_coordinate y within.1.0;
      w = in_range (extent w) within.1.1.0;
      h = in_range (extent h) within.1.1.1.0;
    }
    by (edit.Guide name axis at) within user = is_coordinate at within.0
    by (edit.Join name a b) within user = user _ refl
    by (edit.Align name guide line members) within user = record { gap = tt; user = user _ refl }
    by (edit.Spread name axis gap members) within user = record { gap = is_coordinate gap within.0; user = user _ refl }
    by (edit.Rank name axis gap members) within user = record { gap = is_coordinate gap within.0; user = user _ refl }
    by (edit.Apart name axis a b gap exact) within user = record { gap = is_coordinate gap within.0; user = user _ refl }
    by (edit.Group name pad members) within user =
        let is_pad = in_range (border pad) within.0 in
        record {
          pad = is_pad;
          low = record { x = low_corner-near d members pad X sound.shapes is_pad; y = low_corner-near d members pad Y sound.shapes is_pad };
          high = record { x = high_corner-near d members pad X sound.shapes is_pad; y = high_corner-near d members pad Y sound.shapes is_pad };
          user = user _ refl;
        }
    by (edit.Page name x y w h margin rigid) within user = record {
      x = is_coordinate x within.0;
      y = is_coordinate y within.1.0;
      w = in_range (page_extent w) within.1.1.0;
      h = in_range (page_extent h) within.1.1.1.0;
      margin = in_range (border margin) within.1.1.1.1.0;
    }
    by (edit.Size name w h) within user = tt
    by (edit.Move name x y) within user = tt
    by (edit.Shift name at) within user = tt
    by (edit.Hold name) within user = tt
    by (edit.Free name) within user = tt
    by (edit.Remove name) within user = tt
    by (edit.Unlink name) within user = tt
    by (edit.Drop name) within user = tt

-- ---- the item that an edit changes

-- the one name that an edit asks for stands as its kind
asked : (d : Diagram) (e : Edit) (k : Kind) (n : NameOf) → (naming e).asks ≡ each_as k (n ∷ []) → IsAccepted d e → is_of_kind d k n ≡ true
asked d e k n asks ok = by (is_of_kind d k n) refl (sym (ap (kind_among d) asks) ∙ ok.kind)
  where
    by : (b : Bool) → is_of_kind d k n ≡ b → kind_among d (each_as k (n ∷ [])) ≡ None → is_of_kind d k n ≡ true
    by true is none = is
    by false is none =
        let found : kind_among d (each_as k (n ∷ [])) ≡ Some (refusal.Kind n) = ap (λ b. option_map (λ (ask : Ask). refusal.Kind ask.name) (cond (not b) (Some (record { kind = k; name = n })) None)) is in
        cc (found, none)

-- a shape that an edit changes stands, and so does a guideline
pub shape_stands : (d : Diagram) (e : Edit) (n : NameOf) → (naming e).asks ≡ each_as kind.Shape (n ∷ []) → IsAccepted d e → sort_named d n ≡ Some sort.Shape
shape_stands d e n asks ok = let x = sort_found d kind.Shape n (asked d e kind.Shape n asks ok) in x.1 ∙ ap Some (only_shape x.0 x.2)

pub guide_stands : (d : Diagram) (e : Edit) (n : NameOf) → (naming e).asks ≡ each_as kind.Guide (n ∷ []) → IsAccepted d e → sort_named d n ≡ Some sort.Guide
guide_stands d e n asks ok = let x = sort_found d kind.Guide n (asked d e kind.Guide n asks ok) in x.1 ∙ ap Some (only_guide x.0 x.2)

-- an item that stands as a sort, whole
pub whole : (d : Diagram) (n : NameOf) (s : Sort) → sort_named d n ≡ Some s → (t : Thing) × (thing_named d n ≡ Some t) × (s ≡ sort_of t)
whole d n s at = by (item_named d n) refl at
  where
    by : (o : Option Item) → item_named d n ≡ o → option_map (λ (i : Item). i.sort) o ≡ Some s → (t : Thing) × (thing_found d o ≡ Some t) × (s ≡ sort_of t)
    by None is e = cc
    by (Some item) is e =
        let x = item_found d n item is in
        let sorted : item.sort ≡ s = cc in
        (x.0, x.1, sym sorted ∙ sort_at d item.sort item.at x.0 x.1)

-- a name that finds a sort stands
pub sort_is_standing : (d : Diagram) (n : NameOf) (s : Sort) → sort_named d n ≡ Some s → stands d n ≡ true
sort_is_standing d n s at = sym (is_some-in d n all_sorts) ∙ by (item_named d n) at
  where
    by : (o : Option Item) → option_map (λ (i : Item). i.sort) o ≡ Some s → is_some o ≡ true
    by None e = cc
    by (Some item) e = refl

-- an item that an edit takes away is free to go
free_found : (d : Diagram) (k : Kind) (n : NameOf) → has_sort_of d k n ≡ true → ((t : Thing) → name_of_thing t ≡ n → is_sort_of k (sort_of t) ≡ true → IsFree d t)
    → (t : Thing) × (thing_named d n ≡ Some t) × IsFree d t
free_found d k n is free =
    let x = sort_found d k n is in
    let t = whole d n x.0 x.1 in
    (t.0, t.1, free t.0 (thing_found_is d n t.0 t.1).named (ap (is_sort_of k) (sym t.2) ∙ x.2))

pub removed_free : (d : Diagram) (n : NameOf) → IsAccepted d (edit.Remove n) → (t : Thing) × (thing_named d n ≡ Some t) × IsFree d t
removed_free d n ok =
    let none = unused d n (nothing refusal.InUse (user_of d n) ok.in_use) in
    free_found d kind.ShapeOrGuide n (asked d (edit.Remove n) kind.ShapeOrGuide n refl ok) (λ t named may. IsFree-unused d t (subst (IsUnused d) (sym named) none))

pub unlinked_free : (d : Diagram) (n : NameOf) → IsAccepted d (edit.Unlink n) → (t : Thing) × (thing_named d n ≡ Some t) × IsFree d t
unlinked_free d n ok = free_found d kind.Link n (asked d (edit.Unlink n) kind.Link n refl ok) free
  where
    free : (t : Thing) → name_of_thing t ≡ n → is_sort_of kind.Link (sort_of t) ≡ true → IsFree d t
    free (thing.Shape s) named may = cc
    free (thing.Guide g) named may = cc
    free (thing.Link l) named may = tt
    free (thing.Compound c) named may = tt
    free (thing.Group g) named may = tt
    free (thing.Page p) named may = tt

pub dropped_free : (d : Diagram) (n : NameOf) → IsAccepted d (edit.Drop n) → (t : Thing) × (thing_named d n ≡ Some t) × IsFree d t
dropped_free d n ok = free_found d kind.Constraint n (asked d (edit.Drop n) kind.Constraint n refl ok) free
  where
    free : (t : Thing) → name_of_thing t ≡ n → is_sort_of kind.Constraint (sort_of t) ≡ true → IsFree d t
    free (thing.Shape s) named may = cc
    free (thing.Guide g) named may = cc
    free (thing.Link l) named may = tt
    free (thing.Compound c) named may = tt
    free (thing.Group g) named may = tt
    free (thing.Page p) named may = tt

-- so it stands, and the diagram is sound without it
taken_away : (d : Diagram) (n : NameOf) → IsSound d → (t : Thing) × (thing_named d n ≡ Some t) × IsFree d t → (stands d n ≡ true) × IsSound (without d n)
taken_away d n sound x =
    let found = thing_found_is d n x.0 x.1 in
    (sort_is_standing d n (sort_of x.0) (ap (option_map (λ (i : Item). i.sort)) found.item), IsSound-without d n x.0 sound x.1 x.2)

pub remove_fits : (d : Diagram) (n : NameOf) → IsAccepted d (edit.Remove n) → IsSound d → (stands d n ≡ true) × IsSound (without d n)
remove_fits d n ok sound = taken_away d n sound (removed_free d n ok)

pub unlink_fits : (d : Diagram) (n : NameOf) → IsAccepted d (edit.Unlink n) → IsSound d → (stands d n ≡ true) × IsSound (without d n)
unlink_fits d n ok sound = taken_away d n sound (unlinked_free d n ok)

pub drop_fits : (d : Diagram) (n : NameOf) → IsAccepted d (edit.Drop n) → IsSound d → (stands d n ≡ true) × IsSound (without d n)
drop_fits d n ok sound = taken_away d n sound (dropped_free d n ok)

-- ---- parts of the list

-- the new item's name is free
pub free_named : (d : Diagram) (says : Naming) → first_of (named_refusals d says) ≡ None → taken_refusal d says.makes ≡ None
free_named d says none =
    let unknown = none_first (unknown_among d (map (λ (ask : Ask). ask.name) says.asks)) _ none in
    (none_first (taken_refusal d says.makes) _ unknown.1).0

-- the members are few
pub few_limited : (d : Diagram) (row : List NameOf) (makes : Option NewItem) → first_of (limit_refusals d row makes) ≡ None → length row ≤ most_members
few_limited d row makes none = ltb-false most_members (length row) (not_true (nat_lt most_members (length row)) _ (none_first (members_refusal row) _ none).0)

-- a name that is not taken is free
pub free_name : (d : Diagram) (item : NewItem) → taken_refusal d (Some item) ≡ None → stands d item.name ≡ false
free_name d item none = not_true (stands d item.name) (refusal.Taken item.name) none
