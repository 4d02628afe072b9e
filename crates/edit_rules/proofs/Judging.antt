-- The first refusal as a function is the first cause that holds.
use Rattle.std.proofs.Common.{◌≡◌, ◌<◌, ◌≤◌, ℕ, zero, suc, ◌⊎◌, inl, inr, List, [], ◌∷◌, ◌++◌, Bool, true, false, cond, Option, Some, None, length, refl, ap, sym, ◌∙◌, subst, arith, get_or}
use Rattle.std.specs.Prelude.{find, not, nat_lt, nat_le, int_lt, ◌||◌, Result, Ok, Err, IsOk, MatchResult, ◌↔◌}
use Rattle.std.specs.Option.{option_map, option_map_or}
use Rattle.std.proofs.lemmas.Int.{ints}
use Rattle.std.proofs.lemmas.Bool.{ltb-true, ltb-false, leb-true, lt-ltb, le-leb}
use Rattle.units.specs.declared.geometry.Axis.{Axis}
use Rattle.units.specs.declared.geometry.Axis.TheVariants.{X, Y}
use Rattle.scene_model.specs.declared.items.Sort.{Sort}
use Rattle.scene_model.specs.declared.items.Sort.TheVariants as sort
use Rattle.scene_model.specs.declared.items.Thing.{Thing}
use Rattle.scene_model.specs.Names.{NameOf}
use Rattle.scene_model.specs.Diagram.{Diagram, most_of}
use Rattle.scene_model.specs.Uses.{User, users, is_used_in, most_members, user_of}
use Rattle.scene_model.specs.Items.{stands, count_of, with_thing}
use Rattle.scene_model.specs.Separations.{separations}
use Rattle.sep_gen.specs.Counted.{count_with}
use Rattle.edit_rules.specs.declared.edits.Edit.{Edit}
use Rattle.edit_rules.specs.declared.naming.Ask.{Ask}
use Rattle.edit_rules.specs.declared.naming.NewItem.{NewItem}
use Rattle.edit_rules.specs.declared.ranges.Ranged.{Ranged}
use Rattle.edit_rules.specs.declared.refusals.Counted.TheVariants as counted
use Rattle.edit_rules.specs.declared.refusals.Refusal.{Refusal}
use Rattle.edit_rules.specs.declared.refusals.Refusal.TheVariants as refusal
use Rattle.edit_rules.specs.Causes.{Holds, rank, IsFull, IsCrowded, IsRefused, Accepts}
use Rattle.edit_rules.specs.Effects.{made, changed, edited}
use Rattle.edit_rules.specs.Naming.{Naming, naming, is_of_kind, old_names}
use Rattle.edit_rules.specs.Ranges.{IsWithin, numbers, is_outside}
use Rattle.edit_rules.specs.Refusals.{range_refusal, unknown_among, taken_refusal, kind_among, twice_among, in_use_refusal, counted_as, members_refusal, count_refusal, full_refusal, most_separations, is_crowded, separations_refusal, first_of, first_twice, named_refusals, limit_refusals, refusals, refusal_of}
use Rattle.edit_rules.proofs.Firsts.{find-first, first-find}
use Rattle.edit_rules.proofs.Repeating.{twice-repeat, repeat-twice}

-- a mapped option
mapped : {A B : Type 0} (f : A → B) (o : Option A) (y : B) → option_map f o ≡ Some y → (x : A) × (o ≡ Some x) × (f x ≡ y)
mapped f None y is = cc
mapped f (Some x) y is = let same : f x ≡ y = cc in (x, refl, same)

not_false : (b : Bool) → not b ≡ true → b ≡ false
not_false true is = cc
not_false false is = refl

not_true : (b : Bool) → not b ≡ false → b ≡ false → ⊥
not_true true is no_b = cc
not_true false is no_b = cc

is_not : (b : Bool) → b ≡ false → not b ≡ true
is_not true is = cc
is_not false is = refl

some_if : {A : Type 0} (b : Bool) (x y : A) → cond b (Some x) None ≡ Some y → (b ≡ true) × (x ≡ y)
some_if true x y is = let same : x ≡ y = cc in (refl, same)
some_if false x y is = cc

-- ---- numbers in their ranges

pub in_range : (r : Ranged) → is_outside r ≡ false → IsWithin r
in_range r inside = by (int_lt r.value r.least) (int_lt r.most r.value) refl refl inside
  where
    by : (a b : Bool) → int_lt r.value r.least ≡ a → int_lt r.most r.value ≡ b → (a || b) ≡ false → IsWithin r
    by true b low high inside = cc
    by false true low high inside = cc
    by false false low high inside = (omega (arith, ints, low), omega (arith, ints, high))

out_of_range : (r : Ranged) → is_outside r ≡ true → IsWithin r → ⊥
out_of_range r outside within = by (int_lt r.value r.least) (int_lt r.most r.value) refl refl outside
  where
    by : (a b : Bool) → int_lt r.value r.least ≡ a → int_lt r.most r.value ≡ b → (a || b) ≡ true → ⊥
    by true b low high outside = omega (arith, ints, low, within.0)
    by false true low high outside = omega (arith, ints, high, within.1)
    by false false low high outside = cc

-- ---- an item more

-- the diagram after an edit that makes an item has that item more
pub edited_made : (d : Diagram) (e : Edit) (t : Thing) → made d e ≡ Some t → edited e d ≡ with_thing d t
unfolding edited
edited_made d e t is = ap (λ o. option_map_or (with_thing d) o (changed e d)) is

-- more separations, where the edit makes the item
crowded : (d : Diagram) (e : Edit) (axis : Axis) → is_crowded d e axis ≡ true → IsCrowded d e most_separations
crowded d e axis is = by (made d e) refl is
  where
    by : (o : Option Thing) → made d e ≡ o → option_map_or (λ t. nat_lt most_separations (count_with d axis t)) o false ≡ true → IsCrowded d e most_separations
    by None makes is = cc
    by (Some t) makes is = record {
      thing = t;
      makes = makes;
      axis = axis;
      more = subst (λ c. most_separations < length (separations c axis)) (sym (edited_made d e t makes)) (ltb-true _ _ is);
      most = refl;
    }

crowded_is : (d : Diagram) (e : Edit) (count : ℕ) (at : IsCrowded d e count) → is_crowded d e at.axis ≡ true
crowded_is d e count at =
    ap (λ o. option_map_or (λ t. nat_lt most_separations (count_with d at.axis t)) o false) at.makes
    ∙ lt-ltb most_separations (count_with d at.axis at.thing) (subst (λ c. most_separations < length (separations c at.axis)) (edited_made d e at.thing at.makes) at.more)

one_axis : (a b : Bool) → (a || b) ≡ true → (a ≡ true) ⊎ (b ≡ true)
one_axis true b is = inl refl
one_axis false b is = inr is

either_axis : (f : Axis → Bool) (axis : Axis) → f axis ≡ true → (f X || f Y) ≡ true
either_axis f X is = ap (λ b. b || f Y) is
either_axis f Y is = by (f X)
  where
    by : (b : Bool) → (b || f Y) ≡ true
    by true = refl
    by false = is

-- ---- each refusal that is there says what it says

module _ (d : Diagram) (e : Edit) where
  -- a refusal of a rank
  abbrev Ranks : ℕ → Refusal → Type 0
  Ranks k r = Holds d e r × (rank r ≡ k)

  range : (r : Refusal) → range_refusal e ≡ Some r → Ranks 0 r
  range r is =
      let x = mapped (λ (n : Ranged). refusal.Range n.value) (find is_outside (numbers e)) r is in
      subst (Ranks 0) x.2 (record { number = x.0; first = find-first is_outside (λ n. IsWithin n → ⊥) out_of_range (λ n inside outside. outside (in_range n inside)) (numbers e) x.0 x.1; is = refl }, refl)

  unknown : (r : Refusal) → unknown_among d (old_names e) ≡ Some r → Ranks 1 r
  unknown r is =
      let x = mapped refusal.Unknown (find (λ name. not (stands d name)) (old_names e)) r is in
      subst (Ranks 1) x.2 (find-first (λ name. not (stands d name)) (λ name. stands d name ≡ false) (λ name h. not_false (stands d name) h) (λ name h. not_true (stands d name) h) (old_names e) x.0 x.1, refl)

  taken : (r : Refusal) → taken_refusal d (naming e).makes ≡ Some r → Ranks 2 r
  taken r is = by (naming e).makes refl is
    where
      by : (o : Option NewItem) → (naming e).makes ≡ o → taken_refusal d o ≡ Some r → Ranks 2 r
      by None makes is = cc
      by (Some item) makes is =
          let x = some_if (stands d item.name) (refusal.Taken item.name) r is in
          subst (Ranks 2) x.1 (record { item = item; makes = makes; named = refl; stands = x.0 }, refl)

  kind : (r : Refusal) → kind_among d (naming e).asks ≡ Some r → Ranks 3 r
  kind r is =
      let x = mapped (λ (ask : Ask). refusal.Kind ask.name) (find (λ (ask : Ask). not (is_of_kind d ask.kind ask.name)) (naming e).asks) r is in
      subst (Ranks 3) x.2 (
        record {
          ask = x.0;
          first = find-first (λ (ask : Ask). not (is_of_kind d ask.kind ask.name)) (λ (ask : Ask). is_of_kind d ask.kind ask.name ≡ false)
              (λ (ask : Ask) h. not_false (is_of_kind d ask.kind ask.name) h) (λ (ask : Ask) h. not_true (is_of_kind d ask.kind ask.name) h) (naming e).asks x.0 x.1;
          named = refl;
        },
        refl,
      )

  twice : (r : Refusal) → twice_among (naming e).row ≡ Some r → Ranks 4 r
  twice r is =
      let x = mapped refusal.Twice (first_twice [] (naming e).row) r is in
      subst (Ranks 4) x.2 (twice-repeat (naming e).row x.0 x.1, refl)

  in_use : (r : Refusal) → in_use_refusal d (naming e).frees ≡ Some r → Ranks 5 r
  in_use r is = by (naming e).frees refl is
    where
      by : (o : Option NameOf) → (naming e).frees ≡ o → in_use_refusal d o ≡ Some r → Ranks 5 r
      by None frees is = cc
      by (Some name) frees is =
          let x = mapped refusal.InUse (user_of d name) r is in
          let u = mapped (λ (user : User). user.name) (find (λ (user : User). is_used_in user.uses name) (users d)) x.0 x.1 in
          subst (Ranks 5) x.2 (
            record {
              name = name;
              frees = frees;
              user = u.0;
              first = find-first (λ (user : User). is_used_in user.uses name) (λ (user : User). is_used_in user.uses name ≡ true) (λ (user : User) h. h) (λ (user : User) h no_h. cc) (users d) u.0 u.1;
              named = u.2;
            },
            refl,
          )

  members : (r : Refusal) → members_refusal (naming e).row ≡ Some r → Ranks 6 r
  members r is =
      let x = some_if (nat_lt most_members (length (naming e).row)) (refusal.Limit counted.Members most_members) r is in
      subst (Ranks 6) x.1 ((ltb-true _ _ x.0, refl), refl)

  full : (r : Refusal) → full_refusal d (naming e).makes ≡ Some r → Ranks 7 r
  full r is = by (naming e).makes refl is
    where
      at_sort : (item : NewItem) (s : Sort) → (naming e).makes ≡ Some item → item.sort ≡ s → most_of s ≤ count_of d s → Ranks 7 (refusal.Limit (counted_as s) (most_of s))
      at_sort item sort.Shape makes sorted le = (record { item = item; makes = makes; sorted = sorted; full = le; most = refl }, refl)
      at_sort item sort.Guide makes sorted le = (record { item = item; makes = makes; sorted = sorted; full = le; most = refl }, refl)
      at_sort item sort.Link makes sorted le = (record { item = item; makes = makes; sorted = sorted; full = le; most = refl }, refl)
      at_sort item sort.Compound makes sorted le = (record { item = item; makes = makes; sorted = sorted; full = le; most = refl }, refl)
      at_sort item sort.Group makes sorted le = (record { item = item; makes = makes; sorted = sorted; full = le; most = refl }, refl)
      at_sort item sort.Page makes sorted le = (record { item = item; makes = makes; sorted = sorted; full = le; most = refl }, refl)

      by : (o : Option NewItem) → (naming e).makes ≡ o → full_refusal d o ≡ Some r → Ranks 7 r
      by None makes is = cc
      by (Some item) makes is =
          let x = some_if (nat_le (most_of item.sort) (count_of d item.sort)) (refusal.Limit (counted_as item.sort) (most_of item.sort)) r is in
          subst (Ranks 7) x.1 (at_sort item item.sort makes refl (leb-true _ _ x.0))

  many_separations : (r : Refusal) → separations_refusal d e ≡ Some r → Ranks 8 r
  many_separations r is =
      let x = some_if (is_crowded d e X || is_crowded d e Y) (refusal.Limit counted.Seps most_separations) r is in
      subst (Ranks 8) x.1 (by (one_axis (is_crowded d e X) (is_crowded d e Y) x.0), refl)
    where
      by : (is_crowded d e X ≡ true) ⊎ (is_crowded d e Y ≡ true) → IsCrowded d e most_separations
      by (inl on_x) = crowded d e X on_x
      by (inr on_y) = crowded d e Y on_y

  -- the refusal at each place of the list
  pub listed : (k : ℕ) (r : Refusal) → get_or (refusals d e) k None ≡ Some r → Ranks k r
  listed zero r is = range r is
  listed (suc zero) r is = unknown r is
  listed (suc (suc zero)) r is = taken r is
  listed (suc (suc (suc zero))) r is = kind r is
  listed (suc (suc (suc (suc zero)))) r is = twice r is
  listed (suc (suc (suc (suc (suc zero))))) r is = in_use r is
  listed (suc (suc (suc (suc (suc (suc zero)))))) r is = members r is
  listed (suc (suc (suc (suc (suc (suc (suc zero))))))) r is = full r is
  listed (suc (suc (suc (suc (suc (suc (suc (suc zero)))))))) r is = many_separations r is
  listed (suc (suc (suc (suc (suc (suc (suc (suc (suc k))))))))) r is = cc

  -- ---- each cause that holds is listed at its rank

  is_full : (s : Sort) (count : ℕ) → IsFull d e s count → full_refusal d (naming e).makes ≡ Some (refusal.Limit (counted_as s) count)
  is_full s count at =
      ap (full_refusal d) at.makes ∙ (ap (count_refusal d) at.sorted ∙ (ap (λ b. cond b (Some (refusal.Limit (counted_as s) (most_of s))) None) (le-leb (most_of s) (count_of d s) at.full) ∙ ap (λ n. Some (refusal.Limit (counted_as s) n)) (sym at.most)))

  pub held : (r : Refusal) → Holds d e r → get_or (refusals d e) (rank r) None ≡ Some r
  held (refusal.Range value) at =
      ap (option_map (λ (n : Ranged). refusal.Range n.value)) (first-find is_outside (λ n. IsWithin n → ⊥) out_of_range (λ n inside outside. outside (in_range n inside)) (numbers e) at.number at.first)
      ∙ ap (λ v. Some (refusal.Range v)) at.is
  held (refusal.Unknown name) at =
      ap (option_map refusal.Unknown) (first-find (λ old. not (stands d old)) (λ old. stands d old ≡ false) (λ old h. not_false (stands d old) h) (λ old h. not_true (stands d old) h) (old_names e) name at)
  held (refusal.Taken name) at =
      ap (taken_refusal d) at.makes ∙ (ap (λ n. cond (stands d n) (Some (refusal.Taken n)) None) at.named ∙ ap (λ b. cond b (Some (refusal.Taken name)) None) at.stands)
  held (refusal.Kind name) at =
      ap (option_map (λ (ask : Ask). refusal.Kind ask.name)) (first-find (λ (ask : Ask). not (is_of_kind d ask.kind ask.name)) (λ (ask : Ask). is_of_kind d ask.kind ask.name ≡ false)
      (λ (ask : Ask) h. not_false (is_of_kind d ask.kind ask.name) h) (λ (ask : Ask) h. not_true (is_of_kind d ask.kind ask.name) h) (naming e).asks at.ask at.first)
      ∙ ap (λ n. Some (refusal.Kind n)) at.named
  held (refusal.Twice name) at = ap (option_map refusal.Twice) (repeat-twice (naming e).row name at)
  held (refusal.InUse by) at =
      ap (in_use_refusal d) at.frees
      ∙ (ap (λ o. option_map refusal.InUse (option_map (λ (user : User). user.name) o)) (first-find (λ (user : User). is_used_in user.uses at.name) (λ (user : User). is_used_in user.uses at.name ≡ true) (λ (user : User) h. h) (λ (user : User) h no_h. cc) (users d) at.user at.first)
      ∙ ap (λ n. Some (refusal.InUse n)) at.named)
  held (refusal.Limit counted.Members count) at =
      ap (λ b. cond b (Some (refusal.Limit counted.Members most_members)) None) (lt-ltb most_members (length (naming e).row) at.0) ∙ ap (λ n. Some (refusal.Limit counted.Members n)) (sym at.1)
  held (refusal.Limit counted.Shapes count) at = is_full sort.Shape count at
  held (refusal.Limit counted.Guides count) at = is_full sort.Guide count at
  held (refusal.Limit counted.Links count) at = is_full sort.Link count at
  held (refusal.Limit counted.Compounds count) at = is_full sort.Compound count at
  held (refusal.Limit counted.Groups count) at = is_full sort.Group count at
  held (refusal.Limit counted.Pages count) at = is_full sort.Page count at
  held (refusal.Limit counted.Seps count) at =
      ap (λ b. cond b (Some (refusal.Limit counted.Seps most_separations)) None) (either_axis (is_crowded d e) at.axis (crowded_is d e count at)) ∙ ap (λ n. Some (refusal.Limit counted.Seps n)) (sym at.most)
  held (refusal.Limit counted.Entries count) at = absurd at
  held (refusal.Infeasible axis walk) at = absurd at
  held (refusal.Ended place) at = absurd at
  held refusal.NothingToUndo at = absurd at
  held refusal.Memory at = absurd at

-- ---- the first in the list, a part at a time

first_of-left : (xs ys : List (Option Refusal)) (r : Refusal) → first_of xs ≡ Some r → first_of (xs ++ ys) ≡ Some r
first_of-left [] ys r is = cc
first_of-left (None ∷ xs) ys r is = first_of-left xs ys r is
first_of-left (Some x ∷ xs) ys r is = is

first_of-right : (xs ys : List (Option Refusal)) → first_of xs ≡ None → first_of (xs ++ ys) ≡ first_of ys
first_of-right [] ys none = refl
first_of-right (None ∷ xs) ys none = first_of-right xs ys none
first_of-right (Some x ∷ xs) ys none = cc

first_of-head : (o : Option Refusal) (os : List (Option Refusal)) → o ≡ None → first_of (o ∷ os) ≡ first_of os
first_of-head None os none = refl
first_of-head (Some x) os none = cc

module _ (d : Diagram) (e : Edit) where
  abbrev limits : List (Option Refusal)
  limits = limit_refusals d (naming e).row (naming e).makes

  abbrev behind_range : List (Option Refusal)
  behind_range = named_refusals d (naming e) ++ (limits ++ separations_refusal d e ∷ [])

  pub refused_range : (r : Refusal) → range_refusal e ≡ Some r → refusal_of d e ≡ Some r
  unfolding refusal_of
  refused_range r is = ap (λ o. first_of (o ∷ behind_range)) is

  pub refused_named : (r : Refusal) → range_refusal e ≡ None → first_of (named_refusals d (naming e)) ≡ Some r → refusal_of d e ≡ Some r
  unfolding refusal_of
  refused_named r within is = first_of-head (range_refusal e) behind_range within ∙ first_of-left (named_refusals d (naming e)) (limits ++ separations_refusal d e ∷ []) r is

  -- no cause before the last
  pub refused_last : range_refusal e ≡ None → first_of (named_refusals d (naming e)) ≡ None → first_of limits ≡ None → refusal_of d e ≡ separations_refusal d e
  unfolding refusal_of
  refused_last within named few =
      first_of-head (range_refusal e) behind_range within
      ∙ (first_of-right (named_refusals d (naming e)) (limits ++ separations_refusal d e ∷ []) named
      ∙ (first_of-right limits (separations_refusal d e ∷ []) few ∙ single (separations_refusal d e)))
    where
      single : (o : Option Refusal) → first_of (o ∷ []) ≡ o
      single None = refl
      single (Some r) = refl

  pub refused_limit : (r : Refusal) → range_refusal e ≡ None → first_of (named_refusals d (naming e)) ≡ None → first_of limits ≡ Some r → refusal_of d e ≡ Some r
  unfolding refusal_of
  refused_limit r within named is =
      first_of-head (range_refusal e) behind_range within
      ∙ (first_of-right (named_refusals d (naming e)) (limits ++ separations_refusal d e ∷ []) named ∙ first_of-left limits (separations_refusal d e ∷ []) r is)

-- what one naming gives is what an equal one gives
pub by_names : (d : Diagram) (held says : Naming) → held ≡ says → (o : Option Refusal) → o ≡ first_of (named_refusals d held) → first_of (named_refusals d says) ≡ o
by_names d held says same o is = ap (λ (n : Naming). first_of (named_refusals d n)) (sym same) ∙ sym is

pub by_limits : (d : Diagram) (held says : Naming) → held ≡ says → (o : Option Refusal) → o ≡ first_of (limit_refusals d held.row held.makes) → first_of (limit_refusals d says.row says.makes) ≡ o
by_limits d held says same o is = ap (λ (n : Naming). first_of (limit_refusals d n.row n.makes)) (sym same) ∙ sym is

-- ---- the first in the list

first_there : (os : List (Option Refusal)) (r : Refusal) → first_of os ≡ Some r → (k : ℕ) × (get_or os k None ≡ Some r) × ((j : ℕ) → j < k → get_or os j None ≡ None)
first_there [] r is = cc
first_there (Some x ∷ os) r is = let same : x ≡ r = cc in (0, ap Some same, λ j lt. absurd (omega (arith, lt)))
first_there (None ∷ os) r is =
    let rest = first_there os r is in
    (suc rest.0, rest.1, before rest.0 rest.2)
  where
    before : (k : ℕ) → ((j : ℕ) → j < k → get_or os j None ≡ None) → (j : ℕ) → j < suc k → get_or (None ∷ os) j None ≡ None
    before k none zero lt = refl
    before k none (suc j) lt = none j (omega (arith, lt))

none_there : (os : List (Option Refusal)) → first_of os ≡ None → (j : ℕ) → get_or os j None ≡ None
none_there [] none j = refl
none_there (Some x ∷ os) none j = cc
none_there (None ∷ os) none zero = refl
none_there (None ∷ os) none (suc j) = none_there os none j

pub refused : (d : Diagram) (e : Edit) (r : Refusal) → refusal_of d e ≡ Some r → IsRefused d e r
unfolding refusal_of
refused d e r is =
    let x = first_there (refusals d e) r is in
    let at = listed d e x.0 r x.1 in
    record {
      holds = at.0;
      first = λ other lt holds. let there = held d e other holds in let gone = x.2 (rank other) (omega (arith, lt, at.1)) in cc (there, gone);
    }

pub accepts : (d : Diagram) (e : Edit) → refusal_of d e ≡ None → Accepts d e
unfolding refusal_of
accepts d e none = λ r holds. let there = held d e r holds in let gone = none_there (refusals d e) none (rank r) in cc (there, gone)

pub accepted_none : (d : Diagram) (e : Edit) → Accepts d e → refusal_of d e ≡ None
accepted_none d e all = by (refusal_of d e) refl
  where
    by : (o : Option Refusal) → refusal_of d e ≡ o → refusal_of d e ≡ None
    by None is = is
    by (Some r) is = absurd (all r (refused d e r is).holds)

pub refused_some : (d : Diagram) (e : Edit) (r : Refusal) → IsRefused d e r → refusal_of d e ≡ Some r
refused_some d e r first = by (refusal_of d e) refl
  where
    same_rank : (other : Refusal) → IsRefused d e other → rank other ≡ rank r → other ≡ r
    same_rank other at is =
        let one : get_or (refusals d e) (rank r) None ≡ Some other = subst (λ k. get_or (refusals d e) k None ≡ Some other) is (held d e other at.holds) in
        let two = held d e r first.holds in
        cc (one, two)

    by : (o : Option Refusal) → refusal_of d e ≡ o → refusal_of d e ≡ Some r
    by None is = absurd (accepts d e is r first.holds)
    by (Some other) is =
        let at = refused d e other is in
        order other at (nat_lt (rank other) (rank r)) (nat_lt (rank r) (rank other)) refl refl is
      where
        order : (other : Refusal) → IsRefused d e other → (less more : Bool) → nat_lt (rank other) (rank r) ≡ less → nat_lt (rank r) (rank other) ≡ more → refusal_of d e ≡ Some other → refusal_of d e ≡ Some r
        order other at true more lt gt is = absurd (first.first other (ltb-true _ _ lt) at.holds)
        order other at false true lt gt is = absurd (at.first r (ltb-true _ _ gt) first.holds)
        order other at false false lt gt is =
            let le = ltb-false (rank other) (rank r) lt in
            let ge = ltb-false (rank r) (rank other) gt in
            let same = same_rank other at (omega (arith, le, ge)) in
            subst (λ x. refusal_of d e ≡ Some x) same is

-- no refusal of a diagram is want of memory
pub refusal_of-not_memory : (d : Diagram) (e : Edit) → refusal_of d e ≡ Some refusal.Memory → ⊥
refusal_of-not_memory d e is = (refused d e refusal.Memory is).holds

-- ---- what an answer with the first refusal says

pub check_accepted : {A : Type 0} (d : Diagram) (e : Edit) (result : Result A Refusal) → MatchResult result (λ x. refusal_of d e ≡ None) (λ r. refusal_of d e ≡ Some r) → IsOk result ↔ Accepts d e
check_accepted d e (Ok x) none = (λ ok. accepts d e none, λ all. refl)
check_accepted d e (Err r) is = (λ ok. cc, λ all. absurd (all r (refused d e r is).holds))

pub check_refused : {A : Type 0} (d : Diagram) (e : Edit) (result : Result A Refusal) → MatchResult result (λ x. refusal_of d e ≡ None) (λ r. refusal_of d e ≡ Some r) → (r : Refusal) → (result ≡ Err r) ↔ IsRefused d e r
check_refused d e (Ok x) none r = (λ is. cc, λ first. absurd (accepts d e none r first.holds))
check_refused d e (Err other) is r =
    (λ same. let equal : other ≡ r = cc in subst (IsRefused d e) equal (refused d e other is), λ first. let there = refused_some d e r first in let equal : other ≡ r = cc (is, there) in ap Err equal)
