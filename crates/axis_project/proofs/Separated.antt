-- The separations of a sound diagram: each stands between two different variables, with a gap in its range.
use Rattle.std.proofs.Common.{◌≡◌, ◌≢◌, ℕ, suc, ◌+◌, ◌<◌, ◌≤◌, ◌/◌, ℤ, pos, negsuc, ◌+ℤ◌, ◌≤ℤ◌, List, [], ◌∷◌, ◌++◌, Bool, true, false, cond, not, ◌||◌, ◌&&◌, length, map, Some, refl, ap, sym, ◌∙◌, subst, arith}
use Rattle.std.specs.Prelude.{nat_abs, find, if◌then◌else◌, IsSome}
use Rattle.std.specs.Option.{option_map_or}
use Rattle.std.specs.List.{AllByRecursion, IsDistinct, list_any, flat_map, position_or_len}
use Rattle.std.proofs.lemmas.Int.{ints}
use Rattle.std.proofs.lemmas.Map.Keys.{IsDistinct-head, IsDistinct-tail}
use Rattle.std.proofs.lemmas.Slice.Eq.{bytes_eq-Decides}
use Rattle.units.specs.declared.geometry.Axis.{Axis}
use Rattle.units.specs.declared.geometry.Axis.TheVariants.{X, Y}
use Rattle.units.specs.declared.geometry.Sep.{Sep}
use Rattle.units.specs.Problem.{IsSeparation}
use Rattle.scene_model.specs.declared.items.AlignLine.{AlignLine}
use Rattle.scene_model.specs.declared.items.AlignLine.TheVariants.{Low, Mid, High}
use Rattle.scene_model.specs.declared.items.Shape.{Shape}
use Rattle.scene_model.specs.declared.items.Guide.{Guide}
use Rattle.scene_model.specs.declared.items.Rule.{Rule}
use Rattle.scene_model.specs.declared.items.Rule.TheVariants as rule
use Rattle.scene_model.specs.declared.items.Group.{Group}
use Rattle.scene_model.specs.declared.items.Page.{Page}
use Rattle.scene_model.specs.declared.items.Sort.TheVariants as sort
use Rattle.scene_model.specs.declared.uses.Wanted.{Wanted}
use Rattle.scene_model.specs.declared.uses.Wanted.TheVariants as wanted
use Rattle.scene_model.specs.declared.variables.VariableName.{VariableName}
use Rattle.scene_model.specs.declared.variables.VariableName.TheVariants.{OfItem, LowEdge, HighEdge}
use Rattle.scene_model.specs.Names.{NameOf, same_name, same_axis, map_neighbours}
use Rattle.scene_model.specs.Diagram.{Diagram, sort_names, shape_names, guide_names, group_names, page_names}
use Rattle.scene_model.specs.Uses.{Use, each, has_shape, has_guide_on, stands_as, rule_uses, rule_row, IsUser}
use Rattle.scene_model.specs.Variables.{variables, variable_number, same_variable, guide_variable, guides_on, group_variables, page_variables, size, half, page_size}
use Rattle.scene_model.specs.Meaning.{size_of, line_offset}
use Rattle.scene_model.specs.Separations.{between, on_guide, behind, rule_separations, within, edges_apart, group_separations, on_page, declared_size, page_separations, compound_separations, separations}
use Rattle.scene_model.specs.Sound.{IsSound, IsShape, IsCompound, IsGroup, IsPage, HasGap, IsCoordinate, IsBorder}
use Rattle.scene_model.proofs.Named.{is_some-position}
use Rattle.axis_project.proofs.ItemVariables.{any-front, any-behind, any-parts, any-shapes, is_of, of_shapes, of_guides, of_groups, of_pages}

-- ---- lists of facts

all-append : {A : Type 0} (P : A → Type 0) (xs ys : List A) → AllByRecursion P xs → AllByRecursion P ys → AllByRecursion P (xs ++ ys)
all-append P [] ys front behind = behind
all-append P (x ∷ xs) ys front behind = (front.0, all-append P xs ys front.1 behind)

all-flat_map : {A B : Type 0} (Q : A → Type 0) (P : B → Type 0) (f : A → List B) → ((x : A) → Q x → AllByRecursion P (f x)) → (xs : List A) → AllByRecursion Q xs → AllByRecursion P (flat_map f xs)
all-flat_map Q P f gives [] all = tt
all-flat_map Q P f gives (x ∷ xs) all = all-append P (f x) (flat_map f xs) (gives x all.0) (all-flat_map Q P f gives xs all.1)

all-map : {A B : Type 0} (Q : A → Type 0) (P : B → Type 0) (f : A → B) → ((x : A) → Q x → P (f x)) → (xs : List A) → AllByRecursion Q xs → AllByRecursion P (map f xs)
all-map Q P f gives [] all = tt
all-map Q P f gives (x ∷ xs) all = (gives x all.0, all-map Q P f gives xs all.1)

all-weaker : {A : Type 0} (Q P : A → Type 0) → ((x : A) → Q x → P x) → (xs : List A) → AllByRecursion Q xs → AllByRecursion P xs
all-weaker Q P gives [] all = tt
all-weaker Q P gives (x ∷ xs) all = (gives x all.0, all-weaker Q P gives xs all.1)

all-both : {A : Type 0} (P Q : A → Type 0) (xs : List A) → AllByRecursion P xs → AllByRecursion Q xs → AllByRecursion (λ x. P x × Q x) xs
all-both P Q [] one two = tt
all-both P Q (x ∷ xs) one two = ((one.0, two.0), all-both P Q xs one.1 two.1)

or_right : (a b : Bool) → b ≡ true → (a || b) ≡ true
or_right true b is = refl
or_right false b is = is

-- ---- names

own_name : (n : NameOf) → same_name n n ≡ true
own_name n = (bytes_eq-Decides n n).1 refl

-- each of the items has its name among those of all
own_names : {T : Type 0} (name_of : T → NameOf) (xs : List T) → AllByRecursion (λ x. list_any (same_name (name_of x)) (map name_of xs) ≡ true) xs
own_names name_of [] = tt
own_names name_of (x ∷ xs) = (
  ap (λ b. b || list_any (same_name (name_of x)) (map name_of xs)) (own_name (name_of x)),
  all-weaker (λ y. list_any (same_name (name_of y)) (map name_of xs) ≡ true) (λ y. list_any (same_name (name_of y)) (map name_of (x ∷ xs)) ≡ true)
      (λ y is. or_right (same_name (name_of y) (name_of x)) (list_any (same_name (name_of y)) (map name_of xs)) is) xs (own_names name_of xs),
)

-- a name that differs from all is none of them
not_among : (a b : NameOf) (names : List NameOf) → AllByRecursion (λ n. same_name a n ≡ false) names → list_any (same_name b) names ≡ true → same_name a b ≡ false
not_among a b [] differ any = cc
not_among a b (n ∷ ns) differ any = by (same_name b n) refl any (not_among a b ns differ.1)
  where
    by : (c : Bool) → same_name b n ≡ c → (c || list_any (same_name b) ns) ≡ true → (list_any (same_name b) ns ≡ true → same_name a b ≡ false) → same_name a b ≡ false
    by true same any rest = ap (same_name a) ((bytes_eq-Decides b n).0 same) ∙ differ.0
    by false same any rest = rest any

-- of names that differ one of the front is none of those behind
crossed : (a b : NameOf) (xs ys : List NameOf) → IsDistinct same_name (xs ++ ys) → list_any (same_name a) xs ≡ true → list_any (same_name b) ys ≡ true → same_name a b ≡ false
crossed a b [] ys distinct one two = cc
crossed a b (x ∷ xs) ys distinct one two = by (same_name a x) refl one (λ rest. crossed a b xs ys (IsDistinct-tail same_name x (xs ++ ys) distinct) rest two)
  where
    by : (c : Bool) → same_name a x ≡ c → (c || list_any (same_name a) xs) ≡ true → (list_any (same_name a) xs ≡ true → same_name a b ≡ false) → same_name a b ≡ false
    by true same one rest =
        ap (λ n. same_name n b) ((bytes_eq-Decides a x).0 same)
        ∙ not_among x b (xs ++ ys) (IsDistinct-head same_name x (xs ++ ys) distinct) (any-behind (same_name b) xs ys two)
    by false same one rest = rest one

-- ---- variables

-- where some element passes the first test, and none both, the first places differ
places_differ : {A : Type 0} (p q : A → Bool) → ((x : A) → p x ≡ true → q x ≡ true → ⊥) → (xs : List A) → list_any p xs ≡ true → position_or_len p xs ≢ position_or_len q xs
places_differ p q never [] any = cc
places_differ {A} p q never (x ∷ xs) any = by (p x) (q x) (never x) any (places_differ p q never xs)
  where
    by : (a b : Bool) → (a ≡ true → b ≡ true → ⊥) → (a || list_any p xs) ≡ true → (list_any p xs ≡ true → position_or_len p xs ≢ position_or_len q xs)
        → cond (not a) (1 + position_or_len p xs) 0 ≢ cond (not b) (1 + position_or_len q xs) 0
    by true true never any rest = absurd (never refl refl)
    by true false never any rest = λ same. omega (arith, same)
    by false true never any rest = λ same. omega (arith, same)
    by false false never any rest = λ same. rest any (omega (arith, same))

place_below : {A : Type 0} (p : A → Bool) (xs : List A) → list_any p xs ≡ true → position_or_len p xs < length xs
place_below p [] any = cc
place_below {A} p (x ∷ xs) any = by (p x) any (place_below p xs)
  where
    by : (a : Bool) → (a || list_any p xs) ≡ true → (list_any p xs ≡ true → position_or_len p xs < length xs) → cond (not a) (1 + position_or_len p xs) 0 < suc (length xs)
    by true any rest = omega arith
    by false any rest = let less = rest any in omega (arith, less)

-- no variable has both names
abbrev AreApart : VariableName → VariableName → Type 0
AreApart a b = (v : VariableName) → same_variable a v ≡ true → same_variable b v ≡ true → ⊥

items_apart : (a b : NameOf) → same_name a b ≡ false → AreApart (OfItem a) (OfItem b)
items_apart a b differ (OfItem n) one two =
    let same : same_name a b ≡ true = (bytes_eq-Decides a b).1 ((bytes_eq-Decides a n).0 one ∙ sym ((bytes_eq-Decides b n).0 two)) in
    cc
items_apart a b differ (LowEdge n) one two = cc
items_apart a b differ (HighEdge n) one two = cc

low_apart : (a b : NameOf) → AreApart (LowEdge a) (OfItem b)
low_apart a b (OfItem n) one two = cc
low_apart a b (LowEdge n) one two = cc
low_apart a b (HighEdge n) one two = cc

high_apart : (a b : NameOf) → AreApart (OfItem a) (HighEdge b)
high_apart a b (OfItem n) one two = cc
high_apart a b (LowEdge n) one two = cc
high_apart a b (HighEdge n) one two = cc

edges_differ : (a b : NameOf) → AreApart (LowEdge a) (HighEdge b)
edges_differ a b (OfItem n) one two = cc
edges_differ a b (LowEdge n) one two = cc
edges_differ a b (HighEdge n) one two = cc

-- ---- sizes

-- a size of a shape, or none
abbrev IsSize : ℤ → Type 0
IsSize z = (pos 0 ≤ℤ z) × (z ≤ℤ pos 10000)

size_small : (axis : Axis) (s : Shape) → IsShape s → IsSize (size axis s)
size_small X s is = (omega (arith, ints, is.w.0), is.w.1)
size_small Y s is = (omega (arith, ints, is.h.0), is.h.1)

sized : (axis : Axis) (n : NameOf) (ss : List Shape) → AllByRecursion IsShape ss → IsSize (option_map_or (size axis) (find (λ (s : Shape). same_name n s.name) ss) (pos 0))
sized axis n [] all = (omega (arith, ints), omega (arith, ints))
sized axis n (s ∷ ss) all = by (same_name n s.name) (sized axis n ss all.1)
  where
    by : (b : Bool) → IsSize (option_map_or (size axis) (find (λ (s : Shape). same_name n s.name) ss) (pos 0))
        → IsSize (option_map_or (size axis) (cond b (Some s) (find (λ (s : Shape). same_name n s.name) ss)) (pos 0))
    by true rest = size_small axis s all.0
    by false rest = rest

half_small : (z : ℤ) → IsSize z → nat_abs (half z) ≤ 1000000
half_small (pos n) is = halved n (omega (arith, ints, is.1))
  where
    halved : (n : ℕ) → n ≤ 10000 → n / 2 ≤ 1000000
    halved n le = omega (arith, le)
half_small (negsuc n) is = absurd (omega (arith, ints, is.0))

whole_small : (z : ℤ) → IsSize z → nat_abs z ≤ 1000000
whole_small z is = omega (arith, ints, is.0, is.1)

offset_small : (line : AlignLine) (z : ℤ) → IsSize z → nat_abs (line_offset line z) ≤ 1000000
offset_small Low z is = omega (arith, ints)
offset_small Mid z is = half_small z is
offset_small High z is = whole_small z is

border_small : (z : ℤ) → IsBorder z → nat_abs z ≤ 1000000
border_small z is = omega (arith, ints, is.0, is.1)

inset_small : (z b : ℤ) → IsSize z → IsBorder b → nat_abs (z +ℤ b) ≤ 1000000
inset_small z b is border = omega (arith, ints, is.0, is.1, border.0, border.1)

page_small : (axis : Axis) (p : Page) → IsPage p → nat_abs (page_size axis p) ≤ 1000000
page_small X p is = omega (arith, ints, is.w.0, is.w.1)
page_small Y p is = omega (arith, ints, is.h.0, is.h.1)

-- ---- what stands

own_axis : (own axis : Axis) → same_axis own axis ≡ true → own ≡ axis
own_axis X X is = refl
own_axis X Y is = cc
own_axis Y X is = cc
own_axis Y Y is = refl

any-guides : (axis : Axis) (n : NameOf) (gs : List Guide) → has_guide_on axis gs n ≡ true → list_any (is_of (OfItem n)) (map guide_variable (guides_on axis gs)) ≡ true
any-guides axis n [] is = cc
any-guides axis n (g ∷ gs) is = by (same_name n g.name) (same_axis g.axis axis) refl is (any-guides axis n gs)
  where
    by : (a b : Bool) → same_name n g.name ≡ a → ((a && b) || has_guide_on axis gs n) ≡ true
        → (has_guide_on axis gs n ≡ true → list_any (is_of (OfItem n)) (map guide_variable (guides_on axis gs)) ≡ true)
        → list_any (is_of (OfItem n)) (map guide_variable (cond b (g ∷ guides_on axis gs) (guides_on axis gs))) ≡ true
    by true true same is rest = ap (λ b. b || list_any (is_of (OfItem n)) (map guide_variable (guides_on axis gs))) same
    by true false same is rest = rest is
    by false true same is rest = any-behind (is_of (OfItem n)) (guide_variable g ∷ []) (map guide_variable (guides_on axis gs)) (rest is)
    by false false same is rest = rest is

guide_among : (axis : Axis) (n : NameOf) (gs : List Guide) → has_guide_on axis gs n ≡ true → list_any (same_name n) (guide_names gs) ≡ true
guide_among axis n [] is = cc
guide_among axis n (g ∷ gs) is = by (same_name n g.name) (same_axis g.axis axis) is (guide_among axis n gs)
  where
    by : (a b : Bool) → ((a && b) || has_guide_on axis gs n) ≡ true → (has_guide_on axis gs n ≡ true → list_any (same_name n) (guide_names gs) ≡ true) → (a || list_any (same_name n) (guide_names gs)) ≡ true
    by true b is rest = refl
    by false b is rest = rest is

-- the names of the uses stand as what is wanted
uses_named : (shapes : List Shape) (guides : List Guide) (want : Wanted) (ns : List NameOf)
    → AllByRecursion (λ (u : Use). stands_as shapes guides u.wanted u.name ≡ true) (each want ns) → AllByRecursion (λ n. stands_as shapes guides want n ≡ true) ns
uses_named shapes guides want [] all = tt
uses_named shapes guides want (n ∷ ns) all = (all.0, uses_named shapes guides want ns all.1)

module _ (d : Diagram) (axis : Axis) (sound : IsSound d) where
  -- the axis has a variable of the name
  abbrev IsVariable : VariableName → Type 0
  IsVariable name = list_any (is_of name) (variables d axis) ≡ true

  abbrev IsRight : Sep → Type 0
  IsRight = IsSeparation (length (variables d axis))

  numbered : (name : VariableName) → IsSome (variable_number d axis name) → IsVariable name
  numbered name is = sym (is_some-position (is_of name) (variables d axis)) ∙ is

  shape_has : (n : NameOf) → has_shape d.shapes n ≡ true → IsVariable (OfItem n)
  shape_has n is = numbered (OfItem n) (of_shapes d axis (OfItem n) (any-shapes axis n d.shapes ∙ is))

  guide_has : (n : NameOf) → has_guide_on axis d.guides n ≡ true → IsVariable (OfItem n)
  guide_has n is = numbered (OfItem n) (of_guides d axis (OfItem n) (any-guides axis n d.guides is))

  placed_has : (n : NameOf) → (has_shape d.shapes n || has_guide_on axis d.guides n) ≡ true → IsVariable (OfItem n)
  placed_has n is = by (has_shape d.shapes n) refl is
    where
      by : (b : Bool) → has_shape d.shapes n ≡ b → (b || has_guide_on axis d.guides n) ≡ true → IsVariable (OfItem n)
      by true shape is = shape_has n shape
      by false shape is = guide_has n is

  group_has : (n : NameOf) → list_any (same_name n) (group_names d.groups) ≡ true → IsVariable (LowEdge n) × IsVariable (HighEdge n)
  group_has n is = (
    numbered (LowEdge n) (of_groups d axis (LowEdge n) (any-parts (λ (g : Group). g.name) (group_variables axis) (LowEdge n) n (λ g same. ap (λ b. b || false) same) d.groups is)),
    numbered (HighEdge n) (of_groups d axis (HighEdge n) (any-parts (λ (g : Group). g.name) (group_variables axis) (HighEdge n) n (λ g same. ap (λ b. b || false) same) d.groups is)),
  )

  page_has : (n : NameOf) → list_any (same_name n) (page_names d.pages) ≡ true → IsVariable (LowEdge n) × IsVariable (HighEdge n)
  page_has n is = (
    numbered (LowEdge n) (of_pages d axis (LowEdge n) (any-parts (λ (p : Page). p.name) (page_variables axis) (LowEdge n) n (λ p same. ap (λ b. b || false) same) d.pages is)),
    numbered (HighEdge n) (of_pages d axis (HighEdge n) (any-parts (λ (p : Page). p.name) (page_variables axis) (HighEdge n) n (λ p same. ap (λ b. b || false) same) d.pages is)),
  )

  -- between two different variables
  right_between : (l r : VariableName) (gap : ℤ) (exact : Bool) → IsVariable l → IsVariable r → AreApart l r → nat_abs gap ≤ 1000000 → IsRight (between d axis l r gap exact)
  right_between l r gap exact left right apart near = record {
    left = place_below (is_of l) (variables d axis) left;
    right = place_below (is_of r) (variables d axis) right;
    apart = places_differ (is_of l) (is_of r) (λ v. apart v.name) (variables d axis) left;
    gap = near;
  }

  -- a shape and a guideline have different names
  shape_not_guide : (m g : NameOf) → has_shape d.shapes m ≡ true → has_guide_on axis d.guides g ≡ true → same_name m g ≡ false
  shape_not_guide m g shape guide =
      crossed m g (shape_names d.shapes) (flat_map (sort_names d) (sort.Guide ∷ sort.Link ∷ sort.Compound ∷ sort.Group ∷ sort.Page ∷ [])) sound.distinct shape
      (any-front (same_name g) (guide_names d.guides) (flat_map (sort_names d) (sort.Link ∷ sort.Compound ∷ sort.Group ∷ sort.Page ∷ [])) (guide_among axis g d.guides guide))

  right_on_guide : (guide : NameOf) (line : AlignLine) → has_guide_on axis d.guides guide ≡ true → (m : NameOf) → has_shape d.shapes m ≡ true → IsRight (on_guide d axis guide line m)
  right_on_guide guide line stands m shape =
      right_between (OfItem m) (OfItem guide) (line_offset line (size_of d axis m)) true (shape_has m shape) (guide_has guide stands) (items_apart m guide (shape_not_guide m guide shape stands))
      (offset_small line (size_of d axis m) (sized axis m d.shapes sound.shapes))

  right_behind : (gap : ℤ) (exact : Bool) → IsCoordinate gap → (a b : NameOf) → IsVariable (OfItem a) → IsVariable (OfItem b) → same_name a b ≡ false → IsRight (behind d axis gap exact a b)
  right_behind gap exact near a b one two differ = right_between (OfItem a) (OfItem b) gap exact one two (items_apart a b differ) near

  right_row : (gap : ℤ) (exact : Bool) → IsCoordinate gap → (ns : List NameOf) → AllByRecursion (λ n. IsVariable (OfItem n)) ns → IsDistinct same_name ns
      → AllByRecursion IsRight (map_neighbours (behind d axis gap exact) ns)
  right_row gap exact near [] all distinct = tt
  right_row gap exact near (a ∷ []) all distinct = tt
  right_row gap exact near (a ∷ b ∷ ns) all distinct = (
    right_behind gap exact near a b all.0 all.1.0 (IsDistinct-head same_name a (b ∷ ns) distinct).0,
    right_row gap exact near (b ∷ ns) all.1 (IsDistinct-tail same_name a (b ∷ ns) distinct),
  )

  -- names that stand on an axis have variables there
  row_has : (own : Axis) (ns : List NameOf) → own ≡ axis → AllByRecursion (λ (u : Use). stands_as d.shapes d.guides u.wanted u.name ≡ true) (each (wanted.Placed own) ns) → AllByRecursion (λ n. IsVariable (OfItem n)) ns
  row_has own ns same all =
      all-weaker (λ n. stands_as d.shapes d.guides (wanted.Placed axis) n ≡ true) (λ n. IsVariable (OfItem n)) placed_has ns
      (uses_named d.shapes d.guides (wanted.Placed axis) ns (subst (λ o. AllByRecursion (λ (u : Use). stands_as d.shapes d.guides u.wanted u.name ≡ true) (each (wanted.Placed o) ns)) same all))

  right_rule : (r : Rule) → HasGap r → IsUser d.shapes d.guides (rule_uses r) (rule_row r) → AllByRecursion IsRight (rule_separations d axis r)
  right_rule (rule.Align guide line members) gap user = by (has_guide_on axis d.guides guide) refl
    where
      by : (b : Bool) → has_guide_on axis d.guides guide ≡ b → AllByRecursion IsRight (if b then map (on_guide d axis guide line) members else [])
      by true stands = all-map (λ m. has_shape d.shapes m ≡ true) IsRight (on_guide d axis guide line) (right_on_guide guide line stands) members (uses_named d.shapes d.guides wanted.Shape members user.stand.1)
      by false stands = tt
  right_rule (rule.Spread own gap members) near user = by (same_axis own axis) refl
    where
      by : (b : Bool) → same_axis own axis ≡ b → AllByRecursion IsRight (if b then map_neighbours (behind d axis gap true) members else [])
      by true is = right_row gap true near members (row_has own members (own_axis own axis is) user.stand) user.differ
      by false is = tt
  right_rule (rule.Rank own gap members) near user = by (same_axis own axis) refl
    where
      by : (b : Bool) → same_axis own axis ≡ b → AllByRecursion IsRight (if b then map_neighbours (behind d axis gap false) members else [])
      by true is = right_row gap false near members (row_has own members (own_axis own axis is) user.stand) user.differ
      by false is = tt
  right_rule (rule.Apart own a b gap exact) near user = by (same_axis own axis) refl
    where
      by : (c : Bool) → same_axis own axis ≡ c → AllByRecursion IsRight (if c then behind d axis gap exact a b ∷ [] else [])
      by true is = right_row gap exact near (a ∷ b ∷ []) (row_has own (a ∷ b ∷ []) (own_axis own axis is) user.stand) user.differ
      by false is = tt

  right_within : (area : NameOf) (inset : ℤ) → IsBorder inset → IsVariable (LowEdge area) × IsVariable (HighEdge area) → (m : NameOf) → has_shape d.shapes m ≡ true → AllByRecursion IsRight (within d axis area inset m)
  right_within area inset border edges m shape = (
    right_between (LowEdge area) (OfItem m) inset false edges.0 (shape_has m shape) (low_apart area m) (border_small inset border),
    (
      right_between (OfItem m) (HighEdge area) (size_of d axis m +ℤ inset) false (shape_has m shape) edges.1 (high_apart m area) (inset_small (size_of d axis m) inset (sized axis m d.shapes sound.shapes) border),
      tt,
    ),
  )

  right_edges : (area : NameOf) (gap : ℤ) (exact : Bool) → nat_abs gap ≤ 1000000 → IsVariable (LowEdge area) × IsVariable (HighEdge area) → IsRight (edges_apart d axis area gap exact)
  right_edges area gap exact near edges = right_between (LowEdge area) (HighEdge area) gap exact edges.0 edges.1 (edges_differ area area) near

  right_group : (g : Group) → IsGroup d.shapes d.guides g × (list_any (same_name g.name) (group_names d.groups) ≡ true) → AllByRecursion IsRight (group_separations d axis g)
  right_group g is =
      let edges = group_has g.name is.1 in
      all-append IsRight (flat_map (within d axis g.name g.pad) g.members) (edges_apart d axis g.name (pos 0) false ∷ [])
      (all-flat_map (λ m. has_shape d.shapes m ≡ true) IsRight (within d axis g.name g.pad) (right_within g.name g.pad is.0.pad edges) g.members (uses_named d.shapes d.guides wanted.Shape g.members is.0.user.stand))
      (right_edges g.name (pos 0) false (omega arith) edges, tt)

  right_page : (p : Page) → IsPage p × (list_any (same_name p.name) (page_names d.pages) ≡ true) → AllByRecursion IsRight (page_separations d axis p)
  right_page p is =
      let edges = page_has p.name is.1 in
      all-append IsRight (flat_map (on_page d axis p) d.shapes) (edges_apart d axis p.name (pos 0) false ∷ declared_size d axis p)
      (all-flat_map (λ (s : Shape). has_shape d.shapes s.name ≡ true) IsRight (on_page d axis p) (λ s. right_within p.name p.margin is.0.margin edges s.name) d.shapes (own_names (λ (s : Shape). s.name) d.shapes))
      (right_edges p.name (pos 0) false (omega arith) edges, by p.rigid)
    where
      by : (b : Bool) → AllByRecursion IsRight (if b then edges_apart d axis p.name (page_size axis p) true ∷ [] else [])
      by true = (right_edges p.name (page_size axis p) true (page_small axis p is.0) (page_has p.name is.1), tt)
      by false = tt

  pub separations_sound : AllByRecursion IsRight (separations d axis)
  separations_sound =
      all-append IsRight (flat_map (compound_separations d axis) d.compounds) (flat_map (group_separations d axis) d.groups ++ flat_map (page_separations d axis) d.pages)
      (all-flat_map (IsCompound d.shapes d.guides) IsRight (compound_separations d axis) (λ c is. right_rule c.rule is.gap is.user) d.compounds sound.compounds)
      (all-append IsRight (flat_map (group_separations d axis) d.groups) (flat_map (page_separations d axis) d.pages)
      (all-flat_map (λ g. IsGroup d.shapes d.guides g × (list_any (same_name g.name) (group_names d.groups) ≡ true)) IsRight (group_separations d axis) right_group d.groups
      (all-both (IsGroup d.shapes d.guides) (λ (g : Group). list_any (same_name g.name) (group_names d.groups) ≡ true) d.groups sound.groups (own_names (λ (g : Group). g.name) d.groups)))
      (all-flat_map (λ p. IsPage p × (list_any (same_name p.name) (page_names d.pages) ≡ true)) IsRight (page_separations d axis) right_page d.pages
      (all-both IsPage (λ (p : Page). list_any (same_name p.name) (page_names d.pages) ≡ true) d.pages sound.pages (own_names (λ (p : Page). p.name) d.pages))))
