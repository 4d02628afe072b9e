-- Changes of a shape or guideline that leave the list of separations as it is.
use Rattle.std.proofs.Common.{◌≡◌, ◌+◌, ◌+ℤ◌, ℕ, zero, suc, ℤ, pos, List, [], ◌∷◌, ◌++◌, Bool, true, false, cond, ◌||◌, not, map, refl, ap, sym, ◌∙◌, subst, slice_get, Option, Some}
use Rattle.std.specs.Prelude.{find, if◌then◌else◌}
use Rattle.std.specs.List.{position_or_len, flat_map, list_any, AllByRecursion, IsDistinct, remove}
use Rattle.std.specs.Option.{option_map, option_map_or}
use Rattle.std.proofs.lemmas.Bool.{false≢true}
use Rattle.std.proofs.lemmas.List.{append_assoc}
use Rattle.std.proofs.lemmas.Slice.Eq.{bytes_eq-Decides}
use Rattle.units.specs.declared.geometry.Axis.{Axis}
use Rattle.scene_model.specs.declared.items.Shape.{Shape}
use Rattle.scene_model.specs.declared.items.Guide.{Guide}
use Rattle.scene_model.specs.declared.items.Rule.{Rule}
use Rattle.scene_model.specs.declared.items.Rule.TheVariants as rule
use Rattle.scene_model.specs.declared.items.Group.{Group}
use Rattle.scene_model.specs.declared.items.Page.{Page}
use Rattle.scene_model.specs.declared.items.Sort.TheVariants as sort
use Rattle.scene_model.specs.declared.items.Thing.TheVariants as thing
use Rattle.scene_model.specs.declared.variables.Variable.{Variable}
use Rattle.scene_model.specs.declared.variables.VariableName.{VariableName}
use Rattle.scene_model.specs.declared.variables.VariableName.TheVariants.{OfItem, LowEdge, HighEdge}
use Rattle.scene_model.specs.Names.{NameOf, same_name, same_axis, map_neighbours}
use Rattle.scene_model.specs.Naming.{replaced}
use Rattle.scene_model.specs.Diagram.{Diagram, shape_names}
use Rattle.scene_model.specs.Items.{thing_named, with_replaced}
use Rattle.scene_model.specs.Meaning.{size_of, line_offset}
use Rattle.scene_model.specs.Separations.{between, within, rule_separations, group_separations, on_page, page_separations, separations}
use Rattle.scene_model.specs.Sound.{IsSound}
use Rattle.scene_model.specs.Uses.{has_guide_on}
use Rattle.scene_model.specs.Variables.{same_variable, size, page_size, shape_variable, guide_variable, group_variables, page_variables, guides_on, number_or_count}
use Rattle.scene_model.proofs.AllNames.{sort_distinct}
use Rattle.scene_model.proofs.Changes.{map-remove, map-replaced, removed-free}
use Rattle.scene_model.proofs.Places.{found_as, thing_found_is, slice_get-map}
use Rattle.scene_model.proofs.Sound.{has_guide_on-set}

-- ---- the list depends on numbers by name, on sizes, and on which guidelines the axis has

module _ (d e : Diagram) (axis : Axis)
    (number : (v : VariableName) → number_or_count e axis v ≡ number_or_count d axis v)
    (extent : (n : NameOf) → size_of e axis n ≡ size_of d axis n)
    (on : (n : NameOf) → has_guide_on axis e.guides n ≡ has_guide_on axis d.guides n) where
  same_between : (l r : VariableName) (gap : ℤ) (exact : Bool) → between e axis l r gap exact ≡ between d axis l r gap exact
  same_between l r gap exact = λ i. record { left = number l i; right = number r i; gap = gap; exact = exact }

  same_rule : (r : Rule) → rule_separations e axis r ≡ rule_separations d axis r
  same_rule (rule.Align guide line members) = λ i. if on guide i then map (λ n. record { left = number (OfItem n) i; right = number (OfItem guide) i; gap = line_offset line (extent n i); exact = true }) members else []
  same_rule (rule.Spread own gap members) = λ i. if same_axis own axis then map_neighbours (λ a b. same_between (OfItem a) (OfItem b) gap true i) members else []
  same_rule (rule.Rank own gap members) = λ i. if same_axis own axis then map_neighbours (λ a b. same_between (OfItem a) (OfItem b) gap false i) members else []
  same_rule (rule.Apart own a b gap exact) = λ i. if same_axis own axis then same_between (OfItem a) (OfItem b) gap exact i ∷ [] else []

  same_within : (area : NameOf) (inset : ℤ) (n : NameOf) → within e axis area inset n ≡ within d axis area inset n
  same_within area inset n = λ i. same_between (LowEdge area) (OfItem n) inset false i ∷ record { left = number (OfItem n) i; right = number (HighEdge area) i; gap = extent n i +ℤ inset; exact = false } ∷ []

  same_group : (g : Group) → group_separations e axis g ≡ group_separations d axis g
  same_group g = λ i. flat_map (λ n. same_within g.name g.pad n i) g.members ++ same_between (LowEdge g.name) (HighEdge g.name) (pos 0) false i ∷ []

  -- the shapes on a page count by their names
  on_names : (c : Diagram) (p : Page) (shapes : List Shape) → flat_map (on_page c axis p) shapes ≡ flat_map (within c axis p.name p.margin) (shape_names shapes)
  on_names c p [] = refl
  on_names c p (s ∷ ss) = ap (λ rest. within c axis p.name p.margin s.name ++ rest) (on_names c p ss)

  same_page : (p : Page) → shape_names e.shapes ≡ shape_names d.shapes → page_separations e axis p ≡ page_separations d axis p
  same_page p names =
      let shapes : flat_map (on_page e axis p) e.shapes ≡ flat_map (on_page d axis p) d.shapes =
      on_names e p e.shapes ∙ ((λ i. flat_map (λ n. same_within p.name p.margin n i) (names i)) ∙ sym (on_names d p d.shapes)) in
      λ i. shapes i ++ same_between (LowEdge p.name) (HighEdge p.name) (pos 0) false i
      ∷ (if p.rigid then same_between (LowEdge p.name) (HighEdge p.name) (page_size axis p) true i ∷ [] else [])

  pub same_list : shape_names e.shapes ≡ shape_names d.shapes → e.compounds ≡ d.compounds → e.groups ≡ d.groups → e.pages ≡ d.pages → separations e axis ≡ separations d axis
  same_list names compounds groups pages =
      λ i. flat_map (λ c. same_rule c.rule i) (compounds i) ++ (flat_map (λ g. same_group g i) (groups i) ++ flat_map (λ p. same_page p names i) (pages i))

-- ---- items of a name

-- where no item has the name, each name differs
pub none_named : {T : Type 0} (name_of : T → NameOf) (n : NameOf) (xs : List T) → list_any (same_name n) (map name_of xs) ≡ false → AllByRecursion (λ x. same_name n (name_of x) ≡ false) xs
none_named name_of n [] none = tt
none_named {T} name_of n (x ∷ xs) none = by (same_name n (name_of x)) refl none (none_named name_of n xs)
  where
    by : (b : Bool) → same_name n (name_of x) ≡ b → (b || list_any (same_name n) (map name_of xs)) ≡ false
        → (list_any (same_name n) (map name_of xs) ≡ false → AllByRecursion (λ y. same_name n (name_of y) ≡ false) xs) → AllByRecursion (λ y. same_name n (name_of y) ≡ false) (x ∷ xs)
    by true is none rest = cc
    by false is none rest = (is, rest none)

-- of items whose names differ, what holds of the one at a place holds of all of its name
alike : {T : Type 0} (name_of : T → NameOf) (Q : T → Type 0) (xs : List T) (k : ℕ) (x : T) → IsDistinct same_name (map name_of xs) → slice_get xs k ≡ Some x → Q x
    → AllByRecursion (λ y. same_name (name_of x) (name_of y) ≡ true → Q y) xs
alike {T} name_of Q xs k x distinct at this =
    put_back xs k at
    (none_named name_of (name_of x) (remove xs k) (ap (list_any (same_name (name_of x))) (map-remove name_of xs k) ∙ removed-free (map name_of xs) k (name_of x) distinct (slice_get-map name_of xs k ∙ ap (option_map name_of) at)))
  where
    put_back : (xs : List T) (k : ℕ) → slice_get xs k ≡ Some x → AllByRecursion (λ y. same_name (name_of x) (name_of y) ≡ false) (remove xs k) → AllByRecursion (λ y. same_name (name_of x) (name_of y) ≡ true → Q y) xs
    put_back [] k at all = cc
    put_back (y ∷ ys) zero at all = let same : y ≡ x = cc in (λ is. subst Q (sym same) this, others ys all)
      where
        others : (ys : List T) → AllByRecursion (λ y. same_name (name_of x) (name_of y) ≡ false) ys → AllByRecursion (λ y. same_name (name_of x) (name_of y) ≡ true → Q y) ys
        others [] all = tt
        others (z ∷ zs) all = (λ is. absurd (false≢true (sym all.0 ∙ is)), others zs all.1)
    put_back (y ∷ ys) (suc k) at all = (λ is. absurd (false≢true (sym all.0 ∙ is)), put_back ys k at all.1)

-- ---- a changed shape

-- the first place in what stands behind, with the same in front
behind_same : (p : Variable → Bool) (front xs ys : List Variable) → position_or_len p xs ≡ position_or_len p ys → position_or_len p (front ++ xs) ≡ position_or_len p (front ++ ys)
behind_same p [] xs ys same = same
behind_same p (v ∷ vs) xs ys same = let rest = behind_same p vs xs ys same in λ i. cond (not (p v)) (1 + rest i) 0

parted : (a b c d : List Variable) → a ++ b ++ c ++ d ≡ a ++ (b ++ (c ++ d))
parted a b c d = append_assoc (a ++ b) c d ∙ append_assoc a b (c ++ d)

module _ {T : Type 0} (name_of : T → NameOf) (x : T) where
  -- a changed item has the name of the one in whose place it stands
  name_kept : (y : T) → name_of (cond (same_name (name_of x) (name_of y)) x y) ≡ name_of y
  name_kept y = by (same_name (name_of x) (name_of y)) refl
    where
      by : (b : Bool) → same_name (name_of x) (name_of y) ≡ b → name_of (cond b x y) ≡ name_of y
      by true is = (bytes_eq-Decides (name_of x) (name_of y)).0 is
      by false is = refl

  -- and what it has in common with it
  value_kept : {V : Type 0} (value_of : T → V) (y : T) → (same_name (name_of x) (name_of y) ≡ true → value_of x ≡ value_of y) → value_of (cond (same_name (name_of x) (name_of y)) x y) ≡ value_of y
  value_kept {V} value_of y same = by (same_name (name_of x) (name_of y)) refl
    where
      by : (b : Bool) → same_name (name_of x) (name_of y) ≡ b → value_of (cond b x y) ≡ value_of y
      by true is = same is
      by false is = refl

module _ (d : Diagram) (axis : Axis) (s old : Shape) (sound : IsSound d) (found : thing_named d s.name ≡ Some (thing.Shape old)) (same : size axis s ≡ size axis old) where
  abbrev after : List Shape
  after = replaced (λ (x : Shape). x.name) s d.shapes

  first_shape : (v : VariableName) (xs : List Shape) (rest : List Variable)
      → position_or_len (λ (w : Variable). same_variable v w.name) (map (shape_variable axis) (replaced (λ (x : Shape). x.name) s xs) ++ rest)
      ≡ position_or_len (λ (w : Variable). same_variable v w.name) (map (shape_variable axis) xs ++ rest)
  first_shape v [] rest = refl
  first_shape v (x ∷ xs) rest =
      let name = name_kept (λ (y : Shape). y.name) s x in
      let ih = first_shape v xs rest in
      λ i. cond (not (same_variable v (OfItem (name i)))) (1 + ih i) 0

  size_found : (n : NameOf) (xs : List Shape) → AllByRecursion (λ (x : Shape). same_name s.name x.name ≡ true → size axis s ≡ size axis x) xs
      → option_map_or (size axis) (find (λ (x : Shape). same_name n x.name) (replaced (λ (x : Shape). x.name) s xs)) (pos 0) ≡ option_map_or (size axis) (find (λ (x : Shape). same_name n x.name) xs) (pos 0)
  size_found n [] all = refl
  size_found n (x ∷ xs) all =
      let name = name_kept (λ (y : Shape). y.name) s x in
      ap (λ m. option_map_or (size axis) (cond (same_name n m) (Some (cond (same_name s.name x.name) s x)) (find (λ (y : Shape). same_name n y.name) (replaced (λ (y : Shape). y.name) s xs))) (pos 0)) name
      ∙ by (same_name n x.name) (find (λ (y : Shape). same_name n y.name) (replaced (λ (y : Shape). y.name) s xs)) (find (λ (y : Shape). same_name n y.name) xs) (cond (same_name s.name x.name) s x) (value_kept (λ (y : Shape). y.name) s (size axis) x all.0) (size_found n xs all.1)
    where
      by : (b : Bool) (o p : Option Shape) (y : Shape) → size axis y ≡ size axis x → option_map_or (size axis) o (pos 0) ≡ option_map_or (size axis) p (pos 0)
          → option_map_or (size axis) (cond b (Some y) o) (pos 0) ≡ option_map_or (size axis) (cond b (Some x) p) (pos 0)
      by true o p y here rest = here
      by false o p y here rest = rest

  -- a shape of the same size in the place of the one of its name
  pub with_shape_same : separations (with_replaced d (thing.Shape s)) axis ≡ separations d axis
  with_shape_same =
      let x = thing_found_is d s.name (thing.Shape old) found in
      let at = found_as thing.Shape (λ a b e. cc) (slice_get d.shapes x.at) old x.there in
      let all = subst (λ n. AllByRecursion (λ (y : Shape). same_name n y.name ≡ true → size axis s ≡ size axis y) d.shapes) x.named
      (alike (λ (y : Shape). y.name) (λ (y : Shape). size axis s ≡ size axis y) d.shapes x.at old (sort_distinct d sort.Shape sound.distinct) at same) in
      same_list d (with_replaced d (thing.Shape s)) axis number (λ n. size_found n d.shapes all) (λ n. refl) (map-replaced (λ (y : Shape). y.name) s d.shapes) refl refl refl
    where
      number : (v : VariableName) → number_or_count (with_replaced d (thing.Shape s)) axis v ≡ number_or_count d axis v
      number v =
          let guides = map guide_variable (guides_on axis d.guides) in
          let groups = flat_map (group_variables axis) d.groups in
          let pages = flat_map (page_variables axis) d.pages in
          ap (position_or_len (λ (w : Variable). same_variable v w.name)) (parted (map (shape_variable axis) after) guides groups pages)
          ∙ (first_shape v d.shapes (guides ++ (groups ++ pages)) ∙ ap (position_or_len (λ (w : Variable). same_variable v w.name)) (sym (parted (map (shape_variable axis) d.shapes) guides groups pages)))

-- ---- a changed guideline

module _ (d : Diagram) (axis : Axis) (g old : Guide) (sound : IsSound d) (found : thing_named d g.name ≡ Some (thing.Guide old)) (same : old.axis ≡ g.axis) where
  first_guide : (v : VariableName) (xs : List Guide) (rest : List Variable) → AllByRecursion (λ (x : Guide). same_name g.name x.name ≡ true → g.axis ≡ x.axis) xs
      → position_or_len (λ (w : Variable). same_variable v w.name) (map guide_variable (guides_on axis (replaced (λ (x : Guide). x.name) g xs)) ++ rest)
      ≡ position_or_len (λ (w : Variable). same_variable v w.name) (map guide_variable (guides_on axis xs) ++ rest)
  first_guide v [] rest all = refl
  first_guide v (x ∷ xs) rest all =
      let name = name_kept (λ (y : Guide). y.name) g x in
      let own = value_kept (λ (y : Guide). y.name) g (λ (y : Guide). y.axis) x all.0 in
      ap (λ a. position_or_len (λ (w : Variable). same_variable v w.name)
      (map guide_variable (cond (same_axis a axis) (cond (same_name g.name x.name) g x ∷ guides_on axis (replaced (λ (y : Guide). y.name) g xs)) (guides_on axis (replaced (λ (y : Guide). y.name) g xs))) ++ rest)) own
      ∙ by (same_axis x.axis axis) (guides_on axis (replaced (λ (y : Guide). y.name) g xs)) (guides_on axis xs) (cond (same_name g.name x.name) g x) name (first_guide v xs rest all.1)
    where
      by : (b : Bool) (o p : List Guide) (y : Guide) → y.name ≡ x.name
          → position_or_len (λ (w : Variable). same_variable v w.name) (map guide_variable o ++ rest) ≡ position_or_len (λ (w : Variable). same_variable v w.name) (map guide_variable p ++ rest)
          → position_or_len (λ (w : Variable). same_variable v w.name) (map guide_variable (cond b (y ∷ o) o) ++ rest) ≡ position_or_len (λ (w : Variable). same_variable v w.name) (map guide_variable (cond b (x ∷ p) p) ++ rest)
      by true o p y name ih = λ i. cond (not (same_variable v (OfItem (name i)))) (1 + ih i) 0
      by false o p y name ih = ih

  -- a guideline of the same axis in the place of the one of its name
  pub with_guide_same : separations (with_replaced d (thing.Guide g)) axis ≡ separations d axis
  with_guide_same =
      let x = thing_found_is d g.name (thing.Guide old) found in
      let at = found_as thing.Guide (λ a b e. cc) (slice_get d.guides x.at) old x.there in
      let all = subst (λ n. AllByRecursion (λ (y : Guide). same_name n y.name ≡ true → g.axis ≡ y.axis) d.guides) x.named
      (alike (λ (y : Guide). y.name) (λ (y : Guide). g.axis ≡ y.axis) d.guides x.at old (sort_distinct d sort.Guide sound.distinct) at (sym same)) in
      same_list d (with_replaced d (thing.Guide g)) axis (number all) (λ n. refl) (has_guide_on-set d g old sound found same axis) refl refl refl refl
    where
      number : AllByRecursion (λ (y : Guide). same_name g.name y.name ≡ true → g.axis ≡ y.axis) d.guides → (v : VariableName) → number_or_count (with_replaced d (thing.Guide g)) axis v ≡ number_or_count d axis v
      number all v =
          let shapes = map (shape_variable axis) d.shapes in
          let groups = flat_map (group_variables axis) d.groups in
          let pages = flat_map (page_variables axis) d.pages in
          ap (position_or_len (λ (w : Variable). same_variable v w.name)) (parted shapes (map guide_variable (guides_on axis (replaced (λ (y : Guide). y.name) g d.guides))) groups pages)
          ∙ (behind_same (λ (w : Variable). same_variable v w.name) shapes _ _ (first_guide v d.guides (groups ++ pages) all)
          ∙ ap (position_or_len (λ (w : Variable). same_variable v w.name)) (sym (parted shapes (map guide_variable (guides_on axis d.guides)) groups pages)))
