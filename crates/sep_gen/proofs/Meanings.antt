-- The compilation law: a placement fits exactly where it satisfies each separation.
use Rattle.std.proofs.Common.{◌≡◌, ℕ, zero, suc, ℤ, pos, ◌+ℤ◌, ◌-ℤ◌, ◌*ℤ◌, ◌≤ℤ◌, List, [], ◌∷◌, ◌++◌, Bool, true, false, map, arith}
use Rattle.std.specs.Prelude.{◌↔◌, if◌then◌else◌, MatchBool}
use Rattle.std.specs.List.{AllByRecursion, flat_map}
use Rattle.std.specs.Bool.{OnTrue}
use Rattle.std.proofs.lemmas.Int.{ints}
use Rattle.std.proofs.lemmas.List.Elements.{All-from_recursion, recursion_from_All}
use Rattle.std.proofs.Math.IntN.{*ℤ-zero, *ℤ_comm, suc_ℤ-*ℤ}
use Rattle.units.specs.declared.geometry.Axis.{Axis}
use Rattle.units.specs.Separation.{IsApart, Satisfies, SatisfiesAll}
use Rattle.scene_model.specs.declared.items.Rule.{Rule}
use Rattle.scene_model.specs.declared.items.Rule.TheVariants as rule
use Rattle.scene_model.specs.declared.items.Shape.{Shape}
use Rattle.scene_model.specs.declared.items.Compound.{Compound}
use Rattle.scene_model.specs.declared.items.Group.{Group}
use Rattle.scene_model.specs.declared.items.Page.{Page}
use Rattle.scene_model.specs.declared.variables.VariableName.{VariableName}
use Rattle.scene_model.specs.declared.variables.VariableName.TheVariants.{OfItem}
use Rattle.scene_model.specs.Names.{NameOf, same_axis, AllNeighbours, map_neighbours}
use Rattle.scene_model.specs.Diagram.{Diagram}
use Rattle.scene_model.specs.Uses.{has_guide_on}
use Rattle.scene_model.specs.Variables.{page_size}
use Rattle.scene_model.specs.Meaning.{size_of, line_offset, scaled, place, IsExactlyBehind, IsAtLeastBehind, IsWithin, IsOrdered, MeetsRule, MeetsCompound, MeetsGroup, IsOnPage, MeetsPage}
use Rattle.scene_model.specs.Separations.{between, on_guide, behind, rule_separations, compound_separations, within, edges_apart, group_separations, on_page, declared_size, page_separations, separations}
use Rattle.scene_model.specs.Compilation.{FitsWhereSatisfied}

-- ---- lists of facts

all_append : {A : Type 0} (P : A → Type 0) (xs ys : List A) → (AllByRecursion P xs × AllByRecursion P ys) ↔ AllByRecursion P (xs ++ ys)
all_append P [] ys = (λ h. h.1, λ h. (tt, h))
all_append P (x ∷ xs) ys =
    let ih = all_append P xs ys in (λ h. (h.0.0, ih.0 (h.0.1, h.1)), λ h. let back = ih.1 h.1 in ((h.0, back.0), back.1))

all_map : {A B : Type 0} (P : A → Type 0) (Q : B → Type 0) (f : A → B) → ((a : A) → P a ↔ Q (f a)) → (xs : List A) → AllByRecursion P xs ↔ AllByRecursion Q (map f xs)
all_map P Q f e [] = (λ h. h, λ h. h)
all_map P Q f e (x ∷ xs) = let ih = all_map P Q f e xs in (λ h. ((e x).0 h.0, ih.0 h.1), λ h. ((e x).1 h.0, ih.1 h.1))

all_flat_map : {A B : Type 0} (P : A → Type 0) (Q : B → Type 0) (f : A → List B) → ((a : A) → P a ↔ AllByRecursion Q (f a)) → (xs : List A) → AllByRecursion P xs ↔ AllByRecursion Q (flat_map f xs)
all_flat_map P Q f e [] = (λ h. h, λ h. h)
all_flat_map P Q f e (x ∷ xs) =
    let ih = all_flat_map P Q f e xs in
    let seam = all_append Q (f x) (flat_map f xs) in
    (λ h. seam.0 ((e x).0 h.0, ih.0 h.1), λ h. let back = seam.1 h in ((e x).1 back.0, ih.1 back.1))

all_neighbours : {A B : Type 0} (R : A → A → Type 0) (Q : B → Type 0) (f : A → A → B) → ((a b : A) → R a b ↔ Q (f a b)) → (xs : List A) → AllNeighbours R xs ↔ AllByRecursion Q (map_neighbours f xs)
all_neighbours R Q f e [] = (λ h. h, λ h. h)
all_neighbours R Q f e (x ∷ []) = (λ h. h, λ h. h)
all_neighbours R Q f e (x ∷ y ∷ ys) = let ih = all_neighbours R Q f e (y ∷ ys) in (λ h. ((e x y).0 h.0, ih.0 h.1), λ h. ((e x y).1 h.0, ih.1 h.1))

on_true : {A : Type 0} (Q : A → Type 0) (P : Type 0) (xs : List A) (b : Bool) → (P ↔ AllByRecursion Q xs) → OnTrue b P ↔ AllByRecursion Q (if b then xs else [])
on_true Q P xs true e = e
on_true Q P xs false e = (λ h. h, λ h. h)

-- ---- products with a number

zero_times : (k : ℤ) → pos 0 *ℤ k ≡ pos 0
zero_times k = omega (arith, ints, *ℤ_comm (pos 0) k, *ℤ-zero k)

distrib : (q : ℕ) (a b : ℤ) → pos q *ℤ (a +ℤ b) ≡ (pos q *ℤ a) +ℤ (pos q *ℤ b)
distrib zero a b = omega (arith, ints, zero_times (a +ℤ b), zero_times a, zero_times b)
distrib (suc q) a b = omega (arith, ints, suc_ℤ-*ℤ (pos q) (a +ℤ b), suc_ℤ-*ℤ (pos q) a, suc_ℤ-*ℤ (pos q) b, distrib q a b)

-- ---- each sort of constraint

module _ (d : Diagram) (axis : Axis) (places : List ℤ) (q : ℕ) where
  -- a separation between two variables says how far they stand apart
  apart : (l r : VariableName) (gap : ℤ) (exact : Bool) → IsApart (place d axis places q l) (place d axis places q r) (scaled q gap) exact ↔ Satisfies places q (between d axis l r gap exact)
  apart l r gap exact = (λ h. h, λ h. h)

  aligned : (m g : VariableName) (o : ℤ) → ((place d axis places q m +ℤ scaled q o) ≡ place d axis places q g) ↔ Satisfies places q (between d axis m g o true)
  aligned m g o = (moved _ _ _, back _ _ _)
    where
      moved : (x o y : ℤ) → (x +ℤ o) ≡ y → (y -ℤ x) ≡ o
      moved x o y h = omega (arith, ints, h)

      back : (x o y : ℤ) → (y -ℤ x) ≡ o → (x +ℤ o) ≡ y
      back x o y h = omega (arith, ints, h)

  either : (a b : NameOf) (gap : ℤ) (exact : Bool) → MatchBool exact (IsExactlyBehind d axis places q gap a b) (IsAtLeastBehind d axis places q gap a b) ↔ AllByRecursion (Satisfies places q) (behind d axis gap exact a b ∷ [])
  either a b gap exact = (λ h. (h, tt), λ h. h.0)

  pub rule_law : (r : Rule) → MeetsRule d axis places q r ↔ AllByRecursion (Satisfies places q) (rule_separations d axis r)
  rule_law (rule.Align guide line members) =
      on_true (Satisfies places q) _ _ (has_guide_on axis d.guides guide) (all_map _ (Satisfies places q) (on_guide d axis guide line) (λ m. aligned (OfItem m) (OfItem guide) (line_offset line (size_of d axis m))) members)
  rule_law (rule.Spread own gap members) =
      on_true (Satisfies places q) _ _ (same_axis own axis) (all_neighbours (IsExactlyBehind d axis places q gap) (Satisfies places q) (behind d axis gap true) (λ m n. apart (OfItem m) (OfItem n) gap true) members)
  rule_law (rule.Rank own gap members) =
      on_true (Satisfies places q) _ _ (same_axis own axis) (all_neighbours (IsAtLeastBehind d axis places q gap) (Satisfies places q) (behind d axis gap false) (λ m n. apart (OfItem m) (OfItem n) gap false) members)
  rule_law (rule.Apart own a b gap exact) = on_true (Satisfies places q) _ _ (same_axis own axis) (either a b gap exact)

  within_law : (area : NameOf) (inset : ℤ) (n : NameOf) → IsWithin d axis places q area inset n ↔ AllByRecursion (Satisfies places q) (within d axis area inset n)
  within_law area inset n = (
    λ h. (under _ _ _ h.0, (over _ _ _ _ _ (distrib q (size_of d axis n) inset) h.1, tt)),
    λ h. (under' _ _ _ h.0, over' _ _ _ _ _ (distrib q (size_of d axis n) inset) h.1.0),
  )
    where
      under : (l i x : ℤ) → (l +ℤ i) ≤ℤ x → i ≤ℤ (x -ℤ l)
      under l i x h = omega (arith, ints, h)

      under' : (l i x : ℤ) → i ≤ℤ (x -ℤ l) → (l +ℤ i) ≤ℤ x
      under' l i x h = omega (arith, ints, h)

      over : (x s i t h : ℤ) → t ≡ (s +ℤ i) → ((x +ℤ s) +ℤ i) ≤ℤ h → t ≤ℤ (h -ℤ x)
      over x s i t h e p = omega (arith, ints, e, p)

      over' : (x s i t h : ℤ) → t ≡ (s +ℤ i) → t ≤ℤ (h -ℤ x) → ((x +ℤ s) +ℤ i) ≤ℤ h
      over' x s i t h e p = omega (arith, ints, e, p)

  edges_law : (area : NameOf) → IsOrdered d axis places q area ↔ Satisfies places q (edges_apart d axis area (pos 0) false)
  edges_law area = (opened _ _ _ (*ℤ-zero (pos q)), closed _ _ _ (*ℤ-zero (pos q)))
    where
      opened : (l h z : ℤ) → z ≡ pos 0 → l ≤ℤ h → z ≤ℤ (h -ℤ l)
      opened l h z e p = omega (arith, ints, e, p)

      closed : (l h z : ℤ) → z ≡ pos 0 → z ≤ℤ (h -ℤ l) → l ≤ℤ h
      closed l h z e p = omega (arith, ints, e, p)

  pub group_law : (g : Group) → MeetsGroup d axis places q g ↔ AllByRecursion (Satisfies places q) (group_separations d axis g)
  group_law g =
      let members = all_flat_map (IsWithin d axis places q g.name g.pad) (Satisfies places q) (within d axis g.name g.pad) (within_law g.name g.pad) g.members in
      let edges = edges_law g.name in
      let seam = all_append (Satisfies places q) (flat_map (within d axis g.name g.pad) g.members) (edges_apart d axis g.name (pos 0) false ∷ []) in
      (λ h. seam.0 (members.0 h.0, (edges.0 h.1, tt)), λ h. let back = seam.1 h in (members.1 back.0, edges.1 back.1.0))

  pub page_law : (p : Page) → MeetsPage d axis places q p ↔ AllByRecursion (Satisfies places q) (page_separations d axis p)
  page_law p =
      let shapes = all_flat_map (IsOnPage d axis places q p) (Satisfies places q) (on_page d axis p) (λ (s : Shape). within_law p.name p.margin s.name) d.shapes in
      let edges = edges_law p.name in
      let rigid = on_true (Satisfies places q) _ (edges_apart d axis p.name (page_size axis p) true ∷ []) p.rigid (λ h. (h, tt), λ h. h.0) in
      let seam = all_append (Satisfies places q) (flat_map (on_page d axis p) d.shapes) (edges_apart d axis p.name (pos 0) false ∷ declared_size d axis p) in
      (λ h. seam.0 (shapes.0 h.0, (edges.0 h.1, rigid.0 h.2)), λ h. let back = seam.1 h in (shapes.1 back.0, edges.1 back.1.0, rigid.1 back.1.1))

-- ---- the whole list

-- the placement meets each compound, each group and the page
abbrev pub MeetsAll : Diagram → Axis → List ℤ → ℕ → Type 0
MeetsAll d axis places q =
    AllByRecursion (MeetsCompound d axis places q) d.compounds × AllByRecursion (MeetsGroup d axis places q) d.groups × AllByRecursion (MeetsPage d axis places q) d.pages

-- it does exactly where it satisfies each separation, however long it is
pub meets_where_satisfied : (d : Diagram) (axis : Axis) (places : List ℤ) (q : ℕ) → MeetsAll d axis places q ↔ SatisfiesAll places q (separations d axis)
meets_where_satisfied d axis places q =
    let compounds = all_flat_map (MeetsCompound d axis places q) (Satisfies places q) (compound_separations d axis) (λ (c : Compound). rule_law d axis places q c.rule) d.compounds in
    let groups = all_flat_map (MeetsGroup d axis places q) (Satisfies places q) (group_separations d axis) (group_law d axis places q) d.groups in
    let pages = all_flat_map (MeetsPage d axis places q) (Satisfies places q) (page_separations d axis) (page_law d axis places q) d.pages in
    let behind = all_append (Satisfies places q) (flat_map (group_separations d axis) d.groups) (flat_map (page_separations d axis) d.pages) in
    let whole = all_append (Satisfies places q) (flat_map (compound_separations d axis) d.compounds) (flat_map (group_separations d axis) d.groups ++ flat_map (page_separations d axis) d.pages) in (
      λ f. All-from_recursion (Satisfies places q) (separations d axis) (whole.0 (compounds.0 f.0, behind.0 (groups.0 f.1, pages.0 f.2))),
      λ s.
          let front = whole.1 (recursion_from_All (Satisfies places q) (separations d axis) s) in
          let back = behind.1 front.1 in
          (compounds.1 front.0, groups.1 back.0, pages.1 back.1),
    )

pub fits_where_satisfied : (d : Diagram) (axis : Axis) (places : List ℤ) (q : ℕ) → FitsWhereSatisfied d axis places q
fits_where_satisfied d axis places q above as_long =
    let all = meets_where_satisfied d axis places q in
    (λ f. all.0 (f.compounds, f.groups, f.pages), λ s. let met = all.1 s in record { above = above; as_long = as_long; compounds = met.0; groups = met.1; pages = met.2 })
