-- Components are problems within the bounds, and some placement satisfies them.
use Rattle.std.proofs.Common.{◌≡◌, ◌∙◌, ap, sym, refl, subst, ℕ, zero, suc, ◌<◌, ◌≤◌, ℤ, pos, ◌*ℤ◌, List, [], ◌∷◌, length, get_or, map, nat_abs, All, Result, Ok, Err, IfOk, arith}
use Rattle.std.specs.List.{AllByRecursion}
use Rattle.std.proofs.lemmas.List.{length-map, get_or_default}
use Rattle.std.proofs.lemmas.List.Elements.{All-from_recursion, recursion_from_All, All-map}
use Rattle.units.specs.declared.geometry.Sep.{Sep}
use Rattle.units.specs.Problem.{Problem, IsBounded, IsSeparation}
use Rattle.units.specs.Separation.{place_of, separation_at, no_separation, IsApart, Satisfies, SatisfiesAll}
use Rattle.vpsc_solve.specs.Stops.{IsFeasible}
use Rattle.axis_project.specs.Parts.{ArePartsOf}
use Rattle.axis_project.specs.Components.{those, rank, separation_keys, renumbered, component, AreKeys}
use Rattle.axis_project.specs.Apart.{KeepTogether, AreRanks, renumbered_by, IsTakenApart}
use Rattle.axis_project.specs.declared.apart.Apart.{Apart}
use Rattle.axis_project.specs.declared.keys.Keys.{Keys}
use Rattle.axis_project.proofs.Chains.{itself, linked, ends, over, back}
use Rattle.axis_project.proofs.Those.{same_rank, length-those, those-fewer, those-all, those-mapped}
use Rattle.axis_project.proofs.Together.{IsKept, kept, at_variable}

-- ---- parts make keys

-- a part is a variable, and isn't greater than its own
pub part_low : (n : ℕ) (seps : List Sep) (parts : List ℕ) → ArePartsOf n seps parts → (v : ℕ) → v < n → get_or parts v 0 ≤ v
part_low n seps parts are v within = are.least v v within within (itself seps v)

-- both ends of a separation have one part
pub parts_together : (n : ℕ) (seps : List Sep) (parts : List ℕ) → ArePartsOf n seps parts → All (λ separation. IsSeparation n separation) seps
    → (k : ℕ) (d : Sep) → k < length seps → get_or parts (get_or seps k d).left 0 ≡ get_or parts (get_or seps k d).right 0
parts_together n seps parts are sound k d within =
    subst (λ (s : Sep). get_or parts s.left 0 ≡ get_or parts s.right 0) (get_or_default seps k no_separation d within) (
    let is = sound k no_separation within in
    let chain = linked seps (ends seps k within) in
    let left_low = part_low n seps parts are (separation_at seps k).left is.left in
    let right_low = part_low n seps parts are (separation_at seps k).right is.right in
    let up = are.least (separation_at seps k).left (get_or parts (separation_at seps k).right 0) is.left (omega (arith, is.right)) (over seps chain (are.joined (separation_at seps k).right is.right)) in
    let down = are.least (separation_at seps k).right (get_or parts (separation_at seps k).left 0) is.right (omega (arith, is.left)) (over seps (back seps chain) (are.joined (separation_at seps k).left is.left)) in
    omega arith)

-- so keys by part are keys of the problem
pub keys_of_parts : (problem : Problem) (parts keys : List ℕ) → IsBounded problem → ArePartsOf (length problem.desired) problem.separations parts → length keys ≡ length parts
    → KeepTogether parts keys → AreKeys problem keys
keys_of_parts problem parts keys bounded are long same = record {
  as_long = long ∙ are.as_long;
  together = λ k d within.
      let is = bounded.sound k d within in
      same (get_or problem.separations k d).left (get_or problem.separations k d).right (omega (arith, is.left, are.as_long)) (omega (arith, is.right, are.as_long)) (parts_together (length problem.desired) problem.separations parts are bounded.sound k d within);
}

-- so for whatever call makes them
pub all_keyed : (problem : Problem) (parts : List ℕ) {E : Type 0} (result : Result Keys E) → IsBounded problem → ArePartsOf (length problem.desired) problem.separations parts
    → IfOk result (λ keys. length keys.of_variables.items ≡ length parts)
    → IfOk result (λ keys. KeepTogether parts keys.of_variables.items)
    → IfOk result (λ keys. AreKeys problem keys.of_variables.items)
all_keyed problem parts (Ok keys) bounded are long same = keys_of_parts problem parts keys.of_variables.items bounded are long same
all_keyed problem parts (Err e) bounded are long same = tt

-- the keys of separations are keys of variables
pub separation_keys_below : (count : ℕ) (keys : List ℕ) (seps : List Sep) → All (λ key. key < count) keys → All (λ separation. IsSeparation (length keys) separation) seps
    → All (λ key. key < count) (separation_keys keys seps)
separation_keys_below count keys seps below sound = All-map (λ key. key < count) (λ (s : Sep). get_or keys s.left 0) seps (λ k d within. below (get_or seps k d).left 0 (sound k d within).left)

-- ---- the separations of components

-- renumbered by a list of ranks, and by their definition
pub renumbered_same : (keys ranks : List ℕ) (seps : List Sep) → AreRanks keys ranks → AllByRecursion (λ separation. IsSeparation (length keys) separation) seps
    → map (renumbered_by ranks) seps ≡ map (renumbered keys) seps
renumbered_same keys ranks [] are sound = refl
renumbered_same keys ranks (s ∷ ss) are sound =
    ap (λ l. record { left = l; right = get_or ranks s.right 0; gap = s.gap; exact = s.exact } ∷ map (renumbered_by ranks) ss) (are.each s.left sound.0.left)
    ∙ ap (λ r. record { left = rank keys s.left; right = r; gap = s.gap; exact = s.exact } ∷ map (renumbered_by ranks) ss) (are.each s.right sound.0.right)
    ∙ ap (λ rest. renumbered keys s ∷ rest) (renumbered_same keys ranks ss are sound.1)

-- what is cut out of a problem that was taken apart is a component
pub component_is : (problem : Problem) (apart : Apart) (key : ℕ) {w : List ℕ} {d : List ℤ} {s : List Sep} → IsBounded problem → IsTakenApart problem apart
    → w ≡ those key apart.keys.items problem.weights → d ≡ those key apart.keys.items problem.desired → s ≡ those key apart.separation_keys.items apart.renumbered.items
    → record { weights = w; desired = d; separations = s } ≡ component problem apart.keys.items key
component_is problem apart key {w} {d} {s} bounded is weights desired separations =
    ap (λ (ws : List ℕ). record { weights = ws; desired = d; separations = s }) weights
    ∙ ap (λ (ds : List ℤ). record { weights = those key apart.keys.items problem.weights; desired = ds; separations = s }) desired
    ∙ ap (λ (ss : List Sep). record { weights = those key apart.keys.items problem.weights; desired = those key apart.keys.items problem.desired; separations = ss }) (separations
    ∙ ap (λ (ks : List ℕ). those key ks apart.renumbered.items) is.separation_keys
    ∙ ap (those key (separation_keys apart.keys.items problem.separations)) (is.renumbered ∙ renumbered_same apart.keys.items apart.ranks.items problem.separations is.ranks
    (recursion_from_All _ _ (subst (λ n. All (λ separation. IsSeparation n separation) problem.separations) (sym is.keys.as_long) bounded.sound))))

-- ---- a component is bounded

module _ (problem : Problem) (keys : List ℕ) (bounded : IsBounded problem) (are_keys : AreKeys problem keys) (key : ℕ) where
  -- a separation of the key, renumbered, is one of the component
  separation_kept : (s : Sep) → IsSeparation (length problem.desired) s → IsKept (length problem.desired) keys s → get_or keys s.left 0 ≡ key
      → IsSeparation (length (those key keys problem.desired)) (renumbered keys s)
  separation_kept s is kept_s key_is = record {
    left = subst (λ k. rank keys s.left < length (those k keys problem.desired)) key_is (at_variable problem keys bounded are_keys problem.desired s.left (pos 0) is.left refl).0;
    right = subst (λ k. rank keys s.right < length (those k keys problem.desired)) (sym kept_s.together ∙ key_is) (at_variable problem keys bounded are_keys problem.desired s.right (pos 0) is.right refl).0;
    apart = λ same. is.apart (same_rank keys s.left s.right (omega (arith, is.left, are_keys.as_long)) (omega (arith, is.right, are_keys.as_long)) kept_s.together same);
    gap = is.gap;
  }

  pub component_bounded : IsBounded (component problem keys key)
  component_bounded = record {
    as_long = length-those key keys problem.weights problem.desired bounded.as_long;
    variables = let fewer = those-fewer key keys problem.desired in omega (arith, bounded.variables);
    weighted = All-from_recursion _ _ (those-all (λ w. (1 ≤ w) × (w ≤ 1000)) key keys problem.weights (recursion_from_All _ _ bounded.weighted));
    near = All-from_recursion _ _ (those-all (λ d. nat_abs d ≤ 2000000) key keys problem.desired (recursion_from_All _ _ bounded.near));
    count = let fewer = those-fewer key (separation_keys keys problem.separations) (map (renumbered keys) problem.separations) in omega (arith, bounded.count, length-map problem.separations (renumbered keys));
    sound = All-from_recursion (λ s. IsSeparation (length (those key keys problem.desired)) s) (component problem keys key).separations
        (those-mapped (λ s. IsSeparation (length (those key keys problem.desired)) s) (λ (s : Sep). get_or keys s.left 0) (renumbered keys) key problem.separations
        (recursion_from_All (λ s. get_or keys s.left 0 ≡ key → IsSeparation (length (those key keys problem.desired)) (renumbered keys s)) problem.separations
        (λ k d within. separation_kept (get_or problem.separations k d) (bounded.sound k d within) (kept problem keys bounded are_keys k d within))));
  }

-- ---- some placement satisfies a component

-- n places, 0 where the list has none
abbrev pub padded : ℕ → List ℤ → List ℤ
padded zero ys = []
padded (suc n) [] = pos 0 ∷ padded n []
padded (suc n) (y ∷ ys) = y ∷ padded n ys

length-padded : (n : ℕ) (ys : List ℤ) → length (padded n ys) ≡ n
length-padded zero ys = refl
length-padded (suc n) [] = ap suc (length-padded n [])
length-padded (suc n) (y ∷ ys) = ap suc (length-padded n ys)

padded-at : (n : ℕ) (ys : List ℤ) (v : ℕ) → v < n → place_of (padded n ys) v ≡ place_of ys v
padded-at zero ys v within = absurd (omega arith)
padded-at (suc n) [] zero within = refl
padded-at (suc n) [] (suc v) within = padded-at n [] v (omega arith)
padded-at (suc n) (y ∷ ys) zero within = refl
padded-at (suc n) (y ∷ ys) (suc v) within = padded-at n ys v (omega arith)

module _ (problem : Problem) (keys : List ℕ) (bounded : IsBounded problem) (are_keys : AreKeys problem keys) (key : ℕ) (ys : List ℤ) (q : ℕ) where
  own_place : (v : ℕ) → v < length problem.desired → get_or keys v 0 ≡ key → place_of (those key keys (padded (length problem.desired) ys)) (rank keys v) ≡ place_of ys v
  own_place v within key_is =
      subst (λ k. place_of (those k keys (padded (length problem.desired) ys)) (rank keys v) ≡ place_of (padded (length problem.desired) ys) v) key_is
      (at_variable problem keys bounded are_keys (padded (length problem.desired) ys) v (pos 0) within (length-padded (length problem.desired) ys)).1
      ∙ padded-at (length problem.desired) ys v within

  satisfied_kept : (s : Sep) → IsKept (length problem.desired) keys s → Satisfies ys q s → get_or keys s.left 0 ≡ key
      → Satisfies (those key keys (padded (length problem.desired) ys)) q (renumbered keys s)
  satisfied_kept s kept_s holds key_is =
      subst (λ l. IsApart l (place_of (those key keys (padded (length problem.desired) ys)) (rank keys s.right)) (pos q *ℤ s.gap) s.exact) (sym (own_place s.left kept_s.left key_is))
      (subst (λ r. IsApart (place_of ys s.left) r (pos q *ℤ s.gap) s.exact) (sym (own_place s.right kept_s.right (sym kept_s.together ∙ key_is))) holds)

  pub component_satisfied : SatisfiesAll ys q problem.separations → SatisfiesAll (those key keys (padded (length problem.desired) ys)) q (component problem keys key).separations
  component_satisfied all =
      All-from_recursion (Satisfies (those key keys (padded (length problem.desired) ys)) q) (component problem keys key).separations
      (those-mapped (Satisfies (those key keys (padded (length problem.desired) ys)) q) (λ (s : Sep). get_or keys s.left 0) (renumbered keys) key problem.separations
      (recursion_from_All (λ s. get_or keys s.left 0 ≡ key → Satisfies (those key keys (padded (length problem.desired) ys)) q (renumbered keys s)) problem.separations
      (λ k d within. satisfied_kept (get_or problem.separations k d) (kept problem keys bounded are_keys k d within) (all k d within))))

pub component_feasible : (problem : Problem) (keys : List ℕ) → IsBounded problem → AreKeys problem keys → (key : ℕ) → IsFeasible problem → IsFeasible (component problem keys key)
component_feasible problem keys bounded are_keys key feasible = record {
  places = those key keys (padded (length problem.desired) feasible.places);
  denominator = feasible.denominator;
  above = feasible.above;
  satisfied = component_satisfied problem keys bounded are_keys key feasible.places feasible.denominator feasible.satisfied;
}
