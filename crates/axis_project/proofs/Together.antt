-- Certificates of components, put together, are a certificate of the whole.
use Rattle.std.proofs.Common.{◌≡◌, ◌∙◌, ap, sym, refl, subst, ℕ, ◌*◌, ◌<◌, ℤ, pos, ◌≤ℤ◌, List, [], ◌∷◌, length, get_or, map, Bool, true, false, ◌==◌, if◌then◌else◌, MatchBool, All, ◌⊎◌, arith}
use Rattle.std.specs.List.{AllByRecursion}
use Rattle.std.specs.Int.{◌∣◌}
use Rattle.std.proofs.lemmas.Bool.{eqb-true, eqb-false, ne_eqb}
use Rattle.std.proofs.lemmas.List.{get_or-map, length-map}
use Rattle.std.proofs.lemmas.List.Elements.{recursion_from_All, All-from_get_or}
use Rattle.units.specs.declared.geometry.Sep.{Sep}
use Rattle.units.specs.Problem.{Problem, IsBounded}
use Rattle.units.specs.Separation.{separation_at, no_separation}
use Rattle.frac128.specs.Fraction.{Fraction, whole, minus, minus_whole, multiple, fraction_sum, ◌≈◌, IsLowest}
use Rattle.multiplier_check.specs.declared.certificate.Certificate.{Certificate}
use Rattle.multiplier_check.specs.Certificate.{fraction_at, multipliers_at, arriving, leaving, IsBalanced, IsNear, HasForm, IsCertificate}
use Rattle.multiplier_check.specs.Check.{slack_between, slack, IsMet, IsRight, MeetsRules}
use Rattle.multiplier_check.proofs.Law.{rules_certificate}
use Rattle.multiplier_check.proofs.Zips.{zip_from_index, zip_at}
use Rattle.axis_project.specs.Components.{those, before, rank, separation_keys, renumbered, component, share, AreKeys, AreShown}
use Rattle.axis_project.proofs.Those.{those-at, same_rank, same_tests}

-- ---- the multipliers at a variable

no_multipliers : (end : Sep → ℕ) (ss : List Sep) (i : ℕ) → multipliers_at end ss [] i ≡ []
no_multipliers end [] i = refl
no_multipliers end (s ∷ ss) i = refl

-- g is the key of a separation, f renumbers it; i is a variable of the key, and j its number there
record IsEnd (g : Sep → ℕ) (f : Sep → Sep) (end : Sep → ℕ) (key i j : ℕ) (s : Sep) : Type 0 where
  pub same : g s ≡ key → (end (f s) == j) ≡ (end s == i)
  pub other : (g s ≡ key → ⊥) → (end s == i) ≡ false

those_multipliers : (g : Sep → ℕ) (f : Sep → Sep) (end : Sep → ℕ) (key i j : ℕ) (ss : List Sep) (ms : List Fraction) → AllByRecursion (IsEnd g f end key i j) ss
    → multipliers_at end (those key (map g ss) (map f ss)) (those key (map g ss) ms) j ≡ multipliers_at end ss ms i
those_multipliers g f end key i j [] ms all = refl
those_multipliers g f end key i j (s ∷ ss) [] all = no_multipliers end (those key (map g (s ∷ ss)) (map f (s ∷ ss))) j
those_multipliers g f end key i j (s ∷ ss) (m ∷ ms) all = by (g s == key) refl (those_multipliers g f end key i j ss ms all.1)
  where
    by : (b : Bool) → (g s == key) ≡ b → multipliers_at end (those key (map g ss) (map f ss)) (those key (map g ss) ms) j ≡ multipliers_at end ss ms i
        → multipliers_at end (if b then f s ∷ those key (map g ss) (map f ss) else those key (map g ss) (map f ss)) (if b then m ∷ those key (map g ss) ms else those key (map g ss) ms) j
        ≡ (if end s == i then m ∷ multipliers_at end ss ms i else multipliers_at end ss ms i)
    by true is rest =
        ap (λ b. if b then m ∷ multipliers_at end (those key (map g ss) (map f ss)) (those key (map g ss) ms) j else multipliers_at end (those key (map g ss) (map f ss)) (those key (map g ss) ms) j) (all.0.same (eqb-true (g s) key is))
        ∙ ap (λ (ns : List Fraction). if end s == i then m ∷ ns else ns) rest
    by false is rest = rest ∙ sym (ap (λ b. if b then m ∷ multipliers_at end ss ms i else multipliers_at end ss ms i) (all.0.other (eqb-false (g s) key is)))

-- the balance of a variable at equal numbers
balance_along : {w v : ℕ} {f g : Fraction} {d e : ℤ} {a b l m : Fraction} → w ≡ v → f ≡ g → d ≡ e → a ≡ b → l ≡ m
    → multiple (2 * w) (minus_whole f d) ≈ minus a l → multiple (2 * v) (minus_whole g e) ≈ minus b m
balance_along {w} {v} {f} {g} {d} {e} {a} {b} {l} {m} weight place desired arrive leave h =
    subst (λ (x : Fraction). multiple (2 * v) (minus_whole g e) ≈ minus b x) leave
    (subst (λ (x : Fraction). multiple (2 * v) (minus_whole g e) ≈ minus x l) arrive
    (subst (λ (x : ℤ). multiple (2 * v) (minus_whole g x) ≈ minus a l) desired
    (subst (λ (x : Fraction). multiple (2 * v) (minus_whole x d) ≈ minus a l) place
    (subst (λ (x : ℕ). multiple (2 * x) (minus_whole f d) ≈ minus a l) weight h))))

-- ---- one separation, met or right at the places of its ends

module _ (ps qs : List Fraction) (s : Sep) (l r : ℕ) (left : fraction_at ps l ≡ fraction_at qs s.left) (right : fraction_at ps r ≡ fraction_at qs s.right) where
  -- s between l and r
  abbrev moved : Sep
  moved = record { left = l; right = r; gap = s.gap; exact = s.exact }

  same_slack : slack ps moved ≡ slack qs s
  same_slack = ap (λ f. slack_between f (fraction_at ps r) s.gap) left ∙ ap (λ f. slack_between (fraction_at qs s.left) f s.gap) right

  pub met_at : IsMet ps moved → IsMet qs s
  met_at = subst (λ (f : Fraction). MatchBool s.exact (f.num ≡ pos 0) (pos 0 ≤ℤ f.num)) same_slack

  pub right_at : (m : Fraction) → IsRight ps moved m → IsRight qs s m
  right_at m is = record {
    signed = is.signed;
    complementary = subst (λ (f : Fraction). (m.num ≡ pos 0) ⊎ (f.num ≡ pos 0)) same_slack is.complementary;
    divides = subst (λ (f : Fraction). (m.num ≡ pos 0) ⊎ ((m.den ∣ (fraction_at qs s.left).den) × (m.den ∣ f.den))) right
        (subst (λ (f : Fraction). (m.num ≡ pos 0) ⊎ ((m.den ∣ f.den) × (m.den ∣ (fraction_at ps r).den))) left is.divides);
  }

-- ---- the keys of a problem

-- both ends are variables, and have one key
pub record IsKept (n : ℕ) (keys : List ℕ) (s : Sep) : Type 0 where
  pub left : s.left < n
  pub right : s.right < n
  pub together : get_or keys s.left 0 ≡ get_or keys s.right 0

module _ (problem : Problem) (keys : List ℕ) (bounded : IsBounded problem) (are_keys : AreKeys problem keys) where
  pub kept : All (IsKept (length problem.desired) keys) problem.separations
  kept k d within = let is = bounded.sound k d within in record { left = is.left; right = is.right; together = are_keys.together k d within }

  pub keyed : (k : ℕ) → k < length problem.separations → get_or (separation_keys keys problem.separations) k 0 ≡ get_or keys (separation_at problem.separations k).left 0
  keyed k within = get_or-map (λ (s : Sep). get_or keys s.left 0) problem.separations k no_separation 0 within

  -- what stands at a separation's number, among those of its key
  pub at_separation : {A : Type 0} (xs : List A) (k : ℕ) (d : A) → k < length problem.separations → length xs ≡ length problem.separations
      → (before (get_or keys (separation_at problem.separations k).left 0) (separation_keys keys problem.separations) k < length (those (get_or keys (separation_at problem.separations k).left 0) (separation_keys keys problem.separations) xs))
      × (get_or (those (get_or keys (separation_at problem.separations k).left 0) (separation_keys keys problem.separations) xs) (before (get_or keys (separation_at problem.separations k).left 0) (separation_keys keys problem.separations) k) d ≡ get_or xs k d)
  at_separation xs k d within long =
      those-at (get_or keys (separation_at problem.separations k).left 0) (separation_keys keys problem.separations) xs k d
      (omega (arith, length-map problem.separations (λ (s : Sep). get_or keys s.left 0))) (omega arith) (keyed k within)

  pub at_variable : {A : Type 0} (xs : List A) (v : ℕ) (d : A) → v < length problem.desired → length xs ≡ length problem.desired
      → (rank keys v < length (those (get_or keys v 0) keys xs)) × (get_or (those (get_or keys v 0) keys xs) (rank keys v) d ≡ get_or xs v d)
  at_variable xs v d within long = those-at (get_or keys v 0) keys xs v d (omega (arith, are_keys.as_long)) (omega arith) refl

  -- a variable of the same key
  pub at_end : {A : Type 0} (xs : List A) (v w : ℕ) (d : A) → v < length problem.desired → length xs ≡ length problem.desired → get_or keys v 0 ≡ get_or keys w 0
      → get_or (those (get_or keys w 0) keys xs) (rank keys v) d ≡ get_or xs v d
  at_end xs v w d within long is = subst (λ key. get_or (those key keys xs) (rank keys v) d ≡ get_or xs v d) is (at_variable xs v d within long).1

  one_variable : (v w : ℕ) → v < length problem.desired → w < length problem.desired → get_or keys v 0 ≡ get_or keys w 0 → (rank keys v == rank keys w) ≡ (v == w)
  one_variable v w v_within w_within is =
      same_tests (rank keys v) (rank keys w) v w (same_rank keys v w (omega (arith, are_keys.as_long)) (omega (arith, are_keys.as_long)) is) (ap (rank keys))

  module _ (i : ℕ) (within : i < length problem.desired) where
    right_ends : AllByRecursion (IsEnd (λ (s : Sep). get_or keys s.left 0) (renumbered keys) (λ (s : Sep). s.right) (get_or keys i 0) i (rank keys i)) problem.separations
    right_ends = recursion_from_All (IsEnd (λ (s : Sep). get_or keys s.left 0) (renumbered keys) (λ (s : Sep). s.right) (get_or keys i 0) i (rank keys i)) problem.separations (λ k d below.
        let is = kept k d below in record {
          same = λ key. one_variable (get_or problem.separations k d).right i is.right within (sym is.together ∙ key);
          other = λ no_key. ne_eqb (get_or problem.separations k d).right i (λ same. no_key (is.together ∙ ap (λ v. get_or keys v 0) same));
        })

    left_ends : AllByRecursion (IsEnd (λ (s : Sep). get_or keys s.left 0) (renumbered keys) (λ (s : Sep). s.left) (get_or keys i 0) i (rank keys i)) problem.separations
    left_ends = recursion_from_All (IsEnd (λ (s : Sep). get_or keys s.left 0) (renumbered keys) (λ (s : Sep). s.left) (get_or keys i 0) i (rank keys i)) problem.separations (λ k d below.
        let is = kept k d below in record {
          same = λ key. one_variable (get_or problem.separations k d).left i is.left within key;
          other = λ no_key. ne_eqb (get_or problem.separations k d).left i (λ same. no_key (ap (λ v. get_or keys v 0) same));
        })

    pub arrives : (ms : List Fraction) → arriving (component problem keys (get_or keys i 0)).separations (those (get_or keys i 0) (separation_keys keys problem.separations) ms) (rank keys i) ≡ arriving problem.separations ms i
    arrives ms = ap fraction_sum (those_multipliers (λ (s : Sep). get_or keys s.left 0) (renumbered keys) (λ (s : Sep). s.right) (get_or keys i 0) i (rank keys i) problem.separations ms right_ends)

    pub leaves : (ms : List Fraction) → leaving (component problem keys (get_or keys i 0)).separations (those (get_or keys i 0) (separation_keys keys problem.separations) ms) (rank keys i) ≡ leaving problem.separations ms i
    leaves ms = ap fraction_sum (those_multipliers (λ (s : Sep). get_or keys s.left 0) (renumbered keys) (λ (s : Sep). s.left) (get_or keys i 0) i (rank keys i) problem.separations ms left_ends)

-- ---- the law

module _ (problem : Problem) (keys : List ℕ) (certificate : Certificate) (bounded : IsBounded problem) (are_keys : AreKeys problem keys) (shown : AreShown problem keys certificate) where
  abbrev left_of : ℕ → ℕ
  left_of k = (separation_at problem.separations k).left

  rules : (v : ℕ) → v < length problem.desired → MeetsRules (component problem keys (get_or keys v 0)) (share keys problem.separations (get_or keys v 0) certificate)
  rules v within = (rules_certificate _ _).1 (shown.each v within)

  of_places : (P : Fraction → Type 0) → ((v : ℕ) → v < length problem.desired → All P (those (get_or keys v 0) keys certificate.places)) → All P certificate.places
  of_places P each v d within =
      let below : v < length problem.desired = omega (arith, shown.places_as_long) in
      let is = at_variable problem keys bounded are_keys certificate.places v d below shown.places_as_long in
      subst P is.1 (each v below (rank keys v) d is.0)

  of_multipliers : (P : Fraction → Type 0) → ((v : ℕ) → v < length problem.desired → All P (those (get_or keys v 0) (separation_keys keys problem.separations) certificate.multipliers)) → All P certificate.multipliers
  of_multipliers P each k d within =
      let below : k < length problem.separations = omega (arith, shown.multipliers_as_long) in
      let is = at_separation problem keys bounded are_keys certificate.multipliers k d below shown.multipliers_as_long in
      subst P is.1 (each (left_of k) (kept problem keys bounded are_keys k no_separation below).left (before (get_or keys (left_of k) 0) (separation_keys keys problem.separations) k) d is.0)

  form : HasForm problem certificate
  form = record {
    places_as_long = shown.places_as_long;
    multipliers_as_long = shown.multipliers_as_long;
    places_lowest = of_places IsLowest (λ v within. (rules v within).form.places_lowest);
    multipliers_lowest = of_multipliers IsLowest (λ v within. (rules v within).form.multipliers_lowest);
    near = of_places IsNear (λ v within. (rules v within).form.near);
  }

  -- a separation's number in its component, and what stands there
  abbrev own_number : ℕ → ℕ
  own_number k = before (get_or keys (left_of k) 0) (separation_keys keys problem.separations) k

  abbrev own_places : ℕ → List Fraction
  own_places k = those (get_or keys (left_of k) 0) keys certificate.places

  own_separation : (k : ℕ) → k < length problem.separations
      → (own_number k < length (component problem keys (get_or keys (left_of k) 0)).separations)
      × (separation_at (component problem keys (get_or keys (left_of k) 0)).separations (own_number k) ≡ renumbered keys (separation_at problem.separations k))
  own_separation k within =
      let is = at_separation problem keys bounded are_keys (map (renumbered keys) problem.separations) k no_separation within (length-map problem.separations (renumbered keys)) in
      (is.0, is.1 ∙ get_or-map (renumbered keys) problem.separations k no_separation no_separation within)

  left_place : (k : ℕ) → k < length problem.separations → fraction_at (own_places k) (rank keys (left_of k)) ≡ fraction_at certificate.places (left_of k)
  left_place k within =
      let is = kept problem keys bounded are_keys k no_separation within in
      at_end problem keys bounded are_keys certificate.places (left_of k) (left_of k) (whole (pos 0)) is.left shown.places_as_long refl

  right_place : (k : ℕ) → k < length problem.separations → fraction_at (own_places k) (rank keys (separation_at problem.separations k).right) ≡ fraction_at certificate.places (separation_at problem.separations k).right
  right_place k within =
      let is = kept problem keys bounded are_keys k no_separation within in
      at_end problem keys bounded are_keys certificate.places (separation_at problem.separations k).right (left_of k) (whole (pos 0)) is.right shown.places_as_long (sym is.together)

  met : (k : ℕ) → k < length problem.separations → IsMet certificate.places (separation_at problem.separations k)
  met k within =
      let is = kept problem keys bounded are_keys k no_separation within in
      let own = own_separation k within in
      met_at (own_places k) certificate.places (separation_at problem.separations k) (rank keys (left_of k)) (rank keys (separation_at problem.separations k).right) (left_place k within) (right_place k within)
      (subst (IsMet (own_places k)) own.1 ((rules (left_of k) is.left).met (own_number k) no_separation own.0))

  right : (k : ℕ) → k < length problem.separations → IsRight certificate.places (separation_at problem.separations k) (fraction_at certificate.multipliers k)
  right k within =
      let is = kept problem keys bounded are_keys k no_separation within in
      let own = own_separation k within in
      let multiplier = at_separation problem keys bounded are_keys certificate.multipliers k (whole (pos 0)) within shown.multipliers_as_long in
      let there = zip_at (IsRight (own_places k)) (component problem keys (get_or keys (left_of k) 0)).separations (share keys problem.separations (get_or keys (left_of k) 0) certificate).multipliers no_separation (whole (pos 0))
      (rules (left_of k) is.left).right (own_number k) own.0 in
      right_at (own_places k) certificate.places (separation_at problem.separations k) (rank keys (left_of k)) (rank keys (separation_at problem.separations k).right) (left_place k within) (right_place k within) (fraction_at certificate.multipliers k)
      (subst (IsRight (own_places k) (renumbered keys (separation_at problem.separations k))) multiplier.1
      (subst (λ (s : Sep). IsRight (own_places k) s (fraction_at (share keys problem.separations (get_or keys (left_of k) 0) certificate).multipliers (own_number k))) own.1 there))

  balanced : (i : ℕ) → i < length problem.desired → IsBalanced problem certificate i
  balanced i within =
      let place = at_variable problem keys bounded are_keys certificate.places i (whole (pos 0)) within shown.places_as_long in
      let weight = at_variable problem keys bounded are_keys problem.weights i 0 within bounded.as_long in
      let desired = at_variable problem keys bounded are_keys problem.desired i (pos 0) within refl in
      balance_along weight.1 place.1 desired.1 (arrives problem keys bounded are_keys i within certificate.multipliers) (leaves problem keys bounded are_keys i within certificate.multipliers)
      ((rules i within).stationarity (rank keys i) desired.0)

  pub together : IsCertificate problem certificate
  together = (rules_certificate problem certificate).0 record {
    form = form;
    met = All-from_get_or (IsMet certificate.places) problem.separations no_separation met;
    right = zip_from_index (IsRight certificate.places) problem.separations certificate.multipliers no_separation (whole (pos 0)) shown.multipliers_as_long right;
    stationarity = balanced;
  }
