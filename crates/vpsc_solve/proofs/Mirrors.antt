-- The problem with an exact separation turned round: the same placements, the same forests, and each state as its mirror image.
use Rattle.std.proofs.Common.{◌≡◌, ℕ, ◌*◌, ◌<◌, ℤ, pos, neg_ℤ, ◌-ℤ◌, ◌*ℤ◌, ◌<ℤ◌, ◌≤ℤ◌, List, length, get_or, length-set, arith, refl, sym, ap, ◌∙◌, Bool, true, false, eqb, eqb-true, subst, ◌⊎◌, inl, inr, MatchBool, if◌then◌else◌}
use Rattle.std.specs.List.{Contains}
use Rattle.std.proofs.lemmas.Bool.{eqb-false}
use Rattle.std.proofs.lemmas.Int.{ints}
use Rattle.std.proofs.lemmas.List.{get_or-set_same, get_or-set_other, get_or_default}
use Rattle.units.specs.declared.geometry.Sep.{Sep}
use Rattle.units.specs.Problem.{Problem}
use Rattle.units.specs.Separation.{place_of, Satisfies}
use Rattle.solver_law.specs.Cost.{lack}
use Rattle.solver_law.proofs.Ring.{dif_of, difs, dif_same}
use Rattle.solver_law.proofs.Mirror.{IsMirror, turned, mirror-back, mirror-rest, mirror-cost, mirror-lack, mirror-forest}
use Rattle.units.specs.Separation.{no_separation, separation_at}
use Rattle.block_sums.specs.Solving.{givens_of, Active, IsActive}
use Rattle.block_sums.specs.Rest.{exact_of}
use Rattle.vpsc_solve.specs.Stops.{IsFeasible, IsUnderWay, HasClosed, IsViolation, AreTouched, DiffersAt}
use Rattle.vpsc_solve.specs.Mirror.{turned_separation, turned_problem}
use Rattle.vpsc_solve.proofs.Beginning.{begins}

-- the separation of a number in the problem turned round
at-turned : (p : Problem) (v k : ℕ) → v < length p.separations → (b : Bool) → eqb v k ≡ b
    → separation_at (turned_problem p v).separations k ≡ (if b then turned_separation (separation_at p.separations k) else separation_at p.separations k)
at-turned p v k below true q =
    subst (λ i. separation_at (turned_problem p v).separations i ≡ turned_separation (separation_at p.separations i)) (eqb-true v k q)
    (get_or-set_same p.separations v (turned_separation (separation_at p.separations v)) no_separation below)
at-turned p v k below false q = get_or-set_other p.separations v k (turned_separation (separation_at p.separations v)) no_separation (λ e. eqb-false v k q (sym e))

pub exact-turned : (p : Problem) (v k : ℕ) → v < length p.separations → exact_of (turned_problem p v) k ≡ exact_of p k
exact-turned p v k below = by_case (eqb v k) refl
  where
    by_case : (b : Bool) → eqb v k ≡ b → exact_of (turned_problem p v) k ≡ exact_of p k
    by_case true q = ap (λ s. s.exact) (at-turned p v k below true q)
    by_case false q = ap (λ s. s.exact) (at-turned p v k below false q)

pub is-mirror : (p : Problem) (v : ℕ) → v < length p.separations → IsMirror v (givens_of p) (givens_of (turned_problem p v))
is-mirror p v below = record {
  variables = refl;
  separations = length-set p.separations v (turned_separation (separation_at p.separations v));
  weight = λ i. refl;
  desired = λ i. refl;
  left = λ k. lefts k (eqb v k) refl;
  right = λ k. rights k (eqb v k) refl;
  gap = λ k. gaps k (eqb v k) refl;
}
  where
    lefts : (k : ℕ) (b : Bool) → eqb v k ≡ b → (separation_at (turned_problem p v).separations k).left ≡ (if b then (separation_at p.separations k).right else (separation_at p.separations k).left)
    lefts k true q = ap (λ s. s.left) (at-turned p v k below true q)
    lefts k false q = ap (λ s. s.left) (at-turned p v k below false q)

    rights : (k : ℕ) (b : Bool) → eqb v k ≡ b → (separation_at (turned_problem p v).separations k).right ≡ (if b then (separation_at p.separations k).left else (separation_at p.separations k).right)
    rights k true q = ap (λ s. s.right) (at-turned p v k below true q)
    rights k false q = ap (λ s. s.right) (at-turned p v k below false q)

    gaps : (k : ℕ) (b : Bool) → eqb v k ≡ b → (separation_at (turned_problem p v).separations k).gap ≡ (if b then neg_ℤ (separation_at p.separations k).gap else (separation_at p.separations k).gap)
    gaps k true q = ap (λ s. s.gap) (at-turned p v k below true q)
    gaps k false q = ap (λ s. s.gap) (at-turned p v k below false q)

pub feasible-turned : (p : Problem) (v : ℕ) → v < length p.separations → exact_of p v ≡ true → IsFeasible p → IsFeasible (turned_problem p v)
feasible-turned p v below strict h = record {
  places = h.places;
  denominator = h.denominator;
  above = h.above;
  satisfied = λ k d b. each k d b;
}
  where
    turn : (s : Sep) → s.exact ≡ true → Satisfies h.places h.denominator s → Satisfies h.places h.denominator (turned_separation s)
    turn s e i = subst (λ b. MatchBool b ((place_of h.places s.left -ℤ place_of h.places s.right) ≡ pos h.denominator *ℤ neg_ℤ s.gap) ((pos h.denominator *ℤ neg_ℤ s.gap) ≤ℤ (place_of h.places s.left -ℤ place_of h.places s.right))) (sym e)
        (other (place_of h.places s.right) (place_of h.places s.left) (pos h.denominator) s.gap
        (subst (λ b. MatchBool b ((place_of h.places s.right -ℤ place_of h.places s.left) ≡ pos h.denominator *ℤ s.gap) ((pos h.denominator *ℤ s.gap) ≤ℤ (place_of h.places s.right -ℤ place_of h.places s.left))) e i))
      where
        neg_times : (q g : ℤ) → q *ℤ neg_ℤ g ≡ neg_ℤ (q *ℤ g)
        neg_times q g = rw (dif_of q, dif_of g) (simp difs (dif_same _ _ _ _ (omega arith)))

        other : (r l q g : ℤ) → r -ℤ l ≡ q *ℤ g → l -ℤ r ≡ q *ℤ neg_ℤ g
        other r l q g e = let k = neg_times q g in omega (arith, ints, e, k)

    at : (k : ℕ) → k < length p.separations → (b : Bool) → eqb v k ≡ b → Satisfies h.places h.denominator (separation_at (turned_problem p v).separations k)
    at k b true q = subst (Satisfies h.places h.denominator) (sym (at-turned p v k below true q))
        (turn (separation_at p.separations k) (subst (λ i. exact_of p i ≡ true) (eqb-true v k q) strict) (h.satisfied k no_separation b))
    at k b false q = subst (Satisfies h.places h.denominator) (sym (at-turned p v k below false q)) (h.satisfied k no_separation b)

    each : (k : ℕ) (d : Sep) → k < length (turned_problem p v).separations → Satisfies h.places h.denominator (get_or (turned_problem p v).separations k d)
    each k d b =
        let e = length-set p.separations v (turned_separation (separation_at p.separations v)) in
        subst (Satisfies h.places h.denominator) (get_or_default (turned_problem p v).separations k no_separation d b) (at k (subst (λ n. k < n) e b) (eqb v k) refl)

-- ---- the active list

pub active-turned : (p : Problem) (v : ℕ) (active : List ℕ) → v < length p.separations → IsActive p active → IsActive (turned_problem p v) active
active-turned p v active below h = record {
  below = λ i d b. subst (λ n. get_or active i d < n) (sym (length-set p.separations v (turned_separation (separation_at p.separations v)))) (h.below i d b);
  forest = mirror-forest v (givens_of p) (givens_of (turned_problem p v)) (Active active) (is-mirror p v below) h.forest;
}

pub active-back : (p : Problem) (v : ℕ) (active : List ℕ) → v < length p.separations → IsActive (turned_problem p v) active → IsActive p active
active-back p v active below h = record {
  below = λ i d b. subst (λ n. get_or active i d < n) (length-set p.separations v (turned_separation (separation_at p.separations v))) (h.below i d b);
  forest = mirror-forest v (givens_of (turned_problem p v)) (givens_of p) (Active active) (mirror-back v (givens_of p) (givens_of (turned_problem p v)) (is-mirror p v below)) h.forest;
}

-- ---- a closing

pub begins-turned : (p : Problem) (active : List ℕ) (v : ℕ) (bound : ℤ) (F : ℕ) → v < length p.separations → (Active active v → ⊥) → IsViolation p active v true bound F → IsUnderWay (turned_problem p v) (Active active) v bound F
begins-turned p active v bound F below off h =
    begins (turned_problem p v) active v (turned v h.point) h.Q bound F
    (mirror-rest v (givens_of p) (givens_of (turned_problem p v)) (exact_of p) (exact_of (turned_problem p v)) (Active active) h.point h.Q (is-mirror p v below) (λ k. exact-turned p v k below) h.missing.0 h.rest)
    (subst (λ n. v < n) (sym (length-set p.separations v (turned_separation (separation_at p.separations v)))) below) off
    (up (lack (givens_of p) h.point v) h.missing.1 (mirror-lack v (givens_of p) (givens_of (turned_problem p v)) h.point (is-mirror p v below)))
    (h.same ∙ ap (λ c. pos (F * F) *ℤ c) (sym (mirror-cost v (givens_of p) (givens_of (turned_problem p v)) h.point (is-mirror p v below))))
  where
    up : (z : ℤ) {y : ℤ} → z <ℤ pos 0 → y ≡ neg_ℤ z → pos 0 <ℤ y
    up z {y} h e = plain z y h e
      where
        plain : (z y : ℤ) → z <ℤ pos 0 → y ≡ neg_ℤ z → pos 0 <ℤ y
        plain z y h e = omega (arith, ints, h, e)

pub closed-back : (p : Problem) (active : List ℕ) (v : ℕ) (bound : ℤ) (F : ℕ) → v < length p.separations → exact_of p v ≡ true → HasClosed (turned_problem p v) active bound F → HasClosed p active bound F
closed-back p active v bound F below strict h = record {
  point = turned v h.point;
  Q = h.Q;
  rest = mirror-rest v (givens_of (turned_problem p v)) (givens_of p) (exact_of (turned_problem p v)) (exact_of p) (Active active) h.point h.Q back (λ k. sym (exact-turned p v k below)) (exact-turned p v v below ∙ strict) h.rest;
  larger = subst (λ c. (pos (h.Q * h.Q) *ℤ bound) <ℤ (pos (F * F) *ℤ c)) (sym (mirror-cost v (givens_of (turned_problem p v)) (givens_of p) h.point back)) h.larger;
}
  where
    back : IsMirror v (givens_of (turned_problem p v)) (givens_of p)
    back = mirror-back v (givens_of p) (givens_of (turned_problem p v)) (is-mirror p v below)

pub differs-back : (p : Problem) (v : ℕ) (active new touched : List ℕ) → v < length p.separations → DiffersAt (turned_problem p v) active new touched → DiffersAt p active new touched
differs-back p v active new touched below h = record {
  gone = λ k on. lift k (h.gone k on);
  come = λ k on. lift k (h.come k on);
  within = h.within;
}
  where
    ends : (k : ℕ) (b : Bool) → eqb v k ≡ b → AreTouched (turned_problem p v) touched k → AreTouched p touched k
    ends k true q t = let e = at-turned p v k below true q in (subst (λ s. Contains touched s.right) e t.1, subst (λ s. Contains touched s.left) e t.0)
    ends k false q t = let e = at-turned p v k below false q in (subst (λ s. Contains touched s.left) e t.0, subst (λ s. Contains touched s.right) e t.1)

    lift : {A : Type 0} (k : ℕ) → A ⊎ AreTouched (turned_problem p v) touched k → A ⊎ AreTouched p touched k
    lift k (inl a) = inl a
    lift k (inr t) = inr (ends k (eqb v k) refl t)
