-- Multipliers that are below 0 at rest.
use Rattle.std.proofs.Common.{◌≡◌, ◌≢◌, ℕ, suc, ◌+◌, ◌<◌, ℤ, pos, negsuc, ◌*ℤ◌, ◌<ℤ◌, ◌≤ℤ◌, nat_abs, List, length, arith, refl, sym, ◌∙◌, subst, Bool, true, false, ◌⊎◌, inl, inr, eqb, eqb-true, Option, None, Some}
use Rattle.std.proofs.lemmas.Bool.{eqb-false}
use Rattle.std.proofs.lemmas.Int.{ints}
use Rattle.std.specs.Prelude.{slice_index}
use Rattle.units.specs.declared.geometry.Sep.{Sep}
use Rattle.units.specs.Problem.{Problem}
use Rattle.units.specs.Problem as stated
use Rattle.units.specs.Separation.{separation_at}
use Rattle.solver_law.proofs.Signs.{not-below-of, below-of, times-not-below, times-below}
use Rattle.block_sums.specs.declared.legs.Leg.{Leg}
use Rattle.block_sums.specs.Legs.{leg_at, IsReached}
use Rattle.block_sums.specs.Loads.{load_at}
use Rattle.block_sums.specs.Solving.{givens_of, Active, IsActive, IsSweep, TellsRest, rest_at}
use Rattle.block_sums.specs.Rest.{exact_of, HasRest}
use Rattle.block_sums.proofs.Rooted.{IsVia, only-vias}
use Rattle.vpsc_solve.specs.declared.dropping.Fallen.{Fallen}
use Rattle.vpsc_solve.specs.Places.{is_settled}
use Rattle.vpsc_solve.specs.Hints.{IsNegative, IsFallenAt, IsLower, IsLeastOf, number_of, AreMarked, IsNotBelow, HasFallen, AreSeen, IsSeen, IsFallen}
use Rattle.vpsc_solve.proofs.Deciding.{weighs, ends-below}
use Rattle.vpsc_solve.proofs.Existing.{HasState, has-state}

lower : (j at : ℕ) → j < at + 1 → j ≢ at → j < at
lower j at b ne = omega arith

-- below one more: at it, or below it
last-or-before : (j at : ℕ) → j < at + 1 → (j ≡ at) ⊎ (j < at)
last-or-before j at b = by_case (eqb j at) refl
  where
    by_case : (t : Bool) → eqb j at ≡ t → (j ≡ at) ⊎ (j < at)
    by_case true q = inl (eqb-true j at q)
    by_case false q = inr (lower j at b (eqb-false j at q))

-- ---- the least of one block

pub least-next : (seps : List Sep) (legs : List Leg) (weights moments : List ℤ) (at : ℕ) (least found result : Option Fallen) → IsLeastOf seps legs weights moments at least → IsFallenAt seps legs weights moments at found
    → IsLower least found result → IsLeastOf seps legs weights moments (at + 1) result
least-next seps legs weights moments at None None result h f e = subst (λ r. IsLeastOf seps legs weights moments (at + 1) r) (sym e) (λ j b n. by_case j n (last-or-before j at b))
  where
    by_case : (j : ℕ) → IsNegative seps legs weights moments j → (j ≡ at) ⊎ (j < at) → ⊥
    by_case j n (inl q) = f (subst (λ j. IsNegative seps legs weights moments j) q n)
    by_case j n (inr b) = h j b n
least-next seps legs weights moments at None (Some other) result h f e =
    subst (λ r. IsLeastOf seps legs weights moments (at + 1) r) (sym e) ((at, omega arith, f), λ j b n. by_case j n (last-or-before j at b))
  where
    level : (x y : ℤ) → x ≡ y → x ≤ℤ y
    level x y e = omega (arith, ints, e)

    by_case : (j : ℕ) → IsNegative seps legs weights moments j → (j ≡ at) ⊎ (j < at) → other.rest ≤ℤ rest_at legs weights moments j
    by_case j n (inl q) = subst (λ j. other.rest ≤ℤ rest_at legs weights moments j) (sym q) (level other.rest (rest_at legs weights moments at) f.value)
    by_case j n (inr b) = absurd (h j b n)
least-next seps legs weights moments at (Some one) None result h f e =
    subst (λ r. IsLeastOf seps legs weights moments (at + 1) r) (sym e) ((h.0.0, (let b = h.0.1 in omega (arith, b)), h.0.2), λ j b n. by_case j n (last-or-before j at b))
  where
    by_case : (j : ℕ) → IsNegative seps legs weights moments j → (j ≡ at) ⊎ (j < at) → one.rest ≤ℤ rest_at legs weights moments j
    by_case j n (inl q) = absurd (f (subst (λ j. IsNegative seps legs weights moments j) q n))
    by_case j n (inr b) = h.1 j b n
least-next seps legs weights moments at (Some one) (Some other) result h f (inl e) =
    subst (λ r. IsLeastOf seps legs weights moments (at + 1) r) (sym e.0) ((h.0.0, (let b = h.0.1 in omega (arith, b)), h.0.2), λ j b n. by_case j n (last-or-before j at b))
  where
    level : (x y z : ℤ) → x ≤ℤ y → y ≡ z → x ≤ℤ z
    level x y z g e = omega (arith, ints, g, e)

    by_case : (j : ℕ) → IsNegative seps legs weights moments j → (j ≡ at) ⊎ (j < at) → one.rest ≤ℤ rest_at legs weights moments j
    by_case j n (inl q) = subst (λ j. one.rest ≤ℤ rest_at legs weights moments j) (sym q) (level one.rest other.rest (rest_at legs weights moments at) e.1 f.value)
    by_case j n (inr b) = h.1 j b n
least-next seps legs weights moments at (Some one) (Some other) result h f (inr e) =
    subst (λ r. IsLeastOf seps legs weights moments (at + 1) r) (sym e.0) ((at, omega arith, f), λ j b n. by_case j n (last-or-before j at b))
  where
    level : (x y : ℤ) → x ≡ y → x ≤ℤ y
    level x y e = omega (arith, ints, e)

    below : (x y z : ℤ) → x <ℤ y → y ≤ℤ z → x ≤ℤ z
    below x y z g e = omega (arith, ints, g, e)

    by_case : (j : ℕ) → IsNegative seps legs weights moments j → (j ≡ at) ⊎ (j < at) → other.rest ≤ℤ rest_at legs weights moments j
    by_case j n (inl q) = subst (λ j. other.rest ≤ℤ rest_at legs weights moments j) (sym q) (level other.rest (rest_at legs weights moments at) f.value)
    by_case j n (inr b) = below other.rest one.rest (rest_at legs weights moments j) e.1 (h.1 j b n)

-- ---- one block after another

sign-of : (z : ℤ) → (z <ℤ pos 0) ⊎ (pos 0 ≤ℤ z)
sign-of (pos n) = inr (omega (arith, ints))
sign-of (negsuc n) = inl (omega (arith, ints))

size : (z : ℤ) → pos 0 <ℤ z → 0 < nat_abs z
size z h = omega (arith, ints, h)

whole : (z : ℤ) → pos 0 <ℤ z → z ≡ pos (nat_abs z)
whole z h = omega (arith, ints, h)

-- what a sweep gives
pub record IsSwept (p : Problem) (active : List ℕ) (root : ℕ) (legs : List Leg) (weights moments : List ℤ) : Type 0 where
  pub sums : IsSweep p active root legs weights moments
  pub heavy : pos 0 <ℤ load_at weights 0
  pub tells : TellsRest p active legs weights moments

-- a leg whose multiplier isn't below 0
leg-right : (p : Problem) (active : List ℕ) (root : ℕ) (legs : List Leg) (weights moments : List ℤ) (j : ℕ) → IsSwept p active root legs weights moments → 0 < j → j < length legs
    → (IsNegative p.separations legs weights moments j → ⊥) → exact_of p (leg_at legs j).sep ≡ false → IsNotBelow p active (leg_at legs j).sep
leg-right p active root legs weights moments j s above among none loose a rest over =
    not-below-of (nat_abs (load_at weights 0)) (a.m (leg_at legs j).sep) (size (load_at weights 0) s.heavy)
    (subst (λ z. pos 0 ≤ℤ (z *ℤ a.m (leg_at legs j).sep)) (whole (load_at weights 0) s.heavy)
    (subst (λ z. pos 0 ≤ℤ z) (sym (s.tells.multipliers j above among a rest)) (times-not-below a.q (rest_at legs weights moments j) over (by_case (sign-of (rest_at legs weights moments j))))))
  where
    by_case : (rest_at legs weights moments j <ℤ pos 0) ⊎ (pos 0 ≤ℤ rest_at legs weights moments j) → pos 0 ≤ℤ rest_at legs weights moments j
    by_case (inl b) = absurd (none (record { above = above; among = among; loose = loose; below = b }))
    by_case (inr h) = h

-- a leg whose multiplier is below 0
leg-fallen : (p : Problem) (active : List ℕ) (root : ℕ) (legs : List Leg) (weights moments : List ℤ) (j : ℕ) → IsSwept p active root legs weights moments → IsNegative p.separations legs weights moments j → HasFallen p active (leg_at legs j).sep
leg-fallen p active root legs weights moments j s n = record {
  on = (s.sums.tree.tree.leads j n.above n.among).on;
  loose = n.loose;
  below = λ a rest over.
      below-of (nat_abs (load_at weights 0)) (a.m (leg_at legs j).sep) (size (load_at weights 0) s.heavy)
      (subst (λ z. (z *ℤ a.m (leg_at legs j).sep) <ℤ pos 0) (whole (load_at weights 0) s.heavy)
      (subst (λ z. z <ℤ pos 0) (sym (s.tells.multipliers j n.above n.among a rest)) (times-below a.q (rest_at legs weights moments j) over n.below)));
}

pub block-seen : (p : Problem) (active : List ℕ) (root : ℕ) (legs : List Leg) (weights moments : List ℤ) (was seen : List Bool) (least : Option Fallen) → IsActive p active → IsSwept p active root legs weights moments
    → IsLeastOf p.separations legs weights moments (length legs) least → AreMarked legs (length legs) was seen → AreSeen p active was → IsSeen p active root was seen (number_of least)
block-seen p active root legs weights moments was seen (Some fallen) forest s least marks h =
    let leg = least.0.2 in
    subst (λ k. HasFallen p active k) (sym leg.number) (leg-fallen p active root legs weights moments least.0.0 s leg.negative)
block-seen p active root legs weights moments was seen None forest s least marks h = record {
  all = record {
    as_long = marks.as_long ∙ h.as_long;
    right = λ k on e loose. right k on loose (marks.known (separation_at p.separations k).left e);
  };
  there = subst (λ i. is_settled seen i ≡ true) s.sums.tree.tree.first (marks.marked 0 s.sums.tree.tree.some);
  still = marks.still;
}
  where
    on-leg : (k : ℕ) → exact_of p k ≡ false → IsVia legs k → IsNotBelow p active k
    on-leg k loose w = subst (λ k. IsNotBelow p active k) w.2
        (leg-right p active root legs weights moments (suc w.0) s (omega arith) w.1 (λ n. least (suc w.0) w.1 n) (subst (λ k. exact_of p k ≡ false) (sym w.2) loose))

    right : (k : ℕ) → Active active k → exact_of p k ≡ false → (is_settled was (separation_at p.separations k).left ≡ true) ⊎ IsReached legs (separation_at p.separations k).left → IsNotBelow p active k
    right k on loose (inl e) = h.right k on e loose
    right k on loose (inr r) = on-leg k loose (only-vias p active root legs forest s.sums.tree k on r.number r.among (inr (sym r.is)))

-- ---- no multiplier is below 0

pub rests : (p : Problem) (active : List ℕ) → stated.IsBounded p → IsActive p active → IsFallen p active None → HasRest p active
rests p active bounded forest none = record {
  point = h.point;
  Q = h.Q;
  rest = record { above = h.above; over = h.over; state = h.state; signs = λ k b loose. sign k loose (h.state.within k b) };
}
  where
    h : HasState (givens_of p) (Active active)
    h = has-state (givens_of p) (λ i. slice_index p.weights i) active (weighs p bounded) (ends-below p bounded) (λ k on. subst (λ i. i < length p.separations) on.2 (forest.below on.0 k on.1)) forest.forest

    at-zero : (z : ℤ) → z ≡ pos 0 → pos 0 ≤ℤ z
    at-zero z e = omega (arith, ints, e)

    over-zero : (q : ℤ) (Q : ℕ) → q ≡ pos Q → pos 0 ≤ℤ q
    over-zero q Q e = omega (arith, ints, e)

    sign : (k : ℕ) → exact_of p k ≡ false → (h.point.m k ≡ pos 0) ⊎ Active active k → pos 0 ≤ℤ h.point.m k
    sign k loose (inl e) = at-zero (h.point.m k) e
    sign k loose (inr on) = none k on loose h.point h.state (over-zero h.point.q h.Q h.over)
