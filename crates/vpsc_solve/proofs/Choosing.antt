-- The first threshold that the program finds is the first of all multipliers.
use Rattle.std.proofs.Common.{◌≡◌, ◌≢◌, ℕ, suc, ◌-◌, ◌<◌, ℤ, pos, negsuc, neg_ℤ, ◌+ℤ◌, ◌*ℤ◌, ◌<ℤ◌, ◌≤ℤ◌, nat_abs, List, length, arith, refl, sym, ap, ◌∙◌, Bool, true, false, eqb, eqb-true, subst, ◌⊎◌, inl, inr}
use Rattle.std.proofs.lemmas.Bool.{eqb-false}
use Rattle.std.proofs.lemmas.Int.{ints}
use lib.IntN.{*ℤ-zero, *ℤ_comm}
use Rattle.units.specs.Problem.{Problem}
use Rattle.solver_law.specs.State.{Point}
use Rattle.solver_law.proofs.Signs.{not-below-of, times-not-below}
use Rattle.block_sums.specs.declared.legs.Leg.{Leg}
use Rattle.block_sums.specs.Legs.{leg_at}
use Rattle.block_sums.specs.Loads.{load_at}
use Rattle.block_sums.specs.Solving.{givens_of, Active, TellsStates, HasMultiplier, rest_at, share_at}
use Rattle.block_sums.specs.Stops.{IsFalling}
use Rattle.block_sums.proofs.Rooted.{IsVia, find-via}
use Rattle.vpsc_solve.proofs.Stopping.{Law, IsDirection, IsLater, AreLater}
use Rattle.block_sums.specs.Rest.{exact_of}
use Rattle.vpsc_solve.proofs.Directions.{GoesOn}

pub law-of : (p : Problem) (active : List ℕ) (v k : ℕ) (W rest share : ℤ) → pos 0 <ℤ W → HasMultiplier p active v k W rest share → Law (givens_of p) (Active active) v k (nat_abs W) rest share
law-of p active v k W rest share h law = record { above = omega (arith, ints, h); law = λ a st. ap (λ z. z *ℤ a.m k) (sym (whole W h)) ∙ law a st }
  where
    whole : (z : ℤ) → pos 0 <ℤ z → z ≡ pos (nat_abs z)
    whole z h = omega (arith, ints, h)

sign-of : (z : ℤ) → (z <ℤ pos 0) ⊎ (pos 0 ≤ℤ z)
sign-of (pos n) = inr (omega (arith, ints))
sign-of (negsuc n) = inl (omega (arith, ints))

-- a leg's separation: its multiplier grows, or it falls and is later
pub leg-later : (p : Problem) (active : List ℕ) (v : ℕ) (legs : List Leg) (weights moments marks : List ℤ) (b : Point) (rest0 fall0 : ℤ) → TellsStates p active v legs weights moments marks → pos 0 <ℤ load_at weights 0
    → IsDirection (givens_of p) (Active active) v b
    → ((j : ℕ) → j < length legs → IsFalling p.separations legs weights marks j → (rest0 *ℤ neg_ℤ (share_at legs weights marks j)) ≤ℤ (rest_at legs weights moments j *ℤ fall0))
    → (j : ℕ) → 0 < j → j < length legs → exact_of p (leg_at legs j).sep ≡ false → (pos 0 ≤ℤ b.m (leg_at legs j).sep) ⊎ IsLater (givens_of p) (Active active) v rest0 fall0 (leg_at legs j).sep
leg-later p active v legs weights moments marks b rest0 fall0 tells heavy dir soonest j above among loose = by_case (sign-of (share_at legs weights marks j))
  where
    law : Law (givens_of p) (Active active) v (leg_at legs j).sep (nat_abs (load_at weights 0)) (rest_at legs weights moments j) (share_at legs weights marks j)
    law = law-of p active v (leg_at legs j).sep (load_at weights 0) (rest_at legs weights moments j) (share_at legs weights marks j) heavy (tells.multipliers j above among)

    zero_q : (q r z : ℤ) → q ≡ pos 0 → q *ℤ r +ℤ z ≡ z
    zero_q q r z e = let n = ap (λ s. s *ℤ r) e ∙ (*ℤ_comm (pos 0) r ∙ *ℤ-zero r) in omega (arith, ints, n)

    weaker : (z : ℤ) → pos 0 <ℤ z → pos 0 ≤ℤ z
    weaker z h = omega (arith, ints, h)

    by_case : (share_at legs weights marks j <ℤ pos 0) ⊎ (pos 0 ≤ℤ share_at legs weights marks j) → (pos 0 ≤ℤ b.m (leg_at legs j).sep) ⊎ IsLater (givens_of p) (Active active) v rest0 fall0 (leg_at legs j).sep
    by_case (inl falls) = inr (record {
      W = nat_abs (load_at weights 0);
      rest = rest_at legs weights moments j;
      share = share_at legs weights marks j;
      law = law;
      later = soonest j among (record { above = above; among = among; loose = loose; falls = falls });
    })
    by_case (inr rises) = inl (not-below-of (nat_abs (load_at weights 0)) (b.m (leg_at legs j).sep) law.above
        (subst (λ z. pos 0 ≤ℤ z) (sym (law.law b dir.state ∙ zero_q b.q (rest_at legs weights moments j) (b.m v *ℤ share_at legs weights marks j) dir.still))
        (times-not-below (b.m v) (share_at legs weights marks j) (weaker (b.m v) dir.up) rises)))

-- all of them, where each separation that is near is that of a leg that was looked at
pub all-later : (p : Problem) (active : List ℕ) (Near : ℕ → Type 0) (v : ℕ) (b : Point) (rest0 fall0 : ℤ) → GoesOn (givens_of p) (Active active) Near v b
    → ((k : ℕ) → Near k ⊎ (Near k → ⊥)) → ((k : ℕ) → Near k → exact_of p k ≡ false → (pos 0 ≤ℤ b.m k) ⊎ IsLater (givens_of p) (Active active) v rest0 fall0 k)
    → AreLater (givens_of p) (Active active) (exact_of p) v b rest0 fall0
all-later p active Near v b rest0 fall0 goes decide near k below loose = by_number (eqb k v) refl
  where
    weaker : (z : ℤ) → pos 0 <ℤ z → pos 0 ≤ℤ z
    weaker z h = omega (arith, ints, h)

    zero-ok : (z : ℤ) → z ≡ pos 0 → pos 0 ≤ℤ z
    zero-ok z e = omega (arith, ints, e)

    by_case : k ≢ v → Near k ⊎ (Near k → ⊥) → (pos 0 ≤ℤ b.m k) ⊎ IsLater (givens_of p) (Active active) v rest0 fall0 k
    by_case ne (inl w) = near k w loose
    by_case ne (inr away) = inl (zero-ok (b.m k) (goes.elsewhere k below ne away))

    by_number : (t : Bool) → eqb k v ≡ t → (pos 0 ≤ℤ b.m k) ⊎ IsLater (givens_of p) (Active active) v rest0 fall0 k
    by_number true q = inl (subst (λ i. pos 0 ≤ℤ b.m i) (sym (eqb-true k v q)) (weaker (b.m v) goes.direction.up))
    by_number false q = by_case (eqb-false k v q) (decide k)

-- a separation of a tree is that of a leg, or of none
pub via-or-not : (legs : List Leg) (k : ℕ) → 0 < length legs → IsVia legs k ⊎ (IsVia legs k → ⊥)
via-or-not legs k some = by_case (find-via legs k (length legs - 1) (range (length legs) some))
  where
    range : (n : ℕ) → 0 < n → (n - 1 < n) ⊎ (n - 1 ≡ 0)
    range n h = inl (omega arith)

    lower : (c n : ℕ) → suc c < n → c < n - 1
    lower c n h = omega (arith, h)

    by_case : IsVia legs k ⊎ ((c : ℕ) → c < length legs - 1 → (leg_at legs (suc c)).sep ≢ k) → IsVia legs k ⊎ (IsVia legs k → ⊥)
    by_case (inl w) = inl w
    by_case (inr away) = inr (λ w. away w.0 (lower w.0 (length legs) w.1) w.2)

-- as a separation, a leg
pub via-later : (p : Problem) (active : List ℕ) (v : ℕ) (legs : List Leg) (weights moments marks : List ℤ) (b : Point) (rest0 fall0 : ℤ) → TellsStates p active v legs weights moments marks → pos 0 <ℤ load_at weights 0
    → IsDirection (givens_of p) (Active active) v b
    → ((j : ℕ) → j < length legs → IsFalling p.separations legs weights marks j → (rest0 *ℤ neg_ℤ (share_at legs weights marks j)) ≤ℤ (rest_at legs weights moments j *ℤ fall0))
    → (k : ℕ) → IsVia legs k → exact_of p k ≡ false → (pos 0 ≤ℤ b.m k) ⊎ IsLater (givens_of p) (Active active) v rest0 fall0 k
via-later p active v legs weights moments marks b rest0 fall0 tells heavy dir soonest k w loose =
    subst (λ k. (pos 0 ≤ℤ b.m k) ⊎ IsLater (givens_of p) (Active active) v rest0 fall0 k) w.2
    (leg-later p active v legs weights moments marks b rest0 fall0 tells heavy dir soonest (suc w.0) (omega arith) w.1 (subst (λ i. exact_of p i ≡ false) (sym w.2) loose))

-- where no leg falls, each multiplier that has to be at least 0 grows, or stays
pub none-falls : (p : Problem) (active : List ℕ) (v : ℕ) (legs : List Leg) (weights moments marks : List ℤ) (b : Point) → TellsStates p active v legs weights moments marks → pos 0 <ℤ load_at weights 0
    → GoesOn (givens_of p) (Active active) (IsVia legs) v b → 0 < length legs → ((j : ℕ) → j < length legs → IsFalling p.separations legs weights marks j → ⊥)
    → (k : ℕ) → k < length p.separations → exact_of p k ≡ false → pos 0 ≤ℤ b.m k
none-falls p active v legs weights moments marks b tells heavy goes some none k below loose = by_number (eqb k v) refl
  where
    weaker : (z : ℤ) → pos 0 <ℤ z → pos 0 ≤ℤ z
    weaker z h = omega (arith, ints, h)

    zero-ok : (z : ℤ) → z ≡ pos 0 → pos 0 ≤ℤ z
    zero-ok z e = omega (arith, ints, e)

    zero_q : (q r z : ℤ) → q ≡ pos 0 → q *ℤ r +ℤ z ≡ z
    zero_q q r z e = let n = ap (λ s. s *ℤ r) e ∙ (*ℤ_comm (pos 0) r ∙ *ℤ-zero r) in omega (arith, ints, n)

    leg : (j : ℕ) → 0 < j → j < length legs → exact_of p (leg_at legs j).sep ≡ false → (share_at legs weights marks j <ℤ pos 0) ⊎ (pos 0 ≤ℤ share_at legs weights marks j) → pos 0 ≤ℤ b.m (leg_at legs j).sep
    leg j above among loose (inl falls) = absurd (none j among (record { above = above; among = among; loose = loose; falls = falls }))
    leg j above among loose (inr rises) =
        let law = law-of p active v (leg_at legs j).sep (load_at weights 0) (rest_at legs weights moments j) (share_at legs weights marks j) heavy (tells.multipliers j above among) in
        not-below-of (nat_abs (load_at weights 0)) (b.m (leg_at legs j).sep) law.above
        (subst (λ z. pos 0 ≤ℤ z) (sym (law.law b goes.direction.state ∙ zero_q b.q (rest_at legs weights moments j) (b.m v *ℤ share_at legs weights marks j) goes.direction.still))
        (times-not-below (b.m v) (share_at legs weights marks j) (weaker (b.m v) goes.direction.up) rises))

    by_case : k ≢ v → IsVia legs k ⊎ (IsVia legs k → ⊥) → pos 0 ≤ℤ b.m k
    by_case ne (inl w) = subst (λ k. pos 0 ≤ℤ b.m k) w.2 (leg (suc w.0) (omega arith) w.1 (subst (λ i. exact_of p i ≡ false) (sym w.2) loose) (sign-of (share_at legs weights marks (suc w.0))))
    by_case ne (inr away) = zero-ok (b.m k) (goes.elsewhere k below ne away)

    by_number : (t : Bool) → eqb k v ≡ t → pos 0 ≤ℤ b.m k
    by_number true q = subst (λ i. pos 0 ≤ℤ b.m i) (sym (eqb-true k v q)) (weaker (b.m v) goes.direction.up)
    by_number false q = by_case (eqb-false k v q) (via-or-not legs k some)
