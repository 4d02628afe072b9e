-- The whole square root.
use Rattle.std.proofs.Common.{◌≡◌, ◌≢◌, ◌⊎◌, inl, inr, ◌+◌, ◌*◌, ◌<◌, ◌≤◌, ℕ, zero, suc, Bool, true, false, cond, nat_eq, refl, sym, ap, ◌∙◌, arith}
use Rattle.std.specs.Prelude.{nat_le}
use Rattle.std.proofs.lemmas.Bool.{leb-true, le-leb}
use Rattle.std.proofs.lemmas.Bool.Decides.{eqb_tells}
use Rattle.std.proofs.Math.Nat.{mul-le-mul}
use Rattle.stress_step.specs.Sums.{greatest_up_to, root}

-- a number passes, and none up to n that passes is greater
record IsGreatest (p : ℕ → Bool) (n k : ℕ) : Type 0 where
  passes : p k ≡ true
  above : (m : ℕ) → m ≤ n → p m ≡ true → m ≤ k

greatest-is : (p : ℕ → Bool) (n : ℕ) → p 0 ≡ true → IsGreatest p n (greatest_up_to p n)
unfolding greatest_up_to
greatest-is p zero first = record { passes = first; above = λ m low passes. low }
greatest-is p (suc n) first = by (p (suc n)) refl (greatest-is p n first)
  where
    by : (b : Bool) → p (suc n) ≡ b → IsGreatest p n (greatest_up_to p n) → IsGreatest p (suc n) (cond b (suc n) (greatest_up_to p n))
    by true e rest = record { passes = e; above = λ m low passes. low }
    by false e rest = record { passes = rest.passes; above = λ m low passes. below m low passes (eqb_tells m (suc n)) }
      where
        below : (m : ℕ) → m ≤ suc n → p m ≡ true → ((nat_eq m (suc n) ≡ true) × (m ≡ suc n)) ⊎ ((nat_eq m (suc n) ≡ false) × (m ≢ suc n)) → m ≤ greatest_up_to p n
        below m low passes (inl same) = let last : p (suc n) ≡ true = sym (ap p same.1) ∙ passes in cc
        below m low passes (inr other) = rest.above m (omega (arith, other.1)) passes

-- a number is at most its square
square-above : (s : ℕ) → s ≤ s * s
square-above zero = omega arith
square-above (suc s) =
    let one : 1 ≤ suc s = omega arith in
    let same : suc s ≤ suc s = omega arith in
    let more : 1 * suc s ≤ suc s * suc s = mul-le-mul one same in
    omega (arith, more)

-- a number whose square fits, and that of the next one doesn't, is the root
pub root-is : (r v : ℕ) → r * r ≤ v → v < (r + 1) * (r + 1) → r ≡ root v
unfolding root
root-is r v fits next =
    let is = greatest-is (λ s. nat_le (s * s) v) v (le-leb _ _ (omega arith)) in
    let small : root v * root v ≤ v = leb-true _ _ is.passes in
    let above : r ≤ root v = is.above r (omega (arith, square-above r, fits)) (le-leb _ _ fits) in
    let beyond : r + 1 ≤ root v → ⊥ = λ more. omega (arith, mul-le-mul more more, small, next) in
    omega (arith, above, beyond)

-- the root of a squared distance is at most 3,000,000
pub root-small : (r v : ℕ) → v ≤ 8080200000000 → r * r ≤ v → r ≤ 3000000
root-small r v small fits =
    let next : 3000001 ≤ r → ⊥ = λ more. omega (arith, small, mul-le-mul more more, fits) in
    omega (arith, next)
