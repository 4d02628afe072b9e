-- Signs of products.
use Rattle.std.proofs.Common.{ℕ, zero, suc, ◌<◌, ℤ, pos, negsuc, ◌*ℤ◌, ◌<ℤ◌, ◌≤ℤ◌, arith}
use Rattle.std.proofs.lemmas.Int.{ints}
use lib.IntN.{*ℤ-zero}

pub not-below-of : (D : ℕ) (z : ℤ) → 0 < D → pos 0 ≤ℤ (pos D *ℤ z) → pos 0 ≤ℤ z
not-below-of zero z h e = absurd (omega (arith, h))
not-below-of (suc d) (pos n) h e = omega (arith, ints)
not-below-of (suc d) (negsuc n) h e = absurd (omega (arith, ints, e))

pub above-of : (D : ℕ) (z : ℤ) → 0 < D → pos 0 <ℤ (pos D *ℤ z) → pos 0 <ℤ z
above-of zero z h e = absurd (omega (arith, h))
above-of (suc d) (pos zero) h e = absurd (let k = *ℤ-zero (pos (suc d)) in omega (arith, ints, e, k))
above-of (suc d) (pos (suc n)) h e = omega (arith, ints)
above-of (suc d) (negsuc n) h e = absurd (omega (arith, ints, e))

pub below-of : (D : ℕ) (z : ℤ) → 0 < D → (pos D *ℤ z) <ℤ pos 0 → z <ℤ pos 0
below-of zero z h e = absurd (omega (arith, h))
below-of (suc d) (pos n) h e = absurd (omega (arith, ints, e))
below-of (suc d) (negsuc n) h e = omega (arith, ints)

pub times-above : (u z : ℤ) → pos 0 <ℤ u → pos 0 <ℤ z → pos 0 <ℤ (u *ℤ z)
times-above (pos (suc n)) (pos (suc m)) h g = omega (arith, ints)
times-above (pos zero) z h g = absurd (omega (arith, ints, h))
times-above (negsuc n) z h g = absurd (omega (arith, ints, h))
times-above (pos (suc n)) (pos zero) h g = absurd (omega (arith, ints, g))
times-above (pos (suc n)) (negsuc m) h g = absurd (omega (arith, ints, g))

pub times-not-below : (u z : ℤ) → pos 0 ≤ℤ u → pos 0 ≤ℤ z → pos 0 ≤ℤ (u *ℤ z)
times-not-below (pos n) (pos m) h g = omega (arith, ints)
times-not-below (negsuc n) z h g = absurd (omega (arith, ints, h))
times-not-below (pos n) (negsuc m) h g = absurd (omega (arith, ints, g))

pub times-below : (u z : ℤ) → pos 0 <ℤ u → z <ℤ pos 0 → (u *ℤ z) <ℤ pos 0
times-below (pos (suc n)) (negsuc m) h g = omega (arith, ints)
times-below (pos zero) z h g = absurd (omega (arith, ints, h))
times-below (negsuc n) z h g = absurd (omega (arith, ints, h))
times-below (pos (suc n)) (pos m) h g = absurd (omega (arith, ints, g))
