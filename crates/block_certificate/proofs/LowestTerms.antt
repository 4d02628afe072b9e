-- A fraction in lowest terms has the least denominator of its value.
use Rattle.std.proofs.Common.{◌≡◌, ℕ, zero, suc, ◌+◌, ◌-◌, ◌*◌, ◌/◌, ◌%◌, ◌<◌, ℤ, pos, negsuc, ◌*ℤ◌, nat_abs, arith, refl, sym, ◌∙◌, ap, subst}
use Rattle.std.specs.Int.{◌∣◌, IsGcd}
use Rattle.std.proofs.lemmas.Int.{ints}
use Rattle.std.proofs.Math.Nat.{dvd-mul_left, dvd-mul_right, dvd-mul_right_of_dvd, dvd-sub, dvd-zero, dvd_refl, one-dvd, dvd-mod_iff, mod-lt, div-add-mod', eq-one_of_dvd-one}
use Rattle.frac128.specs.Fraction.{Fraction, IsLowest}

-- what is left of a division has the same common divisors
left_apart : (a b : ℕ) → IsGcd a b 1 → IsGcd b (a % b) 1
left_apart a b g = (one-dvd b, one-dvd (a % b), λ d u v. g.2 d ((dvd-mod_iff d u).0 v) u)

-- by Euclid's algorithm: where a and b have no common divisor but 1, what divides a c and b c divides c
divides-common : (fuel a b c d : ℕ) → b < fuel → IsGcd a b 1 → d ∣ a * c → d ∣ b * c → d ∣ c
divides-common zero a b c d h g u v = absurd (omega arith)
divides-common (suc fuel) a zero c d h g u v = subst (λ n. d ∣ n) (alone a c (eq-one_of_dvd-one (g.2 a (dvd_refl a) (dvd-zero a)))) u
  where
    alone : (a c : ℕ) → a ≡ 1 → a * c ≡ c
    alone a c e = ap (λ n. n * c) e ∙ omega arith
divides-common (suc fuel) a (suc b) c d h g u v =
    divides-common fuel (suc b) (a % suc b) c d (smaller (a % suc b) b fuel (mod-lt a (omega arith)) h) (left_apart a (suc b) g) v
    (subst (λ n. d ∣ n) (rest a (suc b) c) (dvd-sub d u (dvd-mul_right_of_dvd d v (a / suc b))))
  where
    smaller : (r b fuel : ℕ) → r < suc b → suc b < suc fuel → r < fuel
    smaller r b fuel h k = omega arith

    split : (q b r c a : ℕ) → q * b + r ≡ a → a * c - b * c * q ≡ r * c
    split q b r c a e = let k : (q * b + r) * c ≡ a * c = ap (λ t. t * c) e in omega (arith, k)

    rest : (a b c : ℕ) → a * c - b * c * (a / b) ≡ a % b * c
    rest a b c = split (a / b) b (a % b) c a (div-add-mod' a b)

abs-times : (a : ℤ) (n : ℕ) → nat_abs (a *ℤ pos n) ≡ nat_abs a * n
abs-times (pos a) n = refl
abs-times (negsuc a) n = omega (arith, ints)

-- where f is Y / D, its denominator divides D
pub lowest-divides : (f : Fraction) (D : ℕ) (Y : ℤ) → IsLowest f → f.num *ℤ pos D ≡ Y *ℤ pos f.den → f.den ∣ D
lowest-divides f D Y h e =
    let same : nat_abs f.num * D ≡ nat_abs Y * f.den = sym (abs-times f.num D) ∙ ap nat_abs e ∙ abs-times Y f.den in
    divides-common (suc f.den) (nat_abs f.num) f.den D f.den (omega arith) h.apart
    (subst (λ n. f.den ∣ n) (sym same) (dvd-mul_left f.den (nat_abs Y))) (dvd-mul_right f.den D)
