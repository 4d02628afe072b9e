-- A number that each weight of a block divides.
use Rattle.std.proofs.Common.{◌≡◌, ℕ, zero, suc, ◌*◌, ◌<◌, ◌≤◌, arith, ap, ◌≢◌, Bool, true, false, eqb, eqb-true, refl}
use Rattle.std.proofs.lemmas.Bool.{eqb-false}

-- opaque, so that no check computes one
unfoldable pub factorial : ℕ → ℕ
factorial zero = 1
factorial (suc n) = suc n * factorial n

-- d divides n
pub record Divides (d n : ℕ) : Type 0 where
  pub other : ℕ
  pub product : d * other ≡ n

-- each number up to n divides n!
pub divides-factorial : (n d : ℕ) → 0 < d → d ≤ n → Divides d (factorial n)
unfolding factorial
divides-factorial zero d above below = absurd (omega arith)
divides-factorial (suc n) d above below = by_case (divides-factorial n d above) (eqb d (suc n)) refl
  where
    moved : (d c n f : ℕ) → d * c ≡ f → d * (suc n * c) ≡ suc n * f
    moved d c n f e = let g = ap (λ t. suc n * t) e in omega (arith, g)

    smaller : (d n : ℕ) → d ≤ suc n → d ≢ suc n → d ≤ n
    smaller d n h ne = omega arith

    by_case : (d ≤ n → Divides d (factorial n)) → (b : Bool) → eqb d (suc n) ≡ b → Divides d (factorial (suc n))
    by_case rest true e = record { other = factorial n; product = ap (λ t. t * factorial n) (eqb-true d (suc n) e) }
    by_case rest false e =
        let r = rest (smaller d n below (eqb-false d (suc n) e)) in
        record { other = suc n * r.other; product = moved d r.other n (factorial n) r.product }

pub factorial-above : (n : ℕ) → 0 < factorial n
unfolding factorial
factorial-above zero = omega arith
factorial-above (suc n) = let h = factorial-above n in omega (arith, h)
