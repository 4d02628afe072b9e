-- Sums over the numbers below a bound, and whole square roots.
use Rattle.std.specs.Prelude.{ℕ, zero, suc, ◌+◌, ◌*◌, ℤ, pos, ◌+ℤ◌, Bool, nat_le, if◌then◌else◌}

-- f 0 + f 1 + .. + f (n - 1)
abbrev pub sum_below : (ℕ → ℕ) → ℕ → ℕ
sum_below f zero = 0
sum_below f (suc n) = sum_below f n + f n

-- the same for numbers with a sign
abbrev pub total_below : (ℕ → ℤ) → ℕ → ℤ
total_below f zero = pos 0
total_below f (suc n) = total_below f n +ℤ f n

-- the greatest number up to n that passes, 0 where none does
unfoldable pub greatest_up_to : (ℕ → Bool) → ℕ → ℕ
greatest_up_to passes zero = 0
greatest_up_to passes (suc n) = if passes (suc n) then suc n else greatest_up_to passes n

-- the whole square root: the greatest number whose square is at most v
unfoldable pub root : ℕ → ℕ
root v = greatest_up_to (λ s. nat_le (s * s) v) v
