-- Counts that stay at their last value.
use Rattle.std.proofs.Common.{◌≡◌, ℕ, ◌+◌, ◌≤◌, arith}
use Rattle.byte_edge.specs.Count.{count_on, last_count}

-- m more and then n more
pub count_on-add : (count m n : ℕ) → count_on (count_on count m) n ≡ count_on count (m + n)
count_on-add count m n = grind arith

-- within the last value a count is a sum
pub count_on_within : (count n : ℕ) → count + n ≤ last_count → count_on count n ≡ count + n
count_on_within count n fits = grind arith
