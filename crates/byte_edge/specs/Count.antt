-- Counts that can run for ever: they stop at the last value of their type.
use Rattle.std.specs.Prelude.{ℕ, ◌+◌, ◌<◌, ◌≤◌, ◌^◌, ◌-◌, ◌⊎◌, min, max}

-- the last value of a count
abbrev pub last_count : ℕ
last_count = 2 ^ 64 - 1

-- the count after n more: it goes on up to its last value, and stays there
abbrev pub count_on : ℕ → ℕ → ℕ
count_on count n = max count (min (count + n) last_count)

-- the count rose by more than a limit, or it stands at its last value, where no rise shows
abbrev pub HasRisenPast : ℕ → ℕ → ℕ → Type 0
HasRisenPast limit old new = (old + limit < new) ⊎ (last_count ≤ new)

-- the count rose, or it stands at its last value
abbrev pub HasRisen : ℕ → ℕ → Type 0
HasRisen old new = HasRisenPast 0 old new
