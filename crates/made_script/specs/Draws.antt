-- Numbers that are drawn: a linear congruential generator modulo 2^64, with Knuth's constants for his MMIX.
use Rattle.std.specs.Prelude.{ℕ, zero, suc, ◌+◌, ◌*◌, ◌/◌, ◌%◌, ◌^◌, ℤ, pos, ◌-ℤ◌}

-- the state after this one
unfoldable pub next : ℕ → ℕ
next state = (state * 6364136223846793005 + 1442695040888963407) % 2 ^ 64

-- the state after so many draws
abbrev pub after : ℕ → ℕ → ℕ
after zero state = state
after (suc n) state = after n (next state)

-- the number below m that is drawn where a draw leads to this state: the upper bits decide
abbrev pub drawn : ℕ → ℕ → ℕ
drawn state m = (state / 2 ^ 33) % m

-- a place that is drawn, within 1,000 diagram units of 0
abbrev pub place_drawn : ℕ → ℤ
place_drawn state = pos (drawn state 2001) -ℤ pos 1000
