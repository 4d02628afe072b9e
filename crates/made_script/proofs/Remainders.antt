-- The next state, as the machine's product and sum wrap.
use Rattle.std.proofs.Common.{◌≡◌, ℕ, ◌+◌, ◌*◌, ◌%◌, ◌^◌}
use Rattle.std.proofs.Math.Nat.{mod-add-mod}
use Rattle.made_script.specs.Draws.{next}

pub next_law : (state : ℕ) → ((state * 6364136223846793005) % 2 ^ 64 + 1442695040888963407) % 2 ^ 64 ≡ next state
unfolding next
next_law state = mod-add-mod (state * 6364136223846793005) (2 ^ 64) 1442695040888963407
