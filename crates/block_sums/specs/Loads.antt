-- What the legs of a tree carry: each its own load and those of the legs that hang on it.
use Rattle.std.specs.Prelude.{◌≡◌, ℕ, ◌<◌, ◌+◌, ℤ, pos, ◌+ℤ◌, ◌-ℤ◌, ◌*ℤ◌, nat_abs, neg_ℤ, if◌then◌else◌, ◌==◌, List, [], ◌∷◌, length, slice_index, slice_index_or, drop}
use Rattle.units.specs.Problem.{Problem}
use Rattle.solver_law.specs.State.{put_at}
use Rattle.block_sums.specs.declared.legs.Leg.{Leg}

-- the load of a leg
abbrev pub load_at : List ℤ → ℕ → ℤ
load_at loads j = slice_index_or loads j (pos 0)

-- what hangs on the leg j
abbrev pub hanging : List Leg → List ℤ → ℕ → ℤ
hanging [] loads j = pos 0
hanging (leg ∷ legs) [] j = pos 0
hanging (leg ∷ legs) (load ∷ loads) j = put_at leg.parent load j +ℤ hanging legs loads j

-- the sum of a list
abbrev pub sum_of : List ℤ → ℤ
sum_of [] = pos 0
sum_of (x ∷ xs) = x +ℤ sum_of xs

-- the sum of the sizes
abbrev pub sizes : List ℤ → ℕ
sizes [] = 0
sizes (x ∷ xs) = nat_abs x + sizes xs

-- each leg carries its own load and what hangs on it
pub record IsGathered (legs : List Leg) (own loads : List ℤ) : Type 0 where
  pub as_long : length loads ≡ length legs
  pub each : (j : ℕ) → j < length legs → load_at loads j ≡ load_at own j +ℤ hanging (drop 1 legs) (drop 1 loads) j

-- the weight of the variable of a leg
abbrev pub weight_of : Problem → Leg → ℤ
weight_of problem leg = pos (slice_index problem.weights leg.variable)

-- the weight times the place that the variable of a leg desires for the root
abbrev pub moment_of : Problem → Leg → ℤ
moment_of problem leg = (slice_index_or problem.desired leg.variable (pos 0) -ℤ leg.offset) *ℤ pos (slice_index problem.weights leg.variable)

-- 1 at the right end of a separation that is being closed, -1 at its left end
abbrev pub mark_of : ℕ → ℕ → Leg → ℤ
mark_of left right leg = if leg.variable == right then pos 1 else (if leg.variable == left then neg_ℤ (pos 1) else pos 0)
