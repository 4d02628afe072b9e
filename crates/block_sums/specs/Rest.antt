-- States at rest of a problem with a list of active separations.
use Rattle.std.specs.Prelude.{◌≡◌, ℕ, ◌<◌, pos, Bool, List, length, MatchBool, ◌≤ℤ◌}
use Rattle.units.specs.Problem.{Problem}
use Rattle.solver_law.specs.State.{Point}
use Rattle.solver_law.specs.Closing.{AtRest}
use Rattle.solver_law.specs.Cost.{lack}
use Rattle.units.specs.Separation.{separation_at}
use Rattle.block_sums.specs.Solving.{givens_of, Active}

-- whether a separation is exact, by its number
abbrev pub exact_of : Problem → ℕ → Bool
exact_of problem k = (separation_at problem.separations k).exact

-- the point, over Q, is a state at rest with this active list
abbrev pub IsRest : Problem → List ℕ → Point → ℕ → Type 0
IsRest problem active point Q = AtRest (givens_of problem) (exact_of problem) (Active active) point Q

-- the active list has a state at rest
pub record HasRest (problem : Problem) (active : List ℕ) : Type 0 where
  pub point : Point
  pub Q : ℕ
  pub rest : IsRest problem active point Q

-- the places of the point satisfy the separation k
abbrev pub IsKept : Problem → Point → ℕ → Type 0
IsKept problem point k = MatchBool (exact_of problem k) (lack (givens_of problem) point k ≡ pos 0) (lack (givens_of problem) point k ≤ℤ pos 0)

-- the active list has a state at rest whose places satisfy all separations
pub record IsSolved (problem : Problem) (active : List ℕ) : Type 0 where
  pub point : Point
  pub Q : ℕ
  pub rest : IsRest problem active point Q
  pub kept : (k : ℕ) → k < length problem.separations → IsKept problem point k
