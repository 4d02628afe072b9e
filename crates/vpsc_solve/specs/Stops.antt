-- What a stop of a closing leaves.
use Rattle.std.specs.Prelude.{◌≡◌, ℕ, ◌*◌, ◌<◌, ℤ, pos, Bool, true, false, List, length, Option, None, Some, ◌⊎◌, ◌*ℤ◌, ◌<ℤ◌, ◌≤ℤ◌, All, Contains, MatchBool}
use Rattle.units.specs.Problem.{Problem}
use Rattle.units.specs.Separation.{SatisfiesAll}
use Rattle.solver_law.specs.State.{Givens, Point}
use Rattle.solver_law.specs.Forest.{Joins, Without}
use Rattle.solver_law.specs.Cost.{cost, lack}
use Rattle.solver_law.specs.Closing.{InClosing, Closed, AtRest}
use Rattle.units.specs.Separation.{separation_at}
use Rattle.block_sums.specs.Solving.{givens_of, Active}
use Rattle.block_sums.specs.Rest.{exact_of, IsRest}
use Rattle.block_sums.specs.declared.stops.Threshold.{Threshold}
use Rattle.vpsc_solve.specs.declared.stops.Stop.{Stop}
use Rattle.vpsc_solve.specs.declared.stops.Stop.TheVariants.{Closes, Falls}

-- v is being closed from some state; bound over F squared is the cost before
pub record NextClosing (p : Givens) (exact : ℕ → Bool) (On : ℕ → Type 0) (v : ℕ) (bound : ℤ) (F : ℕ) : Type 0 where
  pub point : Point
  pub Q : ℕ
  pub closing : InClosing p exact On v bound F point Q

-- v is closed, at some state of larger cost
pub record NextRest (p : Givens) (exact : ℕ → Bool) (On : ℕ → Type 0) (v : ℕ) (bound : ℤ) (F : ℕ) : Type 0 where
  pub point : Point
  pub Q : ℕ
  pub closed : Closed p exact On v bound F point Q

-- the separation v is under way with this active list
abbrev pub IsUnderWay : Problem → (ℕ → Type 0) → ℕ → ℤ → ℕ → Type 0
IsUnderWay problem On v bound F = NextClosing (givens_of problem) (exact_of problem) On v bound F

-- some placement satisfies the separations: whole numbers over one denominator
pub record IsFeasible (problem : Problem) : Type 0 where
  pub places : List ℤ
  pub denominator : ℕ
  pub above : 0 < denominator
  pub satisfied : SatisfiesAll places denominator problem.separations

-- both ends of the separation are in the list
abbrev pub AreTouched : Problem → List ℕ → ℕ → Type 0
AreTouched problem touched k =
    Contains touched (separation_at problem.separations k).left × Contains touched (separation_at problem.separations k).right

-- where a separation is active in one of the lists alone, its ends are among the touched variables
pub record DiffersAt (problem : Problem) (active new touched : List ℕ) : Type 0 where
  pub gone : (k : ℕ) → Active active k → Active new k ⊎ AreTouched problem touched k
  pub come : (k : ℕ) → Active new k → Active active k ⊎ AreTouched problem touched k
  pub within : All (λ i. i < length problem.desired) touched

-- a stop: the separation is closed and joins two blocks, or one that isn't exact falls to 0 and may be dropped
abbrev pub IsStop : Problem → List ℕ → ℕ → Stop → Type 0
IsStop problem active v Closes =
    (Joins (givens_of problem).l (givens_of problem).r (Active active) ((givens_of problem).l v) ((givens_of problem).r v) → ⊥)
    × ((bound : ℤ) (F : ℕ) → 0 < F → IsUnderWay problem (Active active) v bound F → NextRest (givens_of problem) (exact_of problem) (Active active) v bound F)
IsStop problem active v (Falls k) =
    Active active k × (exact_of problem k ≡ false)
    × ((bound : ℤ) (F : ℕ) → IsUnderWay problem (Active active) v bound F → IsUnderWay problem (Without (Active active) k) v bound F)

-- the stop within one block
abbrev pub stop_within : Option Threshold → Stop
stop_within None = Closes
stop_within (Some t) = Falls t.sep

-- the stop between two blocks: the first threshold where it is below the force that closes the gap
abbrev pub IsStopBetween : Option Threshold → Threshold → Stop → Type 0
IsStopBetween None force stop = stop ≡ Closes
IsStopBetween (Some t) force stop =
    ((stop ≡ Falls t.sep) × ((t.rest *ℤ force.fall) <ℤ (force.rest *ℤ t.fall)))
    ⊎ ((stop ≡ Closes) × ((force.rest *ℤ t.fall) ≤ℤ (t.rest *ℤ force.fall)))

-- a state at rest that violates the separation v, and costs bound over F squared: its ends stand too near, or those of an exact
-- one too far apart (above)
pub record IsViolation (problem : Problem) (active : List ℕ) (v : ℕ) (above : Bool) (bound : ℤ) (F : ℕ) : Type 0 where
  pub point : Point
  pub Q : ℕ
  pub rest : IsRest problem active point Q
  pub missing : MatchBool above ((exact_of problem v ≡ true) × (lack (givens_of problem) point v <ℤ pos 0)) (pos 0 <ℤ lack (givens_of problem) point v)
  pub same : pos (Q * Q) *ℤ bound ≡ pos (F * F) *ℤ cost (givens_of problem) point

-- at rest with this active list, at a larger cost than bound over F squared
pub record HasClosed (problem : Problem) (active : List ℕ) (bound : ℤ) (F : ℕ) : Type 0 where
  pub point : Point
  pub Q : ℕ
  pub rest : AtRest (givens_of problem) (exact_of problem) (Active active) point Q
  pub larger : (pos (Q * Q) *ℤ bound) <ℤ (pos (F * F) *ℤ cost (givens_of problem) point)
