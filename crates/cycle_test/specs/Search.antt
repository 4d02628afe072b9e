-- The state of the search: for each variable a value, and a path of arcs that shows how it came to it.
use Rattle.std.specs.Prelude.{◌≡◌, ℕ, ◌<◌, ℤ, pos, ◌+ℤ◌, ◌≤ℤ◌, List, [], ◌∷◌, ◌++◌, length, map, nat_eq, slice_index_or}
use Rattle.std.specs.List.{IsDistinct, sum_by}
use Rattle.units.specs.declared.geometry.Sep.{Sep}
use Rattle.cycle_test.specs.declared.arc.CycleArc.{CycleArc}
use Rattle.cycle_test.specs.declared.reach.Reach.{Reach}
use Rattle.cycle_test.specs.declared.reach.Relaxation.{Relaxation}
use Rattle.cycle_test.specs.declared.reach.Relaxation.TheVariants.{AtRest, Raised, Cycle}
use Rattle.cycle_test.specs.Cycle.{IsArc, start_of, end_of, gap_of, starts, IsPositiveCycle}

-- how the variable was reached; past the end, not at all
abbrev pub reach_at : List Reach → ℕ → Reach
reach_at reaches v = slice_index_or reaches v (record { value = 0; path = [] })

-- the present value of a variable
abbrev pub value_at : List Reach → ℕ → ℕ
value_at reaches v = (reach_at reaches v).value

-- what an arc asks the value at its end to be, at least: the value at its start and its gap
abbrev pub asked_by : List Sep → List Reach → CycleArc → ℤ
asked_by seps reaches arc = pos (value_at reaches (start_of seps arc)) +ℤ gap_of seps arc

-- the value at the end of an arc is at least what the arc asks for
abbrev pub IsContent : List Sep → List Reach → CycleArc → Type 0
IsContent seps reaches arc = asked_by seps reaches arc ≤ℤ pos (value_at reaches (end_of seps arc))

-- the values as places
abbrev pub values : List Reach → List ℤ
values reaches = map (λ (reach : Reach). pos reach.value) reaches

-- what all values add up to
abbrev pub value_sum : List Reach → ℕ
value_sum reaches = sum_by (λ (reach : Reach). reach.value) reaches

-- arcs that lead from one variable to another while the sum goes from low to high; where an arc starts, the sum so far is at most
-- the present value there
abbrev pub Climbs : List Sep → List Reach → ℕ → ℤ → List CycleArc → ℕ → ℤ → Type 0
Climbs seps reaches from low [] to high = (from ≡ to) × (low ≡ high)
Climbs seps reaches from low (arc ∷ arcs) to high =
    IsArc seps arc × (start_of seps arc ≡ from) × (low ≤ℤ pos (value_at reaches from))
    × Climbs seps reaches (end_of seps arc) (low +ℤ gap_of seps arc) arcs to high

-- a variable's value is the sum of the gaps on its path, which visits no variable twice
pub record IsReached (seps : List Sep) (reaches : List Reach) (v : ℕ) : Type 0 where
  pub climbs : (root : ℕ) × Climbs seps reaches root (pos 0) (reach_at reaches v).path v (pos (value_at reaches v))
  pub simple : IsDistinct nat_eq (starts seps (reach_at reaches v).path ++ v ∷ [])

-- every variable is so reached
abbrev pub IsState : List Sep → List Reach → Type 0
IsState seps reaches = (v : ℕ) → v < length reaches → IsReached seps reaches v

-- the state after a value was raised
pub record IsRaised (seps : List Sep) (old new : List Reach) : Type 0 where
  pub same_length : length new ≡ length old
  pub state : IsState seps new
  pub more : value_sum old < value_sum new

-- what a relaxation came to: nothing changed and what was tried is at rest, or some value rose, or here is a positive cycle
abbrev pub IsRelaxation : List Sep → List Reach → List Reach → Type 0 → Relaxation → Type 0
IsRelaxation seps old new Rests AtRest = (new ≡ old) × Rests
IsRelaxation seps old new Rests Raised = IsRaised seps old new
IsRelaxation seps old new Rests (Cycle arcs) = IsPositiveCycle seps arcs
