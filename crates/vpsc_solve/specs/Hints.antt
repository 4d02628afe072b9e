-- The first active list of a start from a hint: which separations are taken, and which are dropped since they would pull.
use Rattle.std.specs.Prelude.{◌≡◌, ℕ, ◌<◌, ℤ, pos, ◌<ℤ◌, ◌≤ℤ◌, Bool, true, false, if◌then◌else◌, ◌==◌, List, [], ◌∷◌, ◌++◌, length, filter, not, slice_index, Option, None, Some, ◌⊎◌}
use Rattle.units.specs.declared.geometry.Sep.{Sep}
use Rattle.units.specs.Problem.{Problem}
use Rattle.units.specs.Separation.{separation_at}
use Rattle.solver_law.specs.State.{Point}
use Rattle.solver_law.specs.Forest.{Joins}
use Rattle.block_sums.specs.declared.legs.Leg.{Leg}
use Rattle.block_sums.specs.Legs.{leg_at, variable_at, IsReached}
use Rattle.block_sums.specs.Solving.{givens_of, Active, IsResting, rest_at}
use Rattle.block_sums.specs.Rest.{exact_of}
use Rattle.vpsc_solve.specs.declared.dropping.Fallen.{Fallen}
use Rattle.vpsc_solve.specs.Places.{is_settled}

-- ---- labels

-- the label of a variable
abbrev pub label_at : List ℕ → ℕ → ℕ
label_at labels i = slice_index labels i

-- a label, where one takes the place of another
abbrev pub relabelled : ℕ → ℕ → ℕ → ℕ
relabelled from to label = if label == from then to else label

-- chains of separations of the list join two variables
abbrev pub AreJoined : Problem → List ℕ → ℕ → ℕ → Type 0
AreJoined problem active a b = Joins (givens_of problem).l (givens_of problem).r (Active active) a b

-- each variable has a label, the ends of an active separation have the same, and those of one label are joined
pub record AreLabelled (problem : Problem) (active labels : List ℕ) : Type 0 where
  pub as_long : length labels ≡ length problem.desired
  pub ends : (k : ℕ) → Active active k → label_at labels (separation_at problem.separations k).left ≡ label_at labels (separation_at problem.separations k).right
  pub joined : (a b : ℕ) → a < length problem.desired → b < length problem.desired → label_at labels a ≡ label_at labels b → AreJoined problem active a b

-- ---- the separations of a hint

-- a number of a hint: it is taken where it is that of a separation whose ends those taken before don't join, and passed over else
abbrev pub IsTaken : Problem → List ℕ → ℕ → List ℕ → Type 0
IsTaken problem before number after =
    ((number < length problem.separations) × (AreJoined problem before (separation_at problem.separations number).left (separation_at problem.separations number).right → ⊥) × (after ≡ before ++ number ∷ []))
    ⊎ ((number < length problem.separations → AreJoined problem before (separation_at problem.separations number).left (separation_at problem.separations number).right) × (after ≡ before))

-- the numbers of a hint, in order
abbrev pub AreTaken : Problem → List ℕ → List ℕ → List ℕ → Type 0
AreTaken problem before [] after = after ≡ before
AreTaken problem before (number ∷ hint) after = (next : List ℕ) × IsTaken problem before number next × AreTaken problem next hint after

-- ---- multipliers below 0

-- the separation of a leg isn't exact, and its multiplier is below 0 at rest
pub record IsNegative (seps : List Sep) (legs : List Leg) (weights moments : List ℤ) (j : ℕ) : Type 0 where
  pub above : 0 < j
  pub among : j < length legs
  pub loose : (separation_at seps (leg_at legs j).sep).exact ≡ false
  pub below : rest_at legs weights moments j <ℤ pos 0

-- its number, and its multiplier times the weight of the block
pub record IsOfLeg (seps : List Sep) (legs : List Leg) (weights moments : List ℤ) (j : ℕ) (fallen : Fallen) : Type 0 where
  pub negative : IsNegative seps legs weights moments j
  pub number : fallen.sep ≡ (leg_at legs j).sep
  pub value : fallen.rest ≡ rest_at legs weights moments j

-- what a look at one leg finds
abbrev pub IsFallenAt : List Sep → List Leg → List ℤ → List ℤ → ℕ → Option Fallen → Type 0
IsFallenAt seps legs weights moments j None = IsNegative seps legs weights moments j → ⊥
IsFallenAt seps legs weights moments j (Some fallen) = IsOfLeg seps legs weights moments j fallen

-- the lower of two that may be there
abbrev pub IsLower : Option Fallen → Option Fallen → Option Fallen → Type 0
IsLower None second result = result ≡ second
IsLower (Some one) None result = result ≡ Some one
IsLower (Some one) (Some other) result = ((result ≡ Some one) × (one.rest ≤ℤ other.rest)) ⊎ ((result ≡ Some other) × (other.rest <ℤ one.rest))

-- the least of the legs below the number: none where no multiplier is below 0
abbrev pub IsLeastOf : List Sep → List Leg → List ℤ → List ℤ → ℕ → Option Fallen → Type 0
IsLeastOf seps legs weights moments n None = (j : ℕ) → j < n → IsNegative seps legs weights moments j → ⊥
IsLeastOf seps legs weights moments n (Some fallen) =
    ((j : ℕ) × (j < n) × IsOfLeg seps legs weights moments j fallen)
    × ((j : ℕ) → j < n → IsNegative seps legs weights moments j → fallen.rest ≤ℤ rest_at legs weights moments j)

-- its number
abbrev pub number_of : Option Fallen → Option ℕ
number_of None = None
number_of (Some fallen) = Some fallen.sep

-- ---- one block after another

-- the variables of the legs below n are marked, and no others than before
pub record AreMarked (legs : List Leg) (n : ℕ) (was seen : List Bool) : Type 0 where
  pub as_long : length seen ≡ length was
  pub marked : (j : ℕ) → j < n → is_settled seen (variable_at legs j) ≡ true
  pub still : (i : ℕ) → is_settled was i ≡ true → is_settled seen i ≡ true
  pub known : (i : ℕ) → is_settled seen i ≡ true → (is_settled was i ≡ true) ⊎ IsReached legs i

-- in every state at rest the multiplier of the separation is at least 0
abbrev pub IsNotBelow : Problem → List ℕ → ℕ → Type 0
IsNotBelow problem active k = (a : Point) → IsResting problem active a → pos 0 ≤ℤ a.q → pos 0 ≤ℤ a.m k

-- the separation is active and isn't exact, and in every state at rest its multiplier is below 0
pub record HasFallen (problem : Problem) (active : List ℕ) (k : ℕ) : Type 0 where
  pub on : Active active k
  pub loose : exact_of problem k ≡ false
  pub below : (a : Point) → IsResting problem active a → pos 0 <ℤ a.q → a.m k <ℤ pos 0

-- no active separation that isn't exact and whose left end is marked has a multiplier below 0
pub record AreSeen (problem : Problem) (active : List ℕ) (seen : List Bool) : Type 0 where
  pub as_long : length seen ≡ length problem.desired
  pub right : (k : ℕ) → Active active k → is_settled seen (separation_at problem.separations k).left ≡ true → exact_of problem k ≡ false → IsNotBelow problem active k

-- the variable is marked now too
pub record HasSeen (problem : Problem) (active : List ℕ) (root : ℕ) (was seen : List Bool) : Type 0 where
  pub all : AreSeen problem active seen
  pub there : is_settled seen root ≡ true
  pub still : (i : ℕ) → is_settled was i ≡ true → is_settled seen i ≡ true

-- what a look at the block of a variable finds
abbrev pub IsSeen : Problem → List ℕ → ℕ → List Bool → List Bool → Option ℕ → Type 0
IsSeen problem active root was seen None = HasSeen problem active root was seen
IsSeen problem active root was seen (Some k) = HasFallen problem active k

-- what a look at all blocks finds: none where no active separation that isn't exact has a multiplier below 0 at rest
abbrev pub IsFallen : Problem → List ℕ → Option ℕ → Type 0
IsFallen problem active None = (k : ℕ) → Active active k → exact_of problem k ≡ false → IsNotBelow problem active k
IsFallen problem active (Some k) = HasFallen problem active k

-- separations that have fallen are dropped one after the other, those of the list in order, until there is none
abbrev pub AreDropped : Problem → List ℕ → List ℕ → List ℕ → Type 0
AreDropped problem before [] after = (after ≡ before) × IsFallen problem before None
AreDropped problem before (k ∷ ks) after = HasFallen problem before k × AreDropped problem (filter (λ other. not (other == k)) before) ks after

-- the first active list from a hint: what is taken, less what is dropped
pub record IsStart (problem : Problem) (hint active : List ℕ) : Type 0 where
  pub taken : List ℕ
  pub dropped : List ℕ
  pub takes : AreTaken problem [] hint taken
  pub drops : AreDropped problem taken dropped active
