-- Chains of separations, the blocks that they join, and what the sums over a block mean.
use Rattle.std.specs.Prelude.{◌≡◌, ◌≢◌, ◌↔◌, ℕ, ◌<◌, ◌==◌, ℤ, pos, ◌+ℤ◌, ◌-ℤ◌, ◌*ℤ◌, not, List, [], ◌∷◌, length, map, filter, slice_index, slice_index_or, All, AllPairs, Contains}
use Rattle.units.specs.declared.geometry.Sep.{Sep}
use Rattle.units.specs.Problem.{Problem}
use Rattle.frac128.specs.Fraction.{Fraction, IsLowest}
use Rattle.block_sums.specs.declared.paths.Step.{Step}
use Rattle.units.specs.Separation.{separation_at}
use Rattle.block_sums.specs.Ends.{end_of}
use Rattle.block_sums.specs.declared.legs.Leg.{Leg}
use Rattle.block_sums.specs.Legs.{stride, IsReached}
use Rattle.block_sums.specs.Loads.{sum_of}

-- ---- chains

-- the variable at which a step begins
abbrev pub start_of : List Sep → Step → ℕ
start_of separations step = end_of (separation_at separations step.sep) (not step.along)

-- the variable to which it leads
abbrev pub finish_of : List Sep → Step → ℕ
finish_of separations step = end_of (separation_at separations step.sep) step.along

-- the steps lead from one variable to another
abbrev pub Leads : List Sep → List Step → ℕ → ℕ → Type 0
Leads separations [] from to = from ≡ to
Leads separations (step ∷ steps) from to = (start_of separations step ≡ from) × Leads separations steps (finish_of separations step) to

-- how far the end of a walk stands behind its beginning where its separations are tight, in diagram units
abbrev pub distance : List Sep → List Step → ℤ
distance separations [] = pos 0
distance separations (step ∷ steps) = stride (separation_at separations step.sep) step.along +ℤ distance separations steps

-- a chain goes from variable to variable by separations of the list, forwards or backwards, each at most once
pub record IsChain (separations : List Sep) (active : List ℕ) (from to : ℕ) (steps : List Step) : Type 0 where
  pub leads : Leads separations steps from to
  pub on : All (λ step. Contains active step.sep) steps
  pub once : AllPairs (λ one other. one.sep ≢ other.sep) steps

-- the numbers of the list are those of separations of the problem and differ, and no chain of one separation or more ends where it starts
pub record IsOpen (problem : Problem) (active : List ℕ) : Type 0 where
  pub below : All (λ k. k < length problem.separations) active
  pub differ : AllPairs (λ k other. k ≢ other) active
  pub none_closes : (v : ℕ) (step : Step) (steps : List Step) → IsChain problem.separations active v v (step ∷ steps) → ⊥

-- ---- blocks

-- some chain goes from one variable to another
pub record AreJoined (problem : Problem) (active : List ℕ) (from to : ℕ) : Type 0 where
  pub steps : List Step
  pub chain : IsChain problem.separations active from to steps

-- the variables that chains join to v, itself among them
abbrev pub AreThoseJoined : Problem → List ℕ → ℕ → List ℕ → Type 0
AreThoseJoined problem active v variables = (i : ℕ) → Contains variables i ↔ AreJoined problem active v i

-- the block of v, rising
pub record IsBlock (problem : Problem) (active : List ℕ) (v : ℕ) (variables : List ℕ) : Type 0 where
  pub rising : AllPairs (λ i j. i < j) variables
  pub joined : AreThoseJoined problem active v variables

-- the block of v, each variable once, in some order
pub record ListsBlock (problem : Problem) (active : List ℕ) (v : ℕ) (variables : List ℕ) : Type 0 where
  pub once : AllPairs (λ i j. i ≢ j) variables
  pub joined : AreThoseJoined problem active v variables

-- a variable stands so far behind v: the distance along a chain between them
pub record IsOffset (problem : Problem) (active : List ℕ) (v i : ℕ) (offset : ℤ) : Type 0 where
  pub steps : List Step
  pub chain : IsChain problem.separations active v i steps
  pub far : offset ≡ distance problem.separations steps

-- ---- sums

-- the weight of a variable
abbrev pub weight_at : Problem → ℕ → ℤ
weight_at problem i = pos (slice_index problem.weights i)

-- the desired place of a variable, in diagram units
abbrev pub desired_at : Problem → ℕ → ℤ
desired_at problem i = slice_index_or problem.desired i (pos 0)

-- the weight of the block of v: the sum of the weights of its variables
pub record IsWeight (problem : Problem) (active : List ℕ) (v : ℕ) (weight : ℤ) : Type 0 where
  pub variables : List ℕ
  pub block : ListsBlock problem active v variables
  pub is : weight ≡ sum_of (map (weight_at problem) variables)

-- the weight of the block of v, and its moment: the sum of (d - offset) w over its variables, the places that they wish for v
pub record HasSums (problem : Problem) (active : List ℕ) (v : ℕ) (weight moment : ℤ) : Type 0 where
  pub variables : List ℕ
  pub block : ListsBlock problem active v variables
  pub offset : ℕ → ℤ
  pub offsets : (i : ℕ) → Contains variables i → IsOffset problem active v i (offset i)
  pub weighs : weight ≡ sum_of (map (weight_at problem) variables)
  pub wishes : moment ≡ sum_of (map (λ i. (desired_at problem i -ℤ offset i) *ℤ weight_at problem i) variables)

-- the best place of v, at which its block costs least (the place of a block in the VPSC problem): its moment over its weight
pub record IsMean (problem : Problem) (active : List ℕ) (v : ℕ) (mean : Fraction) : Type 0 where
  pub weight : ℤ
  pub moment : ℤ
  pub sums : HasSums problem active v weight moment
  pub is : mean.num *ℤ weight ≡ moment *ℤ pos mean.den
  pub lowest : IsLowest mean

-- the list with one separation left out
abbrev pub without : List ℕ → ℕ → List ℕ
without active k = filter (λ other. not (other == k)) active

-- the multiplier of the separation k with its block at its best place: it balances the side of its right end. So it is the sum over
-- the side of twice the weight of each variable times how far it stands from its desired place; the right end stands at moment / weight
pub record IsPull (problem : Problem) (active : List ℕ) (k : ℕ) (pull : Fraction) : Type 0 where
  pub weight : ℤ
  pub moment : ℤ
  pub sums : HasSums problem active (separation_at problem.separations k).right weight moment
  pub side : List ℕ
  pub block : ListsBlock problem (without active k) (separation_at problem.separations k).right side
  pub offset : ℕ → ℤ
  pub offsets : (i : ℕ) → Contains side i → IsOffset problem (without active k) (separation_at problem.separations k).right i (offset i)
  pub is : pull.num *ℤ weight ≡ sum_of (map (λ i. (pos 2 *ℤ weight_at problem i) *ℤ (moment +ℤ (offset i -ℤ desired_at problem i) *ℤ weight)) side) *ℤ pos pull.den
  pub lowest : IsLowest pull

-- ---- as the program goes

-- the variables below the count that are reached, rising
pub record IsFound (legs : List Leg) (count : ℕ) (variables : List ℕ) : Type 0 where
  pub rising : AllPairs (λ i j. i < j) variables
  pub below : All (λ i. i < count) variables
  pub only : All (IsReached legs) variables
  pub each : (i : ℕ) → i < count → IsReached legs i → Contains variables i
