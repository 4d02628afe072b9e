-- The places of the variables at rest, and what the separations say to them.
use Rattle.std.specs.Prelude.{◌≡◌, ◌≢◌, ℕ, ◌<◌, ◌≤◌, ℤ, pos, ◌+ℤ◌, ◌*ℤ◌, ◌<ℤ◌, ◌≤ℤ◌, nat_abs, Bool, true, false, List, length, slice_index_or, Option, None, Some, ◌⊎◌, MatchBool, All, Contains}
use Rattle.units.specs.declared.geometry.Sep.{Sep}
use Rattle.units.specs.Problem.{Problem}
use Rattle.solver_law.specs.Forest.{Joins}
use Rattle.block_sums.specs.declared.legs.Leg.{Leg}
use Rattle.units.specs.Separation.{separation_at}
use Rattle.block_sums.specs.Legs.{leg_at, variable_at}
use Rattle.block_sums.specs.Loads.{load_at}
use Rattle.block_sums.specs.Solving.{givens_of, Active, IsSweep, IsBounded}
use Rattle.vpsc_solve.specs.declared.places.Place.{Place}
use Rattle.vpsc_solve.specs.declared.violations.Violation.{Violation}

-- a place where there is none
abbrev pub no_place : Place
no_place = record { num = pos 0; den = pos 0 }

-- the place of a variable
abbrev pub place_at : List Place → ℕ → Place
place_at places i = slice_index_or places i no_place

-- whether a variable has got its place
abbrev pub is_settled : List Bool → ℕ → Bool
is_settled settled i = slice_index_or settled i false

-- the place over the weight of its block, so small that cross products fit
pub record IsSmallPlace (place : Place) : Type 0 where
  pub above : pos 0 <ℤ place.den
  pub weight : nat_abs place.den ≤ 258000
  pub near : nat_abs place.num ≤ 133128000000000

-- the place that the sums of a block give to the variable of a leg
pub record IsLegPlace (legs : List Leg) (weights moments : List ℤ) (j : ℕ) (place : Place) : Type 0 where
  pub num : place.num ≡ load_at moments 0 +ℤ load_at weights 0 *ℤ (leg_at legs j).offset
  pub den : place.den ≡ load_at weights 0

-- the place of the variable i is the one that the sums of its block give
pub record IsPlaced (problem : Problem) (active : List ℕ) (i : ℕ) (place : Place) : Type 0 where
  pub root : ℕ
  pub legs : List Leg
  pub weights : List ℤ
  pub moments : List ℤ
  pub sums : IsSweep problem active root legs weights moments
  pub bounded : IsBounded legs weights moments
  pub heavy : pos 0 <ℤ load_at weights 0
  pub within : All (λ leg. leg.variable < length problem.desired) legs
  pub number : ℕ
  pub among : number < length legs
  pub is : variable_at legs number ≡ i
  pub stands : IsLegPlace legs weights moments number place

-- each variable has the place of its block
pub record ArePlaced (problem : Problem) (active : List ℕ) (places : List Place) : Type 0 where
  pub as_long : length places ≡ length problem.desired
  pub each : (i : ℕ) → i < length problem.desired → IsPlaced problem active i (place_at places i)

-- active separations join the variable to one of the list
pub record IsJoinedTo (problem : Problem) (active roots : List ℕ) (i : ℕ) : Type 0 where
  pub root : ℕ
  pub among : Contains roots root
  pub joins : Joins (givens_of problem).l (givens_of problem).r (Active active) root i

-- the variables that are settled have their places, all that are joined to one of them are settled, and the others have
-- the places of before
pub record AreSettled (problem : Problem) (active : List ℕ) (before places : List Place) (settled : List Bool) : Type 0 where
  pub placed : (i : ℕ) → i < length problem.desired → is_settled settled i ≡ true → IsPlaced problem active i (place_at places i)
  pub closed : (i j : ℕ) → is_settled settled i ≡ true → Joins (givens_of problem).l (givens_of problem).r (Active active) i j → is_settled settled j ≡ true
  pub rest : (i : ℕ) → is_settled settled i ≡ false → place_at places i ≡ place_at before i

-- the variable of one of the legs below n has its place
pub record IsPutAt (legs : List Leg) (weights moments : List ℤ) (n : ℕ) (places : List Place) (settled : List Bool) (i : ℕ) : Type 0 where
  pub number : ℕ
  pub among : number < n
  pub is : variable_at legs number ≡ i
  pub stands : IsLegPlace legs weights moments number (place_at places i)
  pub settled_now : is_settled settled i ≡ true

-- nothing changed at the variable, and it is that of no leg below n
pub record IsLeftAlone (legs : List Leg) (n : ℕ) (before places : List Place) (was settled : List Bool) (i : ℕ) : Type 0 where
  pub place : place_at places i ≡ place_at before i
  pub mark : is_settled settled i ≡ is_settled was i
  pub apart : (j : ℕ) → j < n → variable_at legs j ≢ i

-- the variables of the legs below n have their places, and the others are left alone
abbrev pub ArePut : List Leg → List ℤ → List ℤ → ℕ → List Place → List Place → List Bool → List Bool → Type 0
ArePut legs weights moments n before places was settled =
    (i : ℕ) → IsPutAt legs weights moments n places settled i ⊎ IsLeftAlone legs n before places was settled i

-- ---- violations

-- what the right end of a separation has to reach, over the denominators of both ends
abbrev pub wanted : Sep → Place → Place → ℤ
wanted sep left right = (left.num +ℤ sep.gap *ℤ left.den) *ℤ right.den

-- where it stands, over the same
abbrev pub actual : Place → Place → ℤ
actual left right = right.num *ℤ left.den

-- how two places violate a separation, if they do: false where they stand too near, true where an exact one's stand too far apart
abbrev pub IsBroken : Sep → Place → Place → Option Bool → Type 0
IsBroken sep left right None = MatchBool sep.exact (wanted sep left right ≡ actual left right) (wanted sep left right ≤ℤ actual left right)
IsBroken sep left right (Some false) = actual left right <ℤ wanted sep left right
IsBroken sep left right (Some true) = (sep.exact ≡ true) × (wanted sep left right <ℤ actual left right)

-- the same for the separation of a number
abbrev pub IsBrokenAt : Problem → List Place → ℕ → Option Bool → Type 0
IsBrokenAt problem places k how =
    IsBroken (separation_at problem.separations k) (place_at places (separation_at problem.separations k).left) (place_at places (separation_at problem.separations k).right) how

-- the first separation that the places violate, and how; None where they satisfy all
abbrev pub IsFirstBroken : Problem → List Place → Option Violation → Type 0
IsFirstBroken problem places None = (k : ℕ) → k < length problem.separations → IsBrokenAt problem places k None
IsFirstBroken problem places (Some v) =
    (v.sep < length problem.separations) × IsBrokenAt problem places v.sep (Some v.above)
    × ((k : ℕ) → k < v.sep → IsBrokenAt problem places k None)
