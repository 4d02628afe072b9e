-- The words of the solver over a problem and its active separations.
use Rattle.std.specs.Prelude.{◌≡◌, ℕ, ◌<◌, ◌≤◌, ℤ, pos, neg_ℤ, ◌+ℤ◌, ◌-ℤ◌, ◌*ℤ◌, nat_abs, Bool, if◌then◌else◌, List, length, map, slice_index, slice_index_or, All, Contains}
use Rattle.units.specs.Problem.{Problem}
use Rattle.solver_law.specs.State.{Givens, Point, IsState}
use Rattle.solver_law.specs.Forest.{With, IsForest}
use Rattle.block_sums.specs.declared.legs.Leg.{Leg}
use Rattle.block_sums.specs.declared.sweeps.BlockSums.{BlockSums}
use Rattle.block_sums.specs.declared.sweeps.Pushed.{Pushed}
use Rattle.units.specs.Separation.{separation_at}
use Rattle.block_sums.specs.Legs.{IsBlockTree, leg_at, variable_at}
use Rattle.block_sums.specs.Loads.{load_at, IsGathered, weight_of, moment_of, mark_of}

-- the numbers of a problem, by index
abbrev pub givens_of : Problem → Givens
givens_of problem = record {
  n = length problem.desired;
  s = length problem.separations;
  w = λ i. pos (slice_index problem.weights i);
  d = λ i. slice_index_or problem.desired i (pos 0);
  l = λ k. (separation_at problem.separations k).left;
  r = λ k. (separation_at problem.separations k).right;
  g = λ k. (separation_at problem.separations k).gap;
}

abbrev pub Active : List ℕ → ℕ → Type 0
Active active k = Contains active k

-- the active separations are some of the problem, and each alone joins its ends
pub record IsActive (problem : Problem) (active : List ℕ) : Type 0 where
  pub below : All (λ k. k < length problem.separations) active
  pub forest : IsForest (λ k. (separation_at problem.separations k).left) (λ k. (separation_at problem.separations k).right) (Active active)

-- a state of the solver while the separation v is being closed: its multiplier is the force
abbrev pub IsClosing : Problem → List ℕ → ℕ → Point → Type 0
IsClosing problem active v a = IsState (givens_of problem) (Active active) (With (Active active) v) a

-- a state of the solver at rest: the active separations are tight, and they alone push
abbrev pub IsResting : Problem → List ℕ → Point → Type 0
IsResting problem active a = IsState (givens_of problem) (Active active) (Active active) a

-- the sums of the block of a variable
pub record IsSweep (problem : Problem) (active : List ℕ) (root : ℕ) (legs : List Leg) (weights moments : List ℤ) : Type 0 where
  pub tree : IsBlockTree problem.separations active root legs
  pub by_weight : IsGathered legs (map (weight_of problem) legs) weights
  pub by_moment : IsGathered legs (map (moment_of problem) legs) moments

-- for each leg 1 where the right end of v hangs on it, less 1 where the left end does
abbrev pub AreMarks : Problem → ℕ → List Leg → List ℤ → Type 0
AreMarks problem v legs marks =
    IsGathered legs (map (mark_of (separation_at problem.separations v).left (separation_at problem.separations v).right) legs) marks

-- a sum for each leg, and how large they are
pub record IsBounded (legs : List Leg) (weights moments : List ℤ) : Type 0 where
  pub some : 0 < length legs
  pub short : length legs ≤ 258
  pub long_weights : length weights ≡ length legs
  pub long_moments : length moments ≡ length legs
  pub weight : (j : ℕ) → nat_abs (load_at weights j) ≤ 258000
  pub moment : (j : ℕ) → nat_abs (load_at moments j) ≤ 66822000000000

-- a mark for each leg, and how large they are
pub record AreSmall (legs : List Leg) (marks : List ℤ) : Type 0 where
  pub long : length marks ≡ length legs
  pub mark : (j : ℕ) → nat_abs (load_at marks j) ≤ 258

-- the sums of a block are bounded
abbrev pub HasBounds : BlockSums → Type 0
HasBounds block = IsBounded block.legs.items block.weights.items block.moments.items

-- so are the marks of a block on which a separation pushes
abbrev pub HasSmallMarks : Pushed → Type 0
HasSmallMarks pushed = AreSmall pushed.block.legs.items pushed.marks.items

-- in every state the place of the variable, times twice the weight of its block, is `rest` and the share of the force
abbrev pub HasPlace : Problem → List ℕ → ℕ → ℕ → ℤ → ℤ → ℤ → Type 0
HasPlace problem active v i double rest share =
    (a : Point) → IsClosing problem active v a → double *ℤ a.x i ≡ a.q *ℤ rest +ℤ a.m v *ℤ share

-- in every state the multiplier of the separation, times the weight of its block, is `rest` and the share of the force
abbrev pub HasMultiplier : Problem → List ℕ → ℕ → ℕ → ℤ → ℤ → ℤ → Type 0
HasMultiplier problem active v k weight rest share =
    (a : Point) → IsClosing problem active v a → weight *ℤ a.m k ≡ a.q *ℤ rest +ℤ a.m v *ℤ share

-- with the sign of the way in which a separation is walked
abbrev pub signed : Bool → ℤ → ℤ
signed along z = if along then z else neg_ℤ z

-- the multiplier of the separation of a leg without force, times the weight of its block
abbrev pub rest_at : List Leg → List ℤ → List ℤ → ℕ → ℤ
rest_at legs weights moments j =
    signed (leg_at legs j).along (pos 2 *ℤ (load_at moments 0 *ℤ load_at weights j -ℤ load_at weights 0 *ℤ load_at moments j))

-- its share of the force, times the weight of its block
abbrev pub share_at : List Leg → List ℤ → List ℤ → ℕ → ℤ
share_at legs weights marks j =
    signed (leg_at legs j).along (load_at marks 0 *ℤ load_at weights j -ℤ load_at weights 0 *ℤ load_at marks j)

-- the sums say of every state where the variables of the block stand and what each of its separations exerts
pub record TellsStates (problem : Problem) (active : List ℕ) (v : ℕ) (legs : List Leg) (weights moments marks : List ℤ) : Type 0 where
  pub places : (j : ℕ) → j < length legs
      → HasPlace problem active v (variable_at legs j) (pos 2 *ℤ load_at weights 0)
      (pos 2 *ℤ (load_at moments 0 +ℤ load_at weights 0 *ℤ (leg_at legs j).offset)) (load_at marks 0)
  pub multipliers : (j : ℕ) → 0 < j → j < length legs
      → HasMultiplier problem active v (leg_at legs j).sep (load_at weights 0) (rest_at legs weights moments j) (share_at legs weights marks j)

-- at rest the sums say where the variables of the block stand and what each of its separations exerts
pub record TellsRest (problem : Problem) (active : List ℕ) (legs : List Leg) (weights moments : List ℤ) : Type 0 where
  pub places : (j : ℕ) → j < length legs → (a : Point) → IsResting problem active a
      → load_at weights 0 *ℤ a.x (variable_at legs j) ≡ a.q *ℤ (load_at moments 0 +ℤ load_at weights 0 *ℤ (leg_at legs j).offset)
  pub multipliers : (j : ℕ) → 0 < j → j < length legs → (a : Point) → IsResting problem active a
      → load_at weights 0 *ℤ a.m (leg_at legs j).sep ≡ a.q *ℤ rest_at legs weights moments j
