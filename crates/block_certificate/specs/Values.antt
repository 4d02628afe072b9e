-- What the fractions of a certificate are, in every state at rest.
use Rattle.std.specs.Prelude.{◌≡◌, ℕ, ◌*◌, ◌<◌, ◌≤◌, ◌^◌, ℤ, pos, ◌+ℤ◌, ◌*ℤ◌, nat_abs, Bool, true, false, List, length, slice_index_or, ◌⊎◌}
use Rattle.units.specs.Problem.{Problem}
use Rattle.frac128.specs.Fraction.{Fraction, whole, ◌≈◌, IsLowest}
use Rattle.multiplier_check.specs.Certificate.{fraction_at}
use Rattle.solver_law.specs.State.{Point}
use Rattle.block_sums.specs.declared.legs.Leg.{Leg}
use Rattle.units.specs.Separation.{separation_at}
use Rattle.block_sums.specs.Legs.{leg_at, variable_at}
use Rattle.block_sums.specs.Loads.{load_at}
use Rattle.block_sums.specs.Solving.{Active, IsResting, rest_at}

-- the fraction is the place of the variable i in every state at rest, and lies within 2^31 of 0
pub record IsPlace (problem : Problem) (active : List ℕ) (i : ℕ) (f : Fraction) : Type 0 where
  pub above : 0 < f.den
  pub near : nat_abs f.num ≤ 2 ^ 31 * f.den
  pub is : (a : Point) → IsResting problem active a → pos f.den *ℤ a.x i ≡ a.q *ℤ f.num

-- wherever the place of the variable i is whole over D, the multiplier of the separation k is whole over D too
abbrev pub IsWholeWith : Problem → List ℕ → ℕ → ℕ → Type 0
IsWholeWith problem active k i =
    (a : Point) (Q : ℕ) → 0 < Q → a.q ≡ pos Q → IsResting problem active a
    → (D : ℕ) (y : ℤ) → a.x i *ℤ pos D ≡ y *ℤ pos Q → (m : ℤ) × (a.m k *ℤ pos D ≡ m *ℤ pos Q)

-- the fraction is the multiplier of the separation k in every state at rest, and this is whole where the place of an end is
pub record IsMultiplier (problem : Problem) (active : List ℕ) (k : ℕ) (f : Fraction) : Type 0 where
  pub above : 0 < f.den
  pub is : (a : Point) → IsResting problem active a → pos f.den *ℤ a.m k ≡ a.q *ℤ f.num
  pub left : IsWholeWith problem active k (separation_at problem.separations k).left
  pub right : IsWholeWith problem active k (separation_at problem.separations k).right

-- the place of the variable of a leg at rest, over the weight of its block
abbrev pub place_of_leg : List Leg → List ℤ → List ℤ → ℕ → Fraction
place_of_leg legs weights moments j =
    record { num = load_at moments 0 +ℤ load_at weights 0 *ℤ (leg_at legs j).offset; den = nat_abs (load_at weights 0) }

-- the multiplier of the separation of a leg at rest, over the weight of its block
abbrev pub multiplier_of_leg : List Leg → List ℤ → List ℤ → ℕ → Fraction
multiplier_of_leg legs weights moments j = record { num = rest_at legs weights moments j; den = nat_abs (load_at weights 0) }

-- the fraction is the multiplier of a leg over the separation k
pub record IsOfLeg (legs : List Leg) (weights moments : List ℤ) (k : ℕ) (f : Fraction) : Type 0 where
  pub number : ℕ
  pub above : 0 < number
  pub among : number < length legs
  pub over : (leg_at legs number).sep ≡ k
  pub value : f ≡ multiplier_of_leg legs weights moments number

-- the fraction is the place of a leg that reaches the variable i
pub record IsOfVariable (legs : List Leg) (weights moments : List ℤ) (i : ℕ) (f : Fraction) : Type 0 where
  pub number : ℕ
  pub among : number < length legs
  pub reaches : variable_at legs number ≡ i
  pub value : f ≡ place_of_leg legs weights moments number

-- the multipliers of the legs below the count are written, and no others
pub record AreWritten (legs : List Leg) (weights moments : List ℤ) (count : ℕ) (old new : List Fraction) : Type 0 where
  pub as_long : length new ≡ length old
  pub kept : (k : ℕ) → (fraction_at new k ≡ fraction_at old k) ⊎ IsOfLeg legs weights moments k (fraction_at new k)
  pub written : (j : ℕ) → 0 < j → j < count → IsOfLeg legs weights moments (leg_at legs j).sep (fraction_at new (leg_at legs j).sep)

-- whether the place of a variable is known
abbrev pub is_placed : List Bool → ℕ → Bool
is_placed placed i = slice_index_or placed i false

-- the places of the legs below the count are written, and no others
pub record ArePlaced (legs : List Leg) (weights moments : List ℤ) (count : ℕ) (old new : List Fraction) (before after : List Bool) : Type 0 where
  pub as_long : length new ≡ length old
  pub as_many : length after ≡ length before
  pub kept : (i : ℕ) → ((fraction_at new i ≡ fraction_at old i) × (is_placed after i ≡ is_placed before i)) ⊎ IsOfVariable legs weights moments i (fraction_at new i)
  pub written : (j : ℕ) → j < count → is_placed after (variable_at legs j) ≡ true

-- the places of the variables below the count are known, and so are the multipliers of the active separations at all known places
pub record AreSettled (problem : Problem) (active : List ℕ) (count : ℕ) (places multipliers : List Fraction) (placed : List Bool) : Type 0 where
  pub places_as_long : length places ≡ length problem.desired
  pub multipliers_as_long : length multipliers ≡ length problem.separations
  pub placed_as_long : length placed ≡ length problem.desired
  pub all : (i : ℕ) → i < count → is_placed placed i ≡ true
  pub known : (i : ℕ) → is_placed placed i ≡ true → IsPlace problem active i (fraction_at places i)
  pub quiet : (k : ℕ) → (fraction_at multipliers k ≡ whole (pos 0)) ⊎ IsMultiplier problem active k (fraction_at multipliers k)
  pub loud : (k : ℕ) → Active active k → is_placed placed (separation_at problem.separations k).left ≡ true → IsMultiplier problem active k (fraction_at multipliers k)

-- the same value in lowest terms
pub record IsReduced (f reduced : Fraction) : Type 0 where
  pub same : reduced ≈ f
  pub lowest : IsLowest reduced

-- each fraction in lowest terms
pub record AreReduced (fs reduced : List Fraction) : Type 0 where
  pub as_long : length reduced ≡ length fs
  pub each : (i : ℕ) → i < length fs → IsReduced (fraction_at fs i) (fraction_at reduced i)
