-- Variables that separations join, and the parts of an axis: what separations join stands in one part (the connected components of
-- the graph of the separations).
use Rattle.std.specs.Prelude.{◌≡◌, ◌⊎◌, ℕ, ◌<◌, ◌≤◌, List, [], ◌∷◌, length, slice_index}
use Rattle.units.specs.declared.geometry.Sep.{Sep}
use Rattle.units.specs.Separation.{separation_at}

-- the separation stands between the two variables, whichever is its left one
abbrev pub StandsBetween : Sep → ℕ → ℕ → Type 0
StandsBetween separation a b = ((separation.left ≡ a) × (separation.right ≡ b)) ⊎ ((separation.left ≡ b) × (separation.right ≡ a))

-- some separation of the list stands between the two
pub record AreLinked (seps : List Sep) (a b : ℕ) : Type 0 where
  pub number : ℕ
  pub among : number < length seps
  pub between : StandsBetween (separation_at seps number) a b

-- a chain of separations leads from a over the variables to b, each followed either way
abbrev pub IsChain : List Sep → ℕ → List ℕ → ℕ → Type 0
IsChain seps a [] b = a ≡ b
IsChain seps a (v ∷ vs) b = AreLinked seps a v × IsChain seps v vs b

-- a chain of separations joins a and b
abbrev pub AreJoined : List Sep → ℕ → ℕ → Type 0
AreJoined seps a b = (vs : List ℕ) × IsChain seps a vs b

-- for each of n variables the least variable that it is joined to
pub record ArePartsOf (n : ℕ) (seps : List Sep) (parts : List ℕ) : Type 0 where
  pub as_long : length parts ≡ n
  pub joined : (v : ℕ) → v < n → AreJoined seps v (slice_index parts v)
  pub least : (v w : ℕ) → v < n → w < n → AreJoined seps v w → slice_index parts v ≤ w
