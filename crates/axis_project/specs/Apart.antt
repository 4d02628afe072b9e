-- What the program keeps of a problem that it takes apart.
use Rattle.std.specs.Prelude.{◌≡◌, ℕ, zero, suc, ◌<◌, List, [], ◌∷◌, ◌++◌, length, map, slice_index, All}
use Rattle.units.specs.declared.geometry.Sep.{Sep}
use Rattle.units.specs.Problem.{Problem}
use Rattle.axis_project.specs.declared.apart.Apart.{Apart}
use Rattle.axis_project.specs.declared.apart.Component.{Component}
use Rattle.axis_project.specs.Components.{rank, separation_keys, component, AreKeys}

-- variables of one part have one key
abbrev pub KeepTogether : List ℕ → List ℕ → Type 0
KeepTogether parts keys =
    (v w : ℕ) → v < length parts → w < length parts → slice_index parts v ≡ slice_index parts w → slice_index keys v ≡ slice_index keys w

-- the number of each element among those of its key
pub record AreRanks (keys ranks : List ℕ) : Type 0 where
  pub as_long : length ranks ≡ length keys
  pub each : (v : ℕ) → v < length keys → slice_index ranks v ≡ rank keys v

-- the separation between the numbers of its ends
abbrev pub renumbered_by : List ℕ → Sep → Sep
renumbered_by ranks s = record { left = slice_index ranks s.left; right = slice_index ranks s.right; gap = s.gap; exact = s.exact }

-- the keys of a problem and what they make of it
pub record IsTakenApart (problem : Problem) (apart : Apart) : Type 0 where
  pub keys : AreKeys problem apart.keys.items
  pub below : All (λ key. key < apart.count) apart.keys.items
  pub ranks : AreRanks apart.keys.items apart.ranks.items
  pub separation_keys : apart.separation_keys.items ≡ separation_keys apart.keys.items problem.separations
  pub separation_ranks : AreRanks apart.separation_keys.items apart.separation_ranks.items
  pub renumbered : apart.renumbered.items ≡ map (renumbered_by apart.ranks.items) problem.separations

-- the components of the keys below a count
abbrev pub components : Problem → List ℕ → ℕ → List Problem
components problem keys zero = []
components problem keys (suc key) = components problem keys key ++ component problem keys key ∷ []

-- the problems of a list of components
abbrev pub problems : List Component → List Problem
problems list = map (λ (c : Component). c.problem) list
