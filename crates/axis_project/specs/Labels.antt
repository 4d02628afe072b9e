-- Labels of variables while the parts are found: what is joined so far has one label.
use Rattle.std.specs.Prelude.{◌≡◌, ℕ, ◌<◌, ◌≤◌, List, length, map, slice_index, ◌==◌, nat_lt, if◌then◌else◌}
use Rattle.units.specs.declared.geometry.Sep.{Sep}
use Rattle.units.specs.Separation.{separation_at}
use Rattle.axis_project.specs.Parts.{AreJoined}

-- another label in place of one
abbrev pub renamed : ℕ → ℕ → ℕ → ℕ
renamed from to label = if label == from then to else label

-- what a separation joins has one label, the lesser one
abbrev pub joined : List ℕ → Sep → List ℕ
joined labels separation =
    if nat_lt (slice_index labels separation.left) (slice_index labels separation.right)
    then map (renamed (slice_index labels separation.right) (slice_index labels separation.left)) labels
    else map (renamed (slice_index labels separation.left) (slice_index labels separation.right)) labels

-- each variable of n is joined to its label, which isn't greater, and the ends of each of the first k separations have one label
pub record AreLabels (n : ℕ) (seps : List Sep) (k : ℕ) (labels : List ℕ) : Type 0 where
  pub as_long : length labels ≡ n
  pub own : (v : ℕ) → v < n → AreJoined seps v (slice_index labels v)
  pub below : (v : ℕ) → v < n → slice_index labels v ≤ v
  pub same : (j : ℕ) → j < k → slice_index labels (separation_at seps j).left ≡ slice_index labels (separation_at seps j).right
