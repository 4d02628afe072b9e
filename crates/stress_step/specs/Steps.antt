-- What the steps of a proposal know of distances.
use Rattle.std.specs.Prelude.{ℕ, ◌≤◌, List, length, map}
use Rattle.std.specs.List.{range_with_len}
use Rattle.scene_model.specs.Diagram.{Diagram}
use Rattle.frame_store.specs.declared.places.Places.{Places}
use Rattle.stress_step.specs.Stress.{distance}

-- a distance within the range of places, in diagram units
abbrev pub IsDistance : ℕ → Type 0
IsDistance apart = (1 ≤ apart) × (apart ≤ 3000000)

-- the distances from a shape to all shapes
abbrev pub distances_from : Diagram → Places → ℕ → List ℕ
distances_from d places i = map (distance d places i) (range_with_len 0 (length d.shapes))
