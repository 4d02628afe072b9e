-- One more term of a sum.
use Rattle.std.proofs.Common.{◌≡◌, ◌+◌, ◌<◌, ℕ, suc, ℤ, pos, ◌+ℤ◌, length, get_or, List, [], ◌∷◌, ◌++◌, map, ap, sym, ◌∙◌, arith}
use Rattle.std.specs.List.{range_with_len}
use Rattle.std.proofs.lemmas.List.FromFn.{map-range_with_len_more, length-map-range_with_len, get_or-map-range_with_len}
use Rattle.units.specs.declared.geometry.Axis.{Axis}
use Rattle.scene_model.specs.Diagram.{Diagram}
use Rattle.frame_store.specs.declared.places.Places.{Places}
use Rattle.stress_step.specs.Pulls.{pull, all_pulls}
use Rattle.stress_step.specs.Stress.{distance}
use Rattle.stress_step.specs.Steps.{distances_from}
use Rattle.stress_step.specs.Sums.{sum_below, total_below}

pub sum-next : (f : ℕ → ℕ) (n : ℕ) → sum_below f (n + 1) ≡ sum_below f n + f n
sum-next f n = let next : n + 1 ≡ suc n = omega arith in ap (sum_below f) next

pub total-next : (f : ℕ → ℤ) (n : ℕ) → total_below f (n + 1) ≡ total_below f n +ℤ f n
total-next f n = let next : n + 1 ≡ suc n = omega arith in ap (total_below f) next

-- one more element of a list that is made in order
pub row-next : {A : Type 0} (f : ℕ → A) (n : ℕ) (made : List A) (y : A) → made ≡ map f (range_with_len 0 n) → y ≡ f n → made ++ y ∷ [] ≡ map f (range_with_len 0 (n + 1))
row-next f n made y so_far is =
    ap (λ zs. zs ++ y ∷ []) so_far ∙ (ap (λ z. map f (range_with_len 0 n) ++ z ∷ []) is ∙ sym (map-range_with_len_more f 0 n n (omega arith)))

-- the pull of a shape, out of the list of all
pub pulls-long : (d : Diagram) (axis : Axis) (places : Places) (pulls : List ℤ) → pulls ≡ all_pulls d axis places → length pulls ≡ length d.shapes
pulls-long d axis places pulls is = ap length is ∙ length-map-range_with_len (pull d axis places) 0 (length d.shapes)

pub pull-at : (d : Diagram) (axis : Axis) (places : Places) (pulls : List ℤ) (i : ℕ) → pulls ≡ all_pulls d axis places → i < length d.shapes → get_or pulls i (pos 0) ≡ pull d axis places i
pull-at d axis places pulls i is inside = ap (λ (zs : List ℤ). get_or zs i (pos 0)) is ∙ get_or-map-range_with_len (pull d axis places) 0 (length d.shapes) i i (pos 0) inside (omega arith)

-- the distance to a shape, out of the list of all
pub distances-long : (d : Diagram) (places : Places) (i : ℕ) (row : List ℕ) → row ≡ distances_from d places i → length row ≡ length d.shapes
distances-long d places i row is = ap length is ∙ length-map-range_with_len (distance d places i) 0 (length d.shapes)

pub distance-at : (d : Diagram) (places : Places) (i : ℕ) (row : List ℕ) (j : ℕ) → row ≡ distances_from d places i → j < length d.shapes → get_or row j 0 ≡ distance d places i j
distance-at d places i row j is inside = ap (λ (ns : List ℕ). get_or ns j 0) is ∙ get_or-map-range_with_len (distance d places i) 0 (length d.shapes) j j 0 inside (omega arith)
