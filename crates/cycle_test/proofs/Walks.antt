-- Walks of arcs, and climbs: walks on which the sum of the gaps so far is at most the present value of each variable passed.
use Rattle.std.proofs.Common.{◌≡◌, ℕ, zero, suc, ◌≤◌, ℤ, pos, ◌+ℤ◌, ◌≤ℤ◌, List, [], ◌∷◌, ◌++◌, length, drop, nat_eq, slice_index_or, sym, refl, ap, ◌∙◌, arith}
use Rattle.std.proofs.lemmas.Int.{ints}
use Rattle.std.specs.List.{IsDistinct}
use Rattle.std.proofs.lemmas.List.{map-append, drop-append-le, drop-map}
use Rattle.std.proofs.lemmas.Map.Keys.{IsDistinct-tail}
use Rattle.units.specs.declared.geometry.Sep.{Sep}
use Rattle.cycle_test.specs.declared.arc.CycleArc.{CycleArc}
use Rattle.cycle_test.specs.declared.reach.Reach.{Reach}
use Rattle.cycle_test.specs.Cycle.{IsArc, start_of, end_of, gap_of, gap_sum, starts, IsWalk}
use Rattle.cycle_test.specs.Search.{value_at, Climbs}

-- a climb is a walk
pub walk_of : (seps : List Sep) (reaches : List Reach) (from : ℕ) (low : ℤ) (arcs : List CycleArc) (to : ℕ) (high : ℤ) →
    Climbs seps reaches from low arcs to high → IsWalk seps from arcs to
walk_of seps reaches from low [] to high climb = climb.0
walk_of seps reaches from low (arc ∷ arcs) to high climb =
    (climb.0, climb.1, walk_of seps reaches (end_of seps arc) (low +ℤ gap_of seps arc) arcs to high climb.3)

add_through : (low gap rest high : ℤ) → (low +ℤ gap) +ℤ rest ≡ high → low +ℤ (gap +ℤ rest) ≡ high
add_through low gap rest high e = omega (arith, ints)

-- a climb goes up by the sum of its gaps
pub sum_of : (seps : List Sep) (reaches : List Reach) (from : ℕ) (low : ℤ) (arcs : List CycleArc) (to : ℕ) (high : ℤ) →
    Climbs seps reaches from low arcs to high → low +ℤ gap_sum seps arcs ≡ high
sum_of seps reaches from low [] to high climb = let e : low ≡ high = climb.1 in omega (arith, ints)
sum_of seps reaches from low (arc ∷ arcs) to high climb =
    add_through low (gap_of seps arc) (gap_sum seps arcs) high (sum_of seps reaches (end_of seps arc) (low +ℤ gap_of seps arc) arcs to high climb.3)

-- one arc more
pub climbs_push : (seps : List Sep) (reaches : List Reach) (from : ℕ) (low : ℤ) (arcs : List CycleArc) (to : ℕ) (high : ℤ) (arc : CycleArc) →
    Climbs seps reaches from low arcs to high → IsArc seps arc → start_of seps arc ≡ to → high ≤ℤ pos (value_at reaches to) →
    Climbs seps reaches from low (arcs ++ arc ∷ []) (end_of seps arc) (high +ℤ gap_of seps arc)
climbs_push seps reaches from low [] to high arc climb taken starts_there low_enough =
    (taken, starts_there ∙ sym climb.0, rw (climb.0, climb.1) low_enough, (refl, ap (λ z. z +ℤ gap_of seps arc) climb.1))
climbs_push seps reaches from low (first ∷ arcs) to high arc climb taken starts_there low_enough =
    (climb.0, climb.1, climb.2, climbs_push seps reaches (end_of seps first) (low +ℤ gap_of seps first) arcs to high arc climb.3 taken starts_there low_enough)

-- values that rise keep a climb
pub climbs_rise : (seps : List Sep) (old new : List Reach) (from : ℕ) (low : ℤ) (arcs : List CycleArc) (to : ℕ) (high : ℤ) →
    ((v : ℕ) → value_at old v ≤ value_at new v) → Climbs seps old from low arcs to high → Climbs seps new from low arcs to high
climbs_rise seps old new from low [] to high rise climb = climb
climbs_rise seps old new from low (arc ∷ arcs) to high rise climb =
    let before : low ≤ℤ pos (value_at old from) = climb.2 in
    (climb.0, climb.1, omega (arith, ints, rise from), climbs_rise seps old new (end_of seps arc) (low +ℤ gap_of seps arc) arcs to high rise climb.3)

-- the part of a climb from its k-th variable on
pub climbs_from : (seps : List Sep) (reaches : List Reach) (from : ℕ) (low : ℤ) (arcs : List CycleArc) (to : ℕ) (high : ℤ) (k : ℕ) →
    Climbs seps reaches from low arcs to high → high ≤ℤ pos (value_at reaches to) → k ≤ length arcs →
    (sum : ℤ) × (sum ≤ℤ pos (value_at reaches (slice_index_or (starts seps arcs ++ to ∷ []) k 0))) × Climbs seps reaches (slice_index_or (starts seps arcs ++ to ∷ []) k 0) sum (drop k arcs) to high
climbs_from seps reaches from low [] to high zero climb low_enough within = (high, low_enough, (refl, refl))
climbs_from seps reaches from low [] to high (suc k) climb low_enough within = absurd (omega arith)
climbs_from seps reaches from low (arc ∷ arcs) to high zero climb low_enough within =
    (low, rw climb.1 climb.2, (climb.0, refl, rw climb.1 climb.2, climb.3))
climbs_from seps reaches from low (arc ∷ arcs) to high (suc k) climb low_enough within =
    climbs_from seps reaches (end_of seps arc) (low +ℤ gap_of seps arc) arcs to high k climb.3 low_enough (omega arith)

-- what is left of a list that visits nothing twice visits nothing twice
pub distinct_drop : (k : ℕ) (xs : List ℕ) → IsDistinct nat_eq xs → IsDistinct nat_eq (drop k xs)
distinct_drop zero xs distinct = distinct
distinct_drop (suc k) [] distinct = distinct
distinct_drop (suc k) (x ∷ xs) distinct = distinct_drop k xs (IsDistinct-tail nat_eq x xs distinct)

-- the variables where the arcs start, with one arc more
pub starts_push : (seps : List Sep) (arcs : List CycleArc) (arc : CycleArc) →
    starts seps (arcs ++ arc ∷ []) ≡ starts seps arcs ++ start_of seps arc ∷ []
starts_push seps arcs arc = map-append (start_of seps) arcs (arc ∷ [])

pub length_starts : (seps : List Sep) (arcs : List CycleArc) → length (starts seps arcs) ≡ length arcs
length_starts seps [] = refl
length_starts seps (arc ∷ arcs) = ap suc (length_starts seps arcs)

pub starts_drop : (seps : List Sep) (k : ℕ) (arcs : List CycleArc) (v : ℕ) → k ≤ length arcs →
    drop k (starts seps arcs ++ v ∷ []) ≡ starts seps (drop k arcs) ++ v ∷ []
starts_drop seps k arcs v within =
    drop-append-le k (starts seps arcs) (v ∷ []) (omega (arith, length_starts seps arcs))
    ∙ ap (λ (xs : List ℕ). xs ++ v ∷ []) (drop-map (start_of seps) k arcs)
