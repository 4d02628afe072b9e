-- Round a positive cycle the places cancel.
use Rattle.std.proofs.Common.{◌≡◌, ℕ, zero, suc, ◌≤◌, ℤ, pos, negsuc, neg_ℤ, ◌+ℤ◌, ◌-ℤ◌, ◌*ℤ◌, ◌≤ℤ◌, ◌<ℤ◌, List, [], ◌∷◌, Bool, true, false, cond, IsTrue, refl, ap, arith}
use Rattle.std.proofs.lemmas.Int.{ints}
use Rattle.std.proofs.lemmas.Bool.{false≢true}
use Rattle.units.specs.declared.geometry.Sep.{Sep}
use Rattle.units.specs.Separation.{IsApart, Satisfies, SatisfiesAll, place_of, separation_at, no_separation}
use Rattle.cycle_test.specs.declared.arc.CycleArc.{CycleArc}
use Rattle.cycle_test.specs.Cycle.{start_of, end_of, gap_of, gap_sum, IsWalk, IsPositiveCycle}

-- q times a number, one more time
times_suc : (q : ℕ) (z : ℤ) → pos (suc q) *ℤ z ≡ (pos q *ℤ z) +ℤ z
times_suc q (pos m) = omega (arith, ints)
times_suc q (negsuc m) = omega (arith, ints)

times_none : (z : ℤ) → pos 0 *ℤ z ≡ pos 0
times_none (pos m) = omega (arith, ints)
times_none (negsuc m) = omega (arith, ints)

pub times_one : (z : ℤ) → pos 1 *ℤ z ≡ z
times_one z = omega (arith, ints, times_suc 0 z, times_none z)

times_sum : (q : ℕ) (a b : ℤ) → pos q *ℤ (a +ℤ b) ≡ (pos q *ℤ a) +ℤ (pos q *ℤ b)
times_sum zero a b = omega (arith, ints, times_none (a +ℤ b), times_none a, times_none b)
times_sum (suc q) a b = omega (arith, ints, times_suc q (a +ℤ b), times_suc q a, times_suc q b, times_sum q a b)

times_neg : (q : ℕ) (a : ℤ) → pos q *ℤ neg_ℤ a ≡ neg_ℤ (pos q *ℤ a)
times_neg zero a = omega (arith, ints, times_none (neg_ℤ a), times_none a)
times_neg (suc q) a = omega (arith, ints, times_suc q (neg_ℤ a), times_suc q a, times_neg q a)

-- a positive number any number of times, at least once
times_positive : (q : ℕ) (a : ℤ) → 1 ≤ q → pos 0 <ℤ a → pos 0 <ℤ (pos q *ℤ a)
times_positive zero a some positive = absurd (omega arith)
times_positive (suc zero) a some positive = omega (arith, ints, times_suc 0 a, times_none a)
times_positive (suc (suc q)) a some positive = omega (arith, ints, times_suc (suc q) a, times_positive (suc q) a (omega arith) positive)

-- a separation that is satisfied keeps its right end behind its left one, and the other way round where it is exact
kept : (left right gap : ℤ) (exact : Bool) → IsApart left right gap exact → gap ≤ℤ (right -ℤ left)
kept left right gap true apart = let same : (right -ℤ left) ≡ gap = apart in omega (arith, ints)
kept left right gap false apart = apart

kept_back : (left right gap : ℤ) (exact : Bool) → IsTrue exact → IsApart left right gap exact → neg_ℤ gap ≤ℤ (left -ℤ right)
kept_back left right gap true holds apart = let same : (right -ℤ left) ≡ gap = apart in omega (arith, ints)
kept_back left right gap false holds apart = absurd (false≢true holds)

arc_kept : (ys : List ℤ) (q : ℕ) (sep : Sep) (back : Bool) → (IsTrue back → IsTrue sep.exact) → Satisfies ys q sep →
    (pos q *ℤ cond back (neg_ℤ sep.gap) sep.gap) ≤ℤ (place_of ys (cond back sep.left sep.right) -ℤ place_of ys (cond back sep.right sep.left))
arc_kept ys q sep true both_ways satisfied =
    let back = kept_back (place_of ys sep.left) (place_of ys sep.right) (pos q *ℤ sep.gap) sep.exact (both_ways refl) satisfied in
    rw (times_neg q sep.gap) back
arc_kept ys q sep false both_ways satisfied = kept (place_of ys sep.left) (place_of ys sep.right) (pos q *ℤ sep.gap) sep.exact satisfied

join : (first rest from through to : ℤ) → first ≤ℤ (through -ℤ from) → rest ≤ℤ (to -ℤ through) → (first +ℤ rest) ≤ℤ (to -ℤ from)
join first rest from through to one others = omega (arith, ints)

nothing : (q : ℕ) → pos q *ℤ pos 0 ≡ pos 0
nothing q = omega (arith, ints)

none_below : (sum place : ℤ) → pos 0 <ℤ sum → sum ≤ℤ (place -ℤ place) → ⊥
none_below sum place up down = omega (arith, ints)

-- along a walk, places that satisfy the separations move on by at least the sum of the gaps
along : (seps : List Sep) (ys : List ℤ) (q from : ℕ) (arcs : List CycleArc) (to : ℕ) → SatisfiesAll ys q seps →
    IsWalk seps from arcs to → (pos q *ℤ gap_sum seps arcs) ≤ℤ (place_of ys to -ℤ place_of ys from)
along seps ys q from [] to satisfied walk =
    let stays : place_of ys from ≡ place_of ys to = ap (place_of ys) walk in omega (arith, ints, nothing q)
along seps ys q from (arc ∷ arcs) to satisfied walk =
    let one = arc_kept ys q (separation_at seps arc.sep) arc.back walk.0.both_ways (satisfied arc.sep no_separation walk.0.among) in
    rw (times_sum q (gap_of seps arc) (gap_sum seps arcs), ← walk.1)
    (join (pos q *ℤ gap_of seps arc) (pos q *ℤ gap_sum seps arcs) (place_of ys (start_of seps arc)) (place_of ys (end_of seps arc)) (place_of ys to) one (along seps ys q (end_of seps arc) arcs to satisfied walk.2))

-- so where a positive cycle exists no placement in fractions satisfies the list
pub never_both : (seps : List Sep) (arcs : List CycleArc) (ys : List ℤ) (q : ℕ) → IsPositiveCycle seps arcs → 1 ≤ q →
    SatisfiesAll ys q seps → ⊥
never_both seps arcs ys q cycle some satisfied =
    let home = cycle.closed.0 in
    let round = along seps ys q home arcs home satisfied cycle.closed.1 in
    let up = times_positive q (gap_sum seps arcs) some cycle.positive in
    none_below (pos q *ℤ gap_sum seps arcs) (place_of ys home) up round
