-- How far values can rise: a path that visits nothing twice has fewer arcs than there are variables.
use Rattle.std.proofs.Common.{◌≡◌, ℕ, suc, ◌*◌, ◌<◌, ◌≤◌, ℤ, pos, neg_ℤ, ◌+ℤ◌, ◌≤ℤ◌, List, [], ◌∷◌, ◌++◌, length, Bool, eqb, true, false, cond, nat_abs, arith, ⊎_elim}
use Rattle.std.proofs.Math.Nat.{mul-le-mul_left}
use Rattle.std.proofs.lemmas.Int.{ints}
use Rattle.std.specs.List.{All, list_any}
use Rattle.std.proofs.lemmas.List.{length-append}
use Rattle.std.proofs.lemmas.List.Elements.{All-from_get_or, All-weaker}
use Rattle.std.proofs.lemmas.List.Sums.{sum_by-le}
use Rattle.std.proofs.lemmas.Bool.{false≢true}
use Rattle.std.proofs.lemmas.Bool.Decides.{eqb_tells}
use Rattle.std.proofs.lemmas.Map.Steps.{length-le_from_distinct_below}
use Rattle.units.specs.declared.geometry.Sep.{Sep}
use Rattle.units.specs.Problem.{IsSeparation}
use Rattle.cycle_test.specs.declared.arc.CycleArc.{CycleArc}
use Rattle.cycle_test.specs.declared.reach.Reach.{Reach}
use Rattle.units.specs.Separation.{separation_at, no_separation}
use Rattle.cycle_test.specs.Cycle.{IsArc, start_of, end_of, gap_of, gap_sum, starts, IsWalk}
use Rattle.cycle_test.specs.Search.{reach_at, value_at, value_sum, IsReached, IsState}
use Rattle.cycle_test.proofs.Walks.{walk_of, sum_of, length_starts}

-- both ends are below n, and the gap is within b of 0
pub record IsWithin (n b : ℕ) (sep : Sep) : Type 0 where
  pub left : sep.left < n
  pub right : sep.right < n
  pub gap : nat_abs sep.gap ≤ b

abbrev pub AreWithin : ℕ → ℕ → List Sep → Type 0
AreWithin n b seps = All (λ sep. IsWithin n b sep) seps

-- the separations of a problem are within 1,000,000
pub within_limits : (n : ℕ) (seps : List Sep) → All (λ separation. IsSeparation n separation) seps → AreWithin n 1000000 seps
within_limits n seps sound =
    All-weaker (λ separation. IsSeparation n separation) (λ sep. IsWithin n 1000000 sep) (λ separation fits. record { left = fits.left; right = fits.right; gap = fits.gap }) seps sound

pick_below : (back : Bool) (x y n : ℕ) → x < n → y < n → cond back x y < n
pick_below true x y n l r = l
pick_below false x y n l r = r

pub start_below : (seps : List Sep) (n b : ℕ) (arc : CycleArc) → AreWithin n b seps → IsArc seps arc → start_of seps arc < n
start_below seps n b arc within taken =
    let sep = within arc.sep no_separation taken.among in pick_below arc.back (separation_at seps arc.sep).right (separation_at seps arc.sep).left n sep.right sep.left

pub end_below : (seps : List Sep) (n b : ℕ) (arc : CycleArc) → AreWithin n b seps → IsArc seps arc → end_of seps arc < n
end_below seps n b arc within taken =
    let sep = within arc.sep no_separation taken.among in pick_below arc.back (separation_at seps arc.sep).left (separation_at seps arc.sep).right n sep.left sep.right

pick_near : (back : Bool) (gap : ℤ) (b : ℕ) → nat_abs gap ≤ b → cond back (neg_ℤ gap) gap ≤ℤ pos b
pick_near true gap b near = omega (arith, ints)
pick_near false gap b near = omega (arith, ints)

pub gap_near : (seps : List Sep) (n b : ℕ) (arc : CycleArc) → AreWithin n b seps → IsArc seps arc → gap_of seps arc ≤ℤ pos b
gap_near seps n b arc within taken =
    let sep = within arc.sep no_separation taken.among in pick_near arc.back (separation_at seps arc.sep).gap b sep.gap

-- the variables of a walk are below n where its last one is
pub visits_below : (seps : List Sep) (n b from : ℕ) (arcs : List CycleArc) (to : ℕ) → AreWithin n b seps →
    IsWalk seps from arcs to → to < n → (q : ℕ) → list_any (eqb q) (starts seps arcs ++ to ∷ []) ≡ true → q < n
visits_below seps n b from [] to within walk below q found =
    ⊎_elim (λ same. rw same.1 below) (λ other. absurd (false≢true (rw other.0 at found))) (eqb_tells q to)
visits_below seps n b from (arc ∷ arcs) to within walk below q found =
    ⊎_elim
    (λ same. rw same.1 (start_below seps n b arc within walk.0))
    (λ other. visits_below seps n b (end_of seps arc) arcs to within walk.2 below q (rw other.0 at found))
    (eqb_tells q (start_of seps arc))

add_gap : (gap rest : ℤ) (b m : ℕ) → gap ≤ℤ pos b → rest ≤ℤ pos (b * m) → (gap +ℤ rest) ≤ℤ pos (b * suc m)
add_gap gap rest b m near far = omega (arith, ints)

-- the gaps of a walk add up to at most b for each arc
pub sum_near : (seps : List Sep) (n b from : ℕ) (arcs : List CycleArc) (to : ℕ) → AreWithin n b seps → IsWalk seps from arcs to →
    gap_sum seps arcs ≤ℤ pos (b * length arcs)
sum_near seps n b from [] to within walk = omega (arith, ints)
sum_near seps n b from (arc ∷ arcs) to within walk =
    add_gap (gap_of seps arc) (gap_sum seps arcs) b (length arcs) (gap_near seps n b arc within walk.0) (sum_near seps n b (end_of seps arc) arcs to within walk.2)

-- a path has fewer arcs than there are variables
pub path_short : (seps : List Sep) (n b : ℕ) (reaches : List Reach) (v : ℕ) → AreWithin n b seps → IsReached seps reaches v →
    v < n → length (reach_at reaches v).path < n
path_short seps n b reaches v within reached below =
    let path = (reach_at reaches v).path in
    let walk = walk_of seps reaches reached.climbs.0 (pos 0) path v (pos (value_at reaches v)) reached.climbs.1 in
    let few : length (starts seps path ++ v ∷ []) ≤ n = length-le_from_distinct_below (starts seps path ++ v ∷ []) n reached.simple (visits_below seps n b reached.climbs.0 path v within walk below) in
    omega (arith, length-append (starts seps path) (v ∷ []), length_starts seps path)

value_near : (value : ℕ) (sum : ℤ) (b m n : ℕ) → pos 0 +ℤ sum ≡ pos value → sum ≤ℤ pos (b * m) → m < n → value ≤ b * n
value_near value sum b m n is near few =
    let more : b * m ≤ b * n = mul-le-mul_left b (omega arith) in omega (arith, ints)

-- so values stay below b for each variable
pub value_below : (seps : List Sep) (n b : ℕ) (reaches : List Reach) (v : ℕ) → AreWithin n b seps → IsReached seps reaches v →
    v < n → value_at reaches v ≤ b * n
value_below seps n b reaches v within reached below =
    let path = (reach_at reaches v).path in
    let walk = walk_of seps reaches reached.climbs.0 (pos 0) path v (pos (value_at reaches v)) reached.climbs.1 in
    value_near (value_at reaches v) (gap_sum seps path) b (length path) n
    (sum_of seps reaches reached.climbs.0 (pos 0) path v (pos (value_at reaches v)) reached.climbs.1)
    (sum_near seps n b reached.climbs.0 path v within walk)
    (path_short seps n b reaches v within reached below)

-- and all of them together below b for each pair of variables
pub total_below : (seps : List Sep) (n b : ℕ) (reaches : List Reach) → AreWithin n b seps → IsState seps reaches →
    length reaches ≡ n → value_sum reaches ≤ n * (b * n)
total_below seps n b reaches within state as_long =
    let each = All-from_get_or (λ (reach : Reach). reach.value ≤ b * n) reaches (record { value = 0; path = [] })
    (λ v below. value_below seps n b reaches v within (state v below) (omega arith)) in
    let whole = sum_by-le (λ (reach : Reach). reach.value) (b * n) reaches each in
    rw as_long at whole
