-- Arcs of a list of separations, and the positive cycles that make the list infeasible. The idea is that of the longest paths in
-- a graph of difference constraints (Bellman and Ford); exact separations, which are arcs both ways, are this project's own.
use Rattle.std.specs.Prelude.{◌≡◌, ℕ, ◌<◌, ℤ, pos, neg_ℤ, ◌+ℤ◌, ◌<ℤ◌, List, [], ◌∷◌, length, map, IsTrue, nat_eq, if◌then◌else◌}
use Rattle.std.specs.List.{IsDistinct}
use Rattle.units.specs.declared.geometry.Sep.{Sep}
use Rattle.units.specs.Separation.{separation_at}
use Rattle.cycle_test.specs.declared.arc.CycleArc.{CycleArc}

-- an arc is a separation of the list, taken forwards, or taken back where it is exact
pub record IsArc (seps : List Sep) (arc : CycleArc) : Type 0 where
  pub among : arc.sep < length seps
  pub both_ways : IsTrue arc.back → IsTrue (separation_at seps arc.sep).exact

-- the variable that an arc leaves: the left one, or the right one where it is taken back
abbrev pub start_of : List Sep → CycleArc → ℕ
start_of seps arc = if arc.back then (separation_at seps arc.sep).right else (separation_at seps arc.sep).left

-- the variable that an arc reaches
abbrev pub end_of : List Sep → CycleArc → ℕ
end_of seps arc = if arc.back then (separation_at seps arc.sep).left else (separation_at seps arc.sep).right

-- the gap of an arc, in diagram units: where it ends is at least this far behind where it starts. Taken back, the gap is negated
abbrev pub gap_of : List Sep → CycleArc → ℤ
gap_of seps arc = if arc.back then neg_ℤ (separation_at seps arc.sep).gap else (separation_at seps arc.sep).gap

-- arcs that lead from one variable to another, each starting where the one before it ends
abbrev pub IsWalk : List Sep → ℕ → List CycleArc → ℕ → Type 0
IsWalk seps from [] to = from ≡ to
IsWalk seps from (arc ∷ arcs) to = IsArc seps arc × (start_of seps arc ≡ from) × IsWalk seps (end_of seps arc) arcs to

-- the variables where the arcs start, in order
abbrev pub starts : List Sep → List CycleArc → List ℕ
starts seps arcs = map (start_of seps) arcs

-- what the gaps of arcs add up to
abbrev pub gap_sum : List Sep → List CycleArc → ℤ
gap_sum seps [] = pos 0
gap_sum seps (arc ∷ arcs) = gap_of seps arc +ℤ gap_sum seps arcs

-- a positive cycle: at least one arc, leading from a variable back to it, no variable the start of two arcs, and gaps that add
-- up to more than 0
pub record IsPositiveCycle (seps : List Sep) (arcs : List CycleArc) : Type 0 where
  pub some : 0 < length arcs
  pub closed : (home : ℕ) × IsWalk seps home arcs home
  pub simple : IsDistinct nat_eq (starts seps arcs)
  pub positive : pos 0 <ℤ gap_sum seps arcs

-- the list of separations has a positive cycle
abbrev pub HasPositiveCycle : List Sep → Type 0
HasPositiveCycle seps = (arcs : List CycleArc) × IsPositiveCycle seps arcs
