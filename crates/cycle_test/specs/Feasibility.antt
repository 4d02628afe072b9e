-- When a list of separations is feasible, what the test answers, and the law that ties the two.
use Rattle.std.specs.Prelude.{ℕ, ◌≤◌, ℤ, List, Bool, true, false, ◌⊎◌}
use Rattle.units.specs.Separation.{SatisfiesAll}
use Rattle.units.specs.declared.geometry.Sep.{Sep}
use Rattle.cycle_test.specs.Cycle.{IsPositiveCycle, HasPositiveCycle}
use Rattle.cycle_test.specs.declared.arc.CycleArc.{CycleArc}
use Rattle.cycle_test.specs.declared.verdict.Verdict.{Verdict}
use Rattle.cycle_test.specs.declared.verdict.Verdict.TheVariants.{Places, Cycle}

-- some whole places satisfy each separation
abbrev pub HasPlaces : List Sep → Type 0
HasPlaces seps = (ys : List ℤ) × SatisfiesAll ys 1 seps

-- what holds of the places, where the verdict has them
abbrev pub IfPlaces : Verdict → (List ℤ → Type 0) → Type 0
IfPlaces (Places ys) P = P ys
IfPlaces (Cycle arcs) P = Unit {0}

-- what holds of the arcs, where the verdict is a cycle
abbrev pub IfCycle : Verdict → (List CycleArc → Type 0) → Type 0
IfCycle (Places ys) P = Unit {0}
IfCycle (Cycle arcs) P = P arcs

-- whether the verdict is a cycle
abbrev pub is_cycle : Verdict → Bool
is_cycle (Places ys) = false
is_cycle (Cycle arcs) = true

-- round a positive cycle the places cancel: where one exists, no placement in fractions, with any denominator, satisfies the list
abbrev pub NeverBoth : Type 0
NeverBoth =
    (seps : List Sep) (arcs : List CycleArc) (ys : List ℤ) (q : ℕ) →
    IsPositiveCycle seps arcs → 1 ≤ q → ¬ SatisfiesAll ys q seps

-- each list of separations has whole places that satisfy it, or a positive cycle
abbrev pub OneOfBoth : Type 0
OneOfBoth = (seps : List Sep) → HasPlaces seps ⊎ HasPositiveCycle seps
