use Rattle.std.proofs.Common.{◌≡◌, ℤ, List, subst, arith}
use Rattle.units.specs.declared.geometry.Sep.{Sep}
use Rattle.units.specs.Problem.{Problem}
use Rattle.units.specs.Separation.{SatisfiesAll}
use Rattle.cycle_test.specs.Feasibility.{IfPlaces}
use Rattle.vpsc_solve.specs.Stops.{IsFeasible}
use Rattle.layout_tests.proofs.solving.some_placement.Goals as goal

-- the places that the test found
feasible : (p : Problem) (seps : List Sep) (places : List ℤ) → seps ≡ p.separations → SatisfiesAll places 1 seps → IsFeasible p
feasible p seps places e h = record { places = places; denominator = 1; above = omega arith; satisfied = subst (λ s. SatisfiesAll places 1 s) e h }

pub returns-in-Places : goal.returns-in-Places
returns-in-Places c = feasible c.args.problem.now c.seps.result.now c.in-Places.field-0 c.seps.ensures.value (subst (λ v. IfPlaces v (λ places. SatisfiesAll places 1 c.seps.result.now)) c.in-Places.is c.in_ok-test.ensures.satisfied)
