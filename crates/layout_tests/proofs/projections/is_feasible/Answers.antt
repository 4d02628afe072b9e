use Rattle.std.proofs.Common.{◌≡◌, ◌≤◌, List, sym, ◌∙◌, subst}
use Rattle.std.proofs.lemmas.List.Elements.{All-from_recursion}
use Rattle.std.specs.Prelude.{All}
use Rattle.units.specs.declared.geometry.Sep.{Sep}
use Rattle.units.specs.Problem.{IsSeparation}
use Rattle.scene_model.proofs.Bounds.{variables-count}
use Rattle.scene_model.specs.Separations.{separations}
use Rattle.axis_project.proofs.Separated.{separations_sound}
use Rattle.layout_tests.proofs.projections.is_feasible.Goals as goal

pub test-requires-clause-variables : goal.test-requires-clause-variables
test-requires-clause-variables c =
    subst (λ n. n ≤ 258) (sym c.vars-variables.ensures.value) (variables-count {d = c.args.scene.now} c.args.axis c.vars-variables.ensures.sound)

pub test-requires-clause-sound : goal.test-requires-clause-sound
test-requires-clause-sound c =
    let list_is : c.deref.result.now ≡ separations c.args.scene.now c.args.axis = c.deref.ensures.value ∙ c.in_ok-list.ensures in
    subst (λ (seps : List Sep). All (λ separation. IsSeparation c.vars-variables.result separation) seps) (sym list_is)
    (subst (λ n. All (λ separation. IsSeparation n separation) (separations c.args.scene.now c.args.axis)) (sym c.vars-variables.ensures.value)
    (All-from_recursion _ _ (separations_sound c.args.scene.now c.args.axis c.vars-variables.ensures.sound)))
