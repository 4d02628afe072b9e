use Rattle.std.proofs.Common.{sym, subst, IfOk}
use Rattle.units.specs.declared.geometry.Axis.TheVariants.{X, Y}
use Rattle.units.specs.Problem.{Problem}
use Rattle.multiplier_check.specs.Certificate.{IsCertificate}
use Rattle.multiplier_check.specs.Placement.{IsProjection}
use Rattle.vpsc_solve.specs.Stops.{IsFeasible}
use Rattle.axis_project.proofs.Projected.{feasible}
use Rattle.axis_project.proofs.Axes.{all_shown_by}
use Rattle.axis_project.proofs.both.project_both.Goals as goal

pub solved_both-requires-clause-feasible_x : goal.solved_both-requires-clause-feasible_x
solved_both-requires-clause-feasible_x g c κs within = subst IsFeasible (sym c.in_ok-of_x.ensures) (feasible c.args.scene.now X c.args.x.now c.requires.feasible_x)

pub solved_both-requires-clause-feasible_y : goal.solved_both-requires-clause-feasible_y
solved_both-requires-clause-feasible_y g c κs within = subst IsFeasible (sym c.in_ok-of_y.ensures) (feasible c.args.scene.now Y c.args.y.now c.requires.feasible_y)

pub returns-clause-x : goal.returns-clause-x
returns-clause-x g c =
    all_shown_by c.args.scene.now X c.args.x.now (λ both. both.0) c.solved_both.result c.requires.as_long_x
    (subst (λ (p : Problem). IfOk c.solved_both.result (λ both. IsCertificate p both.0)) c.in_ok-of_x.ensures c.solved_both.ensures.shows_x)
    (subst (λ (p : Problem). IfOk c.solved_both.result (λ both. IsProjection p both.0.places)) c.in_ok-of_x.ensures c.solved_both.ensures.projection_x)

pub returns-clause-y : goal.returns-clause-y
returns-clause-y g c =
    all_shown_by c.args.scene.now Y c.args.y.now (λ both. both.1) c.solved_both.result c.requires.as_long_y
    (subst (λ (p : Problem). IfOk c.solved_both.result (λ both. IsCertificate p both.1)) c.in_ok-of_y.ensures c.solved_both.ensures.shows_y)
    (subst (λ (p : Problem). IfOk c.solved_both.result (λ both. IsProjection p both.1.places)) c.in_ok-of_y.ensures c.solved_both.ensures.projection_y)
