use Rattle.std.proofs.Common.{IfOk, sym, subst}
use Rattle.units.specs.Problem.{Problem}
use Rattle.multiplier_check.specs.Certificate.{IsCertificate}
use Rattle.multiplier_check.specs.Placement.{IsProjection}
use Rattle.vpsc_solve.specs.Stops.{IsFeasible}
use Rattle.axis_project.proofs.Projected.{feasible, all_shown}
use Rattle.axis_project.proofs.projecting.project_from.Goals as goal

pub solve_from-requires : goal.solve_from-requires
solve_from-requires c = subst IsFeasible (sym c.in_ok-problem.ensures) (feasible c.args.scene.now c.args.axis c.args.desired.now c.requires.feasible)

pub returns : goal.returns
returns c =
    all_shown c.args.scene.now c.args.axis c.args.desired.now c.requires.as_long c.solve_from.result
    (subst (λ (p : Problem). IfOk c.solve_from.result (IsCertificate p)) c.in_ok-problem.ensures c.solve_from.ensures.shows)
    (subst (λ (p : Problem). IfOk c.solve_from.result (λ certificate. IsProjection p certificate.places)) c.in_ok-problem.ensures c.solve_from.ensures.projection)
