use Rattle.multiplier_check.proofs.Law.{certificate_projection}
use Rattle.vpsc_solve.proofs.solving.solve_counted_from.Goals as goal

pub returns-clause-projection : goal.returns-clause-projection
returns-clause-projection c = certificate_projection c.args.problem.now c.in_ok-certificate.certificate c.seps-seps.ensures.bounded c.in_ok-certificate.ensures
