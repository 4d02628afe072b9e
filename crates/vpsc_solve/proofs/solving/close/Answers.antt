use Rattle.std.proofs.Common.{subst}
use Rattle.vpsc_solve.specs.Stops.{IsViolation}
use Rattle.vpsc_solve.proofs.Beginning.{violated-off, begins-below, if-ok}
use Rattle.vpsc_solve.proofs.solving.close.Goals as goal

pub close_mirrored-requires-clause-off : goal.close_mirrored-requires-clause-off
close_mirrored-requires-clause-off c = let w = c.requires.violated in violated-off c.args.problem.now c.args.active.now.items c.args.violation.sep c.args.violation.above w.0 w.1 c.requires.closing w.2

pub close_gap-requires-clause-off : goal.close_gap-requires-clause-off
close_gap-requires-clause-off c = let w = c.requires.violated in violated-off c.args.problem.now c.args.active.now.items c.args.violation.sep c.args.violation.above w.0 w.1 c.requires.closing w.2

pub close_gap-requires-clause-under_way : goal.close_gap-requires-clause-under_way
close_gap-requires-clause-under_way c =
    let w = c.requires.violated in
    (w.0, w.1, begins-below c.args.problem.now c.args.active.now.items c.args.violation.sep w.0 w.1 c.requires.closing (subst (λ b. IsViolation c.args.problem.now c.args.active.now.items c.args.violation.sep b w.0 w.1) c.if-violation.false w.2))

pub returns-clause-closed : goal.returns-clause-closed
returns-clause-closed c = if-ok _ _ c.close_gap.result (λ u h bound F large w. h bound F large (begins-below c.args.problem.now c.args.active.now.items c.args.violation.sep bound F c.requires.closing
    (subst (λ b. IsViolation c.args.problem.now c.args.active.now.items c.args.violation.sep b bound F) c.if-violation.false w))) c.close_gap.ensures.closed
