use Rattle.std.proofs.Common.{◌≡◌, ◌<◌, sym, subst, length, ℕ, ℤ, List, true}
use Rattle.units.specs.Problem.{Problem}
use Rattle.block_sums.specs.Solving.{Active, IsActive}
use Rattle.vpsc_solve.specs.Stops.{IsFeasible, IsUnderWay, IsViolation, HasClosed, DiffersAt}
use Rattle.vpsc_solve.specs.Mirror.{turned_problem}
use Rattle.vpsc_solve.proofs.Mirrors.{active-turned, active-back, feasible-turned, begins-turned, closed-back, differs-back}
use Rattle.vpsc_solve.proofs.Beginning.{if-ok}
use Rattle.vpsc_solve.proofs.solving.close_mirrored.Goals as goal

pub close_gap-requires-clause-active : goal.close_gap-requires-clause-active
close_gap-requires-clause-active c = subst (λ q. IsActive q c.args.active.now.items) (sym c.in_ok-mirror.ensures) (active-turned c.args.problem.now c.args.closing c.args.active.now.items c.requires.closing c.requires.active)

pub close_gap-requires-clause-feasible : goal.close_gap-requires-clause-feasible
close_gap-requires-clause-feasible c = subst IsFeasible (sym c.in_ok-mirror.ensures) (feasible-turned c.args.problem.now c.args.closing c.requires.closing c.requires.strict c.requires.feasible)

-- the closing in the problem turned round
begins-there : (p q : Problem) (active : List ℕ) (v : ℕ) (bound : ℤ) (F : ℕ) → q ≡ turned_problem p v → v < length p.separations → (Active active v → ⊥) → IsViolation p active v true bound F → IsUnderWay q (Active active) v bound F
begins-there p q active v bound F e below off h = subst (λ q. IsUnderWay q (Active active) v bound F) (sym e) (begins-turned p active v bound F below off h)

pub close_gap-requires-clause-under_way : goal.close_gap-requires-clause-under_way
close_gap-requires-clause-under_way c =
    let w = c.requires.violated in
    (w.0, w.1, begins-there c.args.problem.now c.in_ok-mirror.mirror c.args.active.now.items c.args.closing w.0 w.1 c.in_ok-mirror.ensures c.requires.closing c.requires.off w.2)

pub returns-clause-active : goal.returns-clause-active
returns-clause-active c = if-ok _ _ c.close_gap.result (λ u h. active-back c.args.problem.now c.args.closing c.close_gap.new.active.items c.requires.closing (subst (λ q. IsActive q c.close_gap.new.active.items) c.in_ok-mirror.ensures h)) c.close_gap.ensures.active

pub returns-clause-touched : goal.returns-clause-touched
returns-clause-touched c = if-ok _ _ c.close_gap.result (λ u h. differs-back c.args.problem.now c.args.closing c.args.active.now.items c.close_gap.new.active.items c.close_gap.new.touched.items c.requires.closing
    (subst (λ q. DiffersAt q c.args.active.now.items c.close_gap.new.active.items c.close_gap.new.touched.items) c.in_ok-mirror.ensures h)) c.close_gap.ensures.touched

pub returns-clause-closed : goal.returns-clause-closed
returns-clause-closed c = if-ok _ _ c.close_gap.result (λ u h bound F large w. closed-back c.args.problem.now c.close_gap.new.active.items c.args.closing bound F c.requires.closing c.requires.strict
    (subst (λ q. HasClosed q c.close_gap.new.active.items bound F) c.in_ok-mirror.ensures (h bound F large (begins-there c.args.problem.now c.in_ok-mirror.mirror c.args.active.now.items c.args.closing bound F c.in_ok-mirror.ensures c.requires.closing c.requires.off w)))) c.close_gap.ensures.closed
