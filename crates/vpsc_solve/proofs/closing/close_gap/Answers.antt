use Rattle.std.proofs.Common.{◌≡◌, ◌<◌, sym, length, subst, ℕ, List}
use Rattle.units.specs.Problem.{Problem}
use Rattle.solver_law.specs.Forest.{Without}
use Rattle.block_sums.specs.Solving.{Active}
use Rattle.vpsc_solve.specs.declared.stops.Stop.{Stop}
use Rattle.vpsc_solve.specs.declared.stops.Stop.TheVariants.{Closes, Falls}
use Rattle.vpsc_solve.specs.Stops.{IsStop, IsUnderWay}
use Rattle.vpsc_solve.proofs.Touching.{touched-more, touched-now, differs-first, differs-less, differs-more}
use Rattle.vpsc_solve.proofs.Lists.{left-over, keeps-over, filter-shorter, way-same, closed-list, active-less, active-more}
use Rattle.vpsc_solve.proofs.closing.close_gap.Goals as goal

-- the stop that the program found, at the list of the loop
stop-at : (p : Problem) (now list : List ℕ) (v : ℕ) (stop found : Stop) → list ≡ now → stop ≡ found → IsStop p list v stop → IsStop p now v found
stop-at p now list v stop found e f h = subst (λ s. IsStop p now v s) f (subst (λ l. IsStop p l v stop) e h)

pub next_stop-requires-clause-under_way : goal.next_stop-requires-clause-under_way
next_stop-requires-clause-under_way c =
    let w = c.requires.under_way in
    (w.0, w.1, subst (λ l. IsUnderWay c.args.problem.now (Active l) c.args.closing w.0 w.1) (sym c.deref.ensures.value) (c.stops.invariant.way w.0 w.1 w.2))

pub returns-in-Closes-clause-active : goal.returns-in-Closes-clause-active
returns-in-Closes-clause-active c =
    let s = stop-at c.args.problem.now c.stops.active.items c.deref.result.now c.args.closing c.in_ok-next_stop.field-0 Closes c.deref.ensures.value c.in-Closes.is c.in_ok-next_stop.ensures in
    active-more c.args.problem.now c.stops.active.items c.push.new.self.items c.args.closing c.in_ok-push-in-Closes.ensures.items c.stops.invariant.active c.requires.closing s.0

pub returns-in-Closes-clause-closed : goal.returns-in-Closes-clause-closed
returns-in-Closes-clause-closed c = λ bound factor large way.
    let s = stop-at c.args.problem.now c.stops.active.items c.deref.result.now c.args.closing c.in_ok-next_stop.field-0 Closes c.deref.ensures.value c.in-Closes.is c.in_ok-next_stop.ensures in
    closed-list c.args.problem.now c.stops.active.items c.push.new.self.items c.args.closing bound factor c.in_ok-push-in-Closes.ensures.items (s.1 bound factor large (c.stops.invariant.way bound factor way))

pub stops-smaller : goal.stops-smaller
stops-smaller c =
    let s = stop-at c.args.problem.now c.stops.active.items c.deref.result.now c.args.closing c.in_ok-next_stop.field-0 (Falls c.in-Falls.number) c.deref.ensures.value c.in-Falls.is c.in_ok-next_stop.ensures in
    subst (λ l. length l < length c.stops.active.items) (sym c.drop_separation.ensures) (filter-shorter c.stops.active.items c.in-Falls.number s.0)

pub stops-preserved : goal.stops-preserved
stops-preserved c =
    let p = c.args.problem.now in
    let old = c.stops.active.items in
    let new = c.drop_separation.new.active.items in
    let k = c.in-Falls.number in
    let e = c.drop_separation.ensures in
    let i = c.stops.invariant in
    let s = stop-at p old c.deref.result.now c.args.closing c.in_ok-next_stop.field-0 (Falls k) c.deref.ensures.value c.in-Falls.is c.in_ok-next_stop.ensures in
    record {
      active = active-less p old new k e i.active;
      own = touched-more p c.stops.touched.items c.touch-in-Falls.new.touched.items k c.in_ok-touch-in-Falls.ensures.noted c.args.closing i.own;
      differs = differs-less p c.args.active.now.items old new c.stops.touched.items _ k c.touch-in-Falls.ensures.sound e c.in_ok-touch-in-Falls.ensures.noted i.differs;
      off = λ on. i.off (left-over old k c.args.closing (subst (λ l. Active l c.args.closing) e on)).0;
      way = λ bound factor way. way-same p (Without (Active old) k) (Active new) c.args.closing bound factor
          (λ j w. subst (λ l. Active l j) (sym e) (keeps-over old k j w.0 w.1)) (λ j on. left-over old k j (subst (λ l. Active l j) e on))
          (s.2 bound factor (i.way bound factor way));
    }

pub stops-init : goal.stops-init
stops-init c = record {
  active = c.requires.active;
  off = c.requires.off;
  own = touched-now c.args.problem.now c.args.touched.now.items c.touch.new.touched.items c.args.closing c.in_ok-touch.ensures.noted;
  differs = differs-first c.args.problem.now c.args.active.now.items c.touch.new.touched.items c.args.touched.now.items c.args.closing c.touch.ensures.sound c.requires.empty c.in_ok-touch.ensures.noted;
  way = λ bound factor way. way;
}

pub returns-in-Closes-clause-touched : goal.returns-in-Closes-clause-touched
returns-in-Closes-clause-touched c = differs-more c.args.problem.now c.args.active.now.items c.stops.active.items c.push.new.self.items c.stops.touched.items c.args.closing c.in_ok-push-in-Closes.ensures.items c.stops.invariant.own c.stops.invariant.differs
