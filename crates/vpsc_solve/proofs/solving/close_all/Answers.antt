use Rattle.std.proofs.Common.{◌≡◌, ◌<◌, ℕ, ℤ, pos, nat_abs, List, length, refl, sym, subst, Some, rules}
use Rattle.units.specs.Problem.{Problem}
use Rattle.units.specs.Problem as stated
use Rattle.solver_law.specs.Cost.{cost}
use Rattle.block_sums.specs.Solving.{givens_of, IsActive}
use Rattle.block_sums.specs.Rest.{HasRest}
use Rattle.vpsc_solve.specs.declared.places.Place.{Place}
use Rattle.vpsc_solve.specs.declared.violations.Violation.{Violation}
use Rattle.vpsc_solve.specs.Places.{IsBrokenAt, IsPlaced, ArePlaced, place_at}
use Rattle.vpsc_solve.specs.Stops.{IsViolation, HasClosed, DiffersAt}
use Rattle.vpsc_solve.proofs.Standing.{all-small, broken-violates, unbroken-solved}
use Rattle.vpsc_solve.proofs.Moving.{kept-or-joined}
use Rattle.vpsc_solve.proofs.Potential.{common, common-large, cost_over, same-cost, less-left}
use Rattle.vpsc_solve.proofs.solving.close_all.Goals as goal

pub first_violated-requires-clause-small : goal.first_violated-requires-clause-small
first_violated-requires-clause-small c = all-small c.args.problem.now c.closings.active.items c.closings.places c.closings.invariant.placed

pub returns-in-None-clause-solved : goal.returns-in-None-clause-solved
returns-in-None-clause-solved c = unbroken-solved c.args.problem.now c.closings.active.items c.closings.places c.seps-seps.ensures.bounded c.closings.invariant.active c.closings.invariant.placed c.in-None.ensures c.closings.invariant.rest

pub close-requires-clause-violated : goal.close-requires-clause-violated
close-requires-clause-violated c =
    let p = c.args.problem.now in
    let i = c.closings.invariant in (
      cost (givens_of p) i.rest.point,
      i.rest.Q,
      broken-violates p c.closings.active.items c.closings.places c.in-Some.violation (cost (givens_of p) i.rest.point) i.rest.Q c.seps-seps.ensures.bounded i.active i.placed c.in-Some.ensures.0 c.in-Some.ensures.1 i.rest refl,
    )

-- the lists as they are lent
differs-at : (p : Problem) (old new touched new' touched' : List ℕ) → new' ≡ new → touched' ≡ touched → DiffersAt p old new touched → DiffersAt p old new' touched'
differs-at p old new touched new' touched' e f h = subst (λ t. DiffersAt p old new' t) (sym f) (subst (λ l. DiffersAt p old l touched) (sym e) h)

placed-at : (p : Problem) (active active' : List ℕ) (places : List Place) → active' ≡ active → length places ≡ length p.desired
    → ((i : ℕ) → i < length p.desired → IsPlaced p active' i (place_at places i)) → ArePlaced p active places
placed-at p active active' places e long h = subst (λ l. ArePlaced p l places) e (record { as_long = long; each = h })

-- the closing that was made, from the cost of the places before
closed-at : (p : Problem) (active new : List ℕ) (places : List Place) (v : Violation) → stated.IsBounded p → IsActive p active → ArePlaced p active places → HasRest p active → v.sep < length p.separations → IsBrokenAt p places v.sep (Some v.above)
    → ((bound : ℤ) (F : ℕ) → 0 < F → IsViolation p active v.sep v.above bound F → HasClosed p new bound F) → HasClosed p new (pos (nat_abs (cost_over common p places))) common
closed-at p active new places v bounded forest h rest below broken closed =
    closed (pos (nat_abs (cost_over common p places))) common common-large
    (broken-violates p active places v (pos (nat_abs (cost_over common p places))) common bounded forest h below broken rest (same-cost p active places rest.point rest.Q forest h rest.rest))

rests : (p : Problem) (new : List ℕ) (bound : ℤ) (F : ℕ) → HasClosed p new bound F → HasRest p new
rests p new bound F h = record { point = h.point; Q = h.Q; rest = h.rest }

pub settle-requires-clause-others : goal.settle-requires-clause-others
settle-requires-clause-others c = kept-or-joined c.args.problem.now c.closings.active.items c.deref.result.now c.deref-in-Some.result.now c.closings.places
    (differs-at c.args.problem.now c.closings.active.items c.close.new.active.items c.close.new.touched.items c.deref.result.now c.deref-in-Some.result.now c.deref.ensures.value c.deref-in-Some.ensures.value c.in_ok-close-in-Some.ensures.touched)
    c.closings.invariant.placed

pub closings-preserved : goal.closings-preserved
closings-preserved c =
    let p = c.args.problem.now in
    let i = c.closings.invariant in
    let closed = closed-at p c.closings.active.items c.close.new.active.items c.closings.places c.in-Some.violation c.seps-seps.ensures.bounded i.active i.placed i.rest c.in-Some.ensures.0 c.in-Some.ensures.1 c.in_ok-close-in-Some.ensures.closed in
    record {
      active = c.in_ok-close-in-Some.ensures.active;
      rest = rests p c.close.new.active.items (pos (nat_abs (cost_over common p c.closings.places))) common closed;
      placed = placed-at p c.close.new.active.items c.deref.result.now c.settle.new.places c.deref.ensures.value (search rules) c.in_ok-settle-in-Some.ensures;
    }

pub closings-smaller : goal.closings-smaller
closings-smaller c =
    let p = c.args.problem.now in
    let i = c.closings.invariant in
    let closed = closed-at p c.closings.active.items c.close.new.active.items c.closings.places c.in-Some.violation c.seps-seps.ensures.bounded i.active i.placed i.rest c.in-Some.ensures.0 c.in-Some.ensures.1 c.in_ok-close-in-Some.ensures.closed in
    less-left p c.close.new.active.items c.closings.places c.settle.new.places c.seps-seps.ensures.bounded c.in_ok-close-in-Some.ensures.active
    (placed-at p c.close.new.active.items c.deref.result.now c.settle.new.places c.deref.ensures.value (search rules) c.in_ok-settle-in-Some.ensures) closed
