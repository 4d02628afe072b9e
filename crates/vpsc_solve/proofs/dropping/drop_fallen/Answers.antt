use Rattle.std.proofs.Common.{◌≡◌, ◌<◌, ℕ, List, [], ◌∷◌, length, filter, not, Option, None, Some, eqb, refl, sym, subst}
use Rattle.units.specs.Problem.{Problem}
use Rattle.vpsc_solve.specs.Hints.{HasFallen, IsFallen, AreDropped}
use Rattle.vpsc_solve.proofs.Lists.{filter-shorter, active-less}
use Rattle.vpsc_solve.proofs.Negative.{rests}
use Rattle.vpsc_solve.proofs.dropping.drop_fallen.Goals as goal

-- what was found, at the list of the loop
found-at : (p : Problem) (now list : List ℕ) (answer found : Option ℕ) → list ≡ now → answer ≡ found → IsFallen p list answer → IsFallen p now found
found-at p now list answer found e f h = subst (λ o. IsFallen p now o) f (subst (λ l. IsFallen p l answer) e h)

-- one is dropped, and then the rest
one-dropped : (p : Problem) (now new : List ℕ) (k : ℕ) (ks after : List ℕ) → new ≡ filter (λ other. not (eqb other k)) now → HasFallen p now k → AreDropped p new ks after → AreDropped p now (k ∷ ks) after
one-dropped p now new k ks after e fallen h = (fallen, subst (λ l. AreDropped p l ks after) e h)

pub drops-init : goal.drops-init
drops-init c = record { active = c.requires.active; dropped = λ ks after h. (ks, h) }

pub returns-in-None-clause-rest : goal.returns-in-None-clause-rest
returns-in-None-clause-rest c = rests c.args.problem.now c.drops.active.items c.seps-seps.ensures.bounded c.drops.invariant.active
    (found-at c.args.problem.now c.drops.active.items c.deref.result.now c.in_ok-first_fallen.field-0 None c.deref.ensures.value c.in-None.is c.in_ok-first_fallen.ensures)

pub returns-in-None-clause-dropped : goal.returns-in-None-clause-dropped
returns-in-None-clause-dropped c = c.drops.invariant.dropped [] c.drops.active.items
    (refl, found-at c.args.problem.now c.drops.active.items c.deref.result.now c.in_ok-first_fallen.field-0 None c.deref.ensures.value c.in-None.is c.in_ok-first_fallen.ensures)

pub drops-smaller : goal.drops-smaller
drops-smaller c =
    let fallen = found-at c.args.problem.now c.drops.active.items c.deref.result.now c.in_ok-first_fallen.field-0 (Some c.in-Some.number) c.deref.ensures.value c.in-Some.is c.in_ok-first_fallen.ensures in
    subst (λ l. length l < length c.drops.active.items) (sym c.drop_separation.ensures) (filter-shorter c.drops.active.items c.in-Some.number fallen.on)

pub drops-preserved : goal.drops-preserved
drops-preserved c =
    let p = c.args.problem.now in
    let now = c.drops.active.items in
    let new = c.drop_separation.new.active.items in
    let k = c.in-Some.number in
    let fallen = found-at p now c.deref.result.now c.in_ok-first_fallen.field-0 (Some k) c.deref.ensures.value c.in-Some.is c.in_ok-first_fallen.ensures in
    record {
      active = active-less p now new k c.drop_separation.ensures c.drops.invariant.active;
      dropped = λ ks after h. c.drops.invariant.dropped (k ∷ ks) after (one-dropped p now new k ks after c.drop_separation.ensures fallen h);
    }
