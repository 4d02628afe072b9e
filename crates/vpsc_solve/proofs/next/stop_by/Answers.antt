use Rattle.std.proofs.Common.{◌≡◌, rules, sym, length, true, false, subst, IsTrue, None, Some, Option, ℕ, ◌<◌, ◌<ℤ◌, pos, ℤ, List, Bool}
use Rattle.std.specs.List.{All}
use Rattle.units.specs.declared.geometry.Sep.{Sep}
use Rattle.std.specs.Option.{IfSome}
use Rattle.units.specs.Problem.{Problem, IsSeparation}
use Rattle.units.specs.Problem as stated
use Rattle.block_sums.specs.declared.legs.Leg.{Leg}
use Rattle.block_sums.specs.declared.stops.Threshold.{Threshold}
use Rattle.units.specs.Separation.{separation_at, no_separation}
use Rattle.block_sums.specs.Legs.{IsReached}
use Rattle.block_sums.specs.Loads.{load_at}
use Rattle.block_sums.specs.Solving.{IsSweep, AreMarks, TellsStates}
use Rattle.block_sums.specs.Stops.{IsSmall, IsFirst, IsClosingForce}
use Rattle.vpsc_solve.proofs.Deciding.{IsAsked, IsLooked, AreLooked, within-answer, between-answer, legs-among}
use Rattle.vpsc_solve.proofs.next.stop_by.Goals as goal

-- the separation that is being closed
closing-sound : (p : Problem) (v : ℕ) (seps : List Sep) → seps ≡ p.separations → stated.IsBounded p → v < length p.separations → IsSeparation (length p.desired) (separation_at seps v)
closing-sound p v seps e h b = subst (λ ss. IsSeparation (length p.desired) (separation_at ss v)) (sym e) (h.sound v no_separation b)

-- what was found first is small
first-small : (seps : List Sep) (legs : List Leg) (w m k : List ℤ) (n : ℕ) (before first : Option Threshold) → IsFirst seps legs w m k n before first → IfSome first IsSmall
first-small seps legs w m k n before None h = tt
first-small seps legs w m k n before (Some t) h = h.0

pub bounds-seps-closing : goal.bounds-seps-closing
bounds-seps-closing c = subst (λ (l : List Sep). c.args.closing < length l) (sym c.seps.ensures.value) c.requires.closing

pub sweep_pushed-requires-clause-active : goal.sweep_pushed-requires-clause-active
sweep_pushed-requires-clause-active c = c.requires.active

pub sweep_pushed-requires-clause-root : goal.sweep_pushed-requires-clause-root
sweep_pushed-requires-clause-root c = (closing-sound c.args.problem.now c.args.closing c.seps.result.now c.seps.ensures.value c.seps.ensures.bounded c.requires.closing).left

pub sweep_pushed-requires-clause-closing : goal.sweep_pushed-requires-clause-closing
sweep_pushed-requires-clause-closing c = c.requires.closing

pub sweep_pushed-requires-clause-off : goal.sweep_pushed-requires-clause-off
sweep_pushed-requires-clause-off c = c.requires.off

pub sweep_pushed-requires-clause-lefts : goal.sweep_pushed-requires-clause-lefts
sweep_pushed-requires-clause-lefts c = c.requires.lefts

pub sweep_pushed-requires-clause-rights : goal.sweep_pushed-requires-clause-rights
sweep_pushed-requires-clause-rights c = c.requires.rights

pub sweep_pushed-requires-2-clause-active : goal.sweep_pushed-requires-2-clause-active
sweep_pushed-requires-2-clause-active c = c.requires.active

pub sweep_pushed-requires-2-clause-root : goal.sweep_pushed-requires-2-clause-root
sweep_pushed-requires-2-clause-root c = (closing-sound c.args.problem.now c.args.closing c.seps.result.now c.seps.ensures.value c.seps.ensures.bounded c.requires.closing).right

pub sweep_pushed-requires-2-clause-closing : goal.sweep_pushed-requires-2-clause-closing
sweep_pushed-requires-2-clause-closing c = c.requires.closing

pub sweep_pushed-requires-2-clause-off : goal.sweep_pushed-requires-2-clause-off
sweep_pushed-requires-2-clause-off c = c.requires.off

pub sweep_pushed-requires-2-clause-lefts : goal.sweep_pushed-requires-2-clause-lefts
sweep_pushed-requires-2-clause-lefts c = c.requires.lefts

pub sweep_pushed-requires-2-clause-rights : goal.sweep_pushed-requires-2-clause-rights
sweep_pushed-requires-2-clause-rights c = c.requires.rights

pub first_fall-first-requires-clause-bounded : goal.first_fall-first-requires-clause-bounded
first_fall-first-requires-clause-bounded c = c.in_ok-left.ensures.bounded

pub first_fall-first-requires-clause-small : goal.first_fall-first-requires-clause-small
first_fall-first-requires-clause-small c = c.in_ok-left.ensures.small

pub first_fall-sooner-requires-clause-before : goal.first_fall-sooner-requires-clause-before
first_fall-sooner-requires-clause-before c =
    first-small c.seps-2.result.now c.in_ok-left.left.block.legs.items c.in_ok-left.left.block.weights.items c.in_ok-left.left.block.moments.items c.in_ok-left.left.marks.items (length c.in_ok-left.left.block.legs.items) None c.first_fall-first.result c.first_fall-first.ensures

pub first_fall-sooner-requires-clause-bounded : goal.first_fall-sooner-requires-clause-bounded
first_fall-sooner-requires-clause-bounded c = c.in_ok-right.ensures.bounded

pub first_fall-sooner-requires-clause-small : goal.first_fall-sooner-requires-clause-small
first_fall-sooner-requires-clause-small c = c.in_ok-right.ensures.small

pub force_between-force-requires-clause-gap : goal.force_between-force-requires-clause-gap
force_between-force-requires-clause-gap c = (closing-sound c.args.problem.now c.args.closing c.seps.result.now c.seps.ensures.value c.seps.ensures.bounded c.requires.closing).gap

pub stop_between-requires-clause-first : goal.stop_between-requires-clause-first
stop_between-requires-clause-first c =
    first-small c.seps-3.result.now c.in_ok-right.right.block.legs.items c.in_ok-right.right.block.weights.items c.in_ok-right.right.block.moments.items c.in_ok-right.right.marks.items (length c.in_ok-right.right.block.legs.items) c.first_fall-first.result c.first_fall-sooner.result c.first_fall-sooner.ensures

pub stop_between-requires-clause-force : goal.stop_between-requires-clause-force
stop_between-requires-clause-force c = c.force_between-force.ensures.small

pub first_fall-first-requires-clause-among : goal.first_fall-first-requires-clause-among
first_fall-first-requires-clause-among c = legs-among c.args.problem.now c.args.active.now _ c.in_ok-left.left.block.legs.items _ _ c.seps-2.result.now c.requires.active c.in_ok-left.ensures.sums c.seps-2.ensures.value

pub first_fall-sooner-requires-clause-among : goal.first_fall-sooner-requires-clause-among
first_fall-sooner-requires-clause-among c = legs-among c.args.problem.now c.args.active.now _ c.in_ok-right.right.block.legs.items _ _ c.seps-3.result.now c.requires.active c.in_ok-right.ensures.sums c.seps-3.ensures.value

-- what a sweep told, at the separations of the problem
looked-left : (p : Problem) (active : List ℕ) (v : ℕ) (seps : List Sep) (legs : List Leg) (w m k : List ℤ) → seps ≡ p.separations → IsSweep p active (separation_at seps v).left legs w m → AreMarks p v legs k → TellsStates p active v legs w m k
    → pos 0 <ℤ load_at w 0 → All (λ leg. leg.variable < length p.desired) legs → IsLooked p active v (separation_at p.separations v).left legs w m k
looked-left p active v seps legs w m k e s a t h i = record { sums = subst (λ ss. IsSweep p active (separation_at ss v).left legs w m) e s; marked = a; tells = t; heavy = h; within = i }

looked-right : (p : Problem) (active : List ℕ) (v : ℕ) (seps : List Sep) (legs : List Leg) (w m k : List ℤ) → seps ≡ p.separations → IsSweep p active (separation_at seps v).right legs w m → AreMarks p v legs k → TellsStates p active v legs w m k
    → pos 0 <ℤ load_at w 0 → All (λ leg. leg.variable < length p.desired) legs → IsLooked p active v (separation_at p.separations v).right legs w m k
looked-right p active v seps legs w m k e s a t h i = record { sums = subst (λ ss. IsSweep p active (separation_at ss v).right legs w m) e s; marked = a; tells = t; heavy = h; within = i }

reached-there : (v : ℕ) (seps ss : List Sep) (legs ls : List Leg) → seps ≡ ss → ls ≡ legs → IsReached ls (separation_at seps v).right → IsReached legs (separation_at ss v).right
reached-there v seps ss legs ls e f r = subst (λ l. IsReached l (separation_at ss v).right) f (subst (λ s. IsReached ls (separation_at s v).right) e r)

first-at : (seps ss : List Sep) (legs : List Leg) (w m k : List ℤ) (n : ℕ) (before result : Option Threshold) → seps ≡ ss → IsFirst seps legs w m k n before result → IsFirst ss legs w m k n before result
first-at seps ss legs w m k n before result e h = subst (λ s. IsFirst s legs w m k n before result) e h

is-so : (b : Bool) → b ≡ true → IsTrue b
is-so b e = search (e, rules)

pub returns-then-is_reached : goal.returns-then-is_reached
returns-then-is_reached c =
    let p = c.args.problem.now in
    let v = c.args.closing in
    let l = c.in_ok-left.left in
    let e = c.in_ok-left.ensures in
    let asked : IsAsked p c.args.active.now v = record { bounded = c.seps.ensures.bounded; forest = c.requires.active; below = c.requires.closing; off = c.requires.off } in
    let looked = looked-left p c.args.active.now v c.seps.result.now l.block.legs.items l.block.weights.items l.block.moments.items l.marks.items c.seps.ensures.value e.sums e.marks e.tells e.heavy e.within in
    let there = reached-there v c.seps.result.now p.separations l.block.legs.items c.deref.result.now c.seps.ensures.value c.deref.ensures.value (c.is_reached.ensures.0 (is-so c.is_reached.result c.if-is_reached.true)) in
    let first = first-at c.seps-2.result.now p.separations l.block.legs.items l.block.weights.items l.block.moments.items l.marks.items (length l.block.legs.items) None c.first_fall-first.result c.seps-2.ensures.value c.first_fall-first.ensures in
    within-answer p c.args.active.now v l.block.legs.items l.block.weights.items l.block.moments.items l.marks.items c.first_fall-first.result c.stop_within.result asked looked there first c.requires.feasible c.requires.under_way c.stop_within.ensures

back-there : (v : ℕ) (seps ss : List Sep) (legs ls : List Leg) → seps ≡ ss → ls ≡ legs → IsReached legs (separation_at ss v).right → IsReached ls (separation_at seps v).right
back-there v seps ss legs ls e f r = reached-there v ss seps ls legs (sym e) (sym f) r

not-so : (b : Bool) → b ≡ false → IsTrue b → ⊥
not-so b e t = search (e, t, rules)

force-at : (v : ℕ) (seps ss : List Sep) (a b d e : ℤ) (t : Threshold) → seps ≡ ss → IsClosingForce (separation_at seps v).gap a b d e t → IsClosingForce (separation_at ss v).gap a b d e t
force-at v seps ss a b d e t q h = subst (λ s. IsClosingForce (separation_at s v).gap a b d e t) q h

pub returns : goal.returns
returns c =
    let p = c.args.problem.now in
    let v = c.args.closing in
    let l = c.in_ok-left.left in
    let r = c.in_ok-right.right in
    let e = c.in_ok-left.ensures in
    let g = c.in_ok-right.ensures in
    let asked : IsAsked p c.args.active.now v = record { bounded = c.seps.ensures.bounded; forest = c.requires.active; below = c.requires.closing; off = c.requires.off } in
    let both : AreLooked p c.args.active.now v l.block.legs.items l.block.weights.items l.block.moments.items l.marks.items r.block.legs.items r.block.weights.items r.block.moments.items r.marks.items = record {
      asked = asked;
      on_left = looked-left p c.args.active.now v c.seps.result.now l.block.legs.items l.block.weights.items l.block.moments.items l.marks.items c.seps.ensures.value e.sums e.marks e.tells e.heavy e.within;
      on_right = looked-right p c.args.active.now v c.seps.result.now r.block.legs.items r.block.weights.items r.block.moments.items r.marks.items c.seps.ensures.value g.sums g.marks g.tells g.heavy g.within;
      out = λ there. not-so c.is_reached.result c.if-is_reached.false (c.is_reached.ensures.1 (back-there v c.seps.result.now p.separations l.block.legs.items c.deref.result.now c.seps.ensures.value c.deref.ensures.value there));
    } in
    between-answer p c.args.active.now v l.block.legs.items l.block.weights.items l.block.moments.items l.marks.items r.block.legs.items r.block.weights.items r.block.moments.items r.marks.items c.force_between-force.result c.first_fall-first.result c.first_fall-sooner.result c.stop_between.result both
    (force-at v c.seps.result.now p.separations _ _ _ _ c.force_between-force.result c.seps.ensures.value c.force_between-force.ensures.force) c.force_between-force.ensures.small
    (first-at c.seps-2.result.now p.separations l.block.legs.items l.block.weights.items l.block.moments.items l.marks.items (length l.block.legs.items) None c.first_fall-first.result c.seps-2.ensures.value c.first_fall-first.ensures)
    (first-at c.seps-3.result.now p.separations r.block.legs.items r.block.weights.items r.block.moments.items r.marks.items (length r.block.legs.items) c.first_fall-first.result c.first_fall-sooner.result c.seps-3.ensures.value c.first_fall-sooner.ensures)
    c.stop_between.ensures
