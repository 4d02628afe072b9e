use Rattle.std.proofs.Common.{◌≡◌, ◌<◌, ◌≤◌, ℕ, List, Bool, true, false, length, get_or, sym, ◌∙◌, subst, arith}
use Rattle.std.proofs.lemmas.List.{get_or_default}
use Rattle.units.specs.declared.geometry.Sep.{Sep}
use Rattle.units.specs.Problem.{Problem, IsSeparation}
use Rattle.units.specs.Problem as stated
use Rattle.units.specs.Separation.{no_separation, separation_at}
use Rattle.block_sums.specs.Solving.{Active}
use Rattle.block_sums.specs.Rest.{exact_of}
use Rattle.vpsc_solve.specs.Places.{is_settled}
use Rattle.vpsc_solve.specs.Hints.{AreSeen, IsNotBelow}
use Rattle.vpsc_solve.proofs.dropping.fallen_among.Goals as goal

-- the separation of an active number
active-sound : (p : Problem) (k : ℕ) (seps : List Sep) → seps ≡ p.separations → stated.IsBounded p → k < length p.separations → IsSeparation (length p.desired) (separation_at seps k)
active-sound p k seps e h b = subst (λ ss. IsSeparation (length p.desired) (separation_at ss k)) (sym e) (h.sound k no_separation b)

pub loop-number-init : goal.loop-number-init
loop-number-init c = record { seen = c.requires.seen; all = λ i b. absurd (omega (arith, b)) }

pub bounds-seps-number : goal.bounds-seps-number
bounds-seps-number c = subst (λ (l : List Sep). get_or c.args.active.now c.loop-number.number-index 0 < length l) (sym c.seps-seps.ensures.value) (c.requires.active.below c.loop-number.number-index 0 c.loop-number-test.true)

pub fallen_from-requires-clause-active : goal.fallen_from-requires-clause-active
fallen_from-requires-clause-active c = c.requires.active

pub fallen_from-requires-clause-root : goal.fallen_from-requires-clause-root
fallen_from-requires-clause-root c =
    (active-sound c.args.problem.now (get_or c.args.active.now c.loop-number.number-index 0) c.seps-seps.result.now c.seps-seps.ensures.value c.seps-seps.ensures.bounded
    (c.requires.active.below c.loop-number.number-index 0 c.loop-number-test.true)).left

pub fallen_from-requires-clause-lefts : goal.fallen_from-requires-clause-lefts
fallen_from-requires-clause-lefts c = c.requires.lefts

pub fallen_from-requires-clause-rights : goal.fallen_from-requires-clause-rights
fallen_from-requires-clause-rights c = c.requires.rights

pub fallen_from-requires-clause-seen : goal.fallen_from-requires-clause-seen
fallen_from-requires-clause-seen c = c.loop-number.invariant.seen

-- where the left ends of all active separations are marked, none has fallen
none-below : (p : Problem) (active : List ℕ) (seen : List Bool) (n : ℕ) → AreSeen p active seen → ((i : ℕ) → i < n → is_settled seen (separation_at p.separations (get_or active i 0)).left ≡ true) → length active ≤ n
    → (k : ℕ) → Active active k → exact_of p k ≡ false → IsNotBelow p active k
none-below p active seen n s all long k on loose = s.right k on (subst (λ j. is_settled seen (separation_at p.separations j).left ≡ true) (get_or_default active on.0 0 k on.1 ∙ on.2) (all on.0 (within on.0 (length active) n on.1 long))) loose
  where
    within : (i m n : ℕ) → i < m → m ≤ n → i < n
    within i m n h g = omega arith

pub returns : goal.returns
returns c = none-below c.args.problem.now c.args.active.now c.loop-number.seen c.loop-number.number-index c.loop-number.invariant.seen c.loop-number.invariant.all c.loop-number-test.false
