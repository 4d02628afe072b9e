use Rattle.std.proofs.Common.{◌≡◌, ◌<◌, ◌+◌, ℕ, List, Bool, true, false, Option, None, Some, length, subst, sym, eqb, eqb-true, arith, ◌≢◌, refl, ap}
use Rattle.std.proofs.lemmas.Bool.{eqb-false}
use Rattle.units.specs.declared.geometry.Sep.{Sep}
use Rattle.units.specs.Problem.{Problem}
use Rattle.units.specs.Separation.{separation_at}
use Rattle.vpsc_solve.specs.declared.places.Place.{Place}
use Rattle.vpsc_solve.specs.Places.{place_at, IsBroken, IsBrokenAt}
use Rattle.vpsc_solve.proofs.violations.first_violated.Goals as goal

-- at the separations of the problem
broken-at : (p : Problem) (places : List Place) (seps : List Sep) (k : ℕ) (how : Option Bool) → seps ≡ p.separations
    → IsBroken (separation_at seps k) (place_at places (separation_at seps k).left) (place_at places (separation_at seps k).right) how → IsBrokenAt p places k how
broken-at p places seps k how e h = subst (λ ss. IsBroken (separation_at ss k) (place_at places (separation_at ss k).left) (place_at places (separation_at ss k).right) how) e h

below-next : (P : ℕ → Type 0) (n j : ℕ) → ((j : ℕ) → j < n → P j) → P n → j < n + 1 → P j
below-next P n j old here b = by_case (eqb j n) refl
  where
    lower : (j n : ℕ) → j < n + 1 → j ≢ n → j < n
    lower j n b ne = omega arith

    by_case : (c : Bool) → eqb j n ≡ c → P j
    by_case true q = subst P (sym (eqb-true j n q)) here
    by_case false q = old j (lower j n b (eqb-false j n q))

pub returns-in-Some : goal.returns-in-Some
returns-in-Some c = (
  subst (λ (l : List Sep). c.loop-number.number < length l) c.seps-sep-items.ensures.value c.loop-number-test.true,
  broken-at c.args.problem.now c.args.places.now c.seps-sep-items.result.now c.loop-number.number (Some c.in-Some.above) c.seps-sep-items.ensures.value c.in-Some.ensures,
  c.loop-number.invariant,
)

pub loop-number-preserved : goal.loop-number-preserved
loop-number-preserved c = λ k b. below-next (λ k. IsBrokenAt c.args.problem.now c.args.places.now k None) c.loop-number.number k c.loop-number.invariant
    (broken-at c.args.problem.now c.args.places.now c.seps-sep-items.result.now c.loop-number.number None c.seps-sep-items.ensures.value c.in-None.ensures) b

pub returns : goal.returns
returns c = λ k b. c.loop-number.invariant k (let n = c.loop-number-test.false in let e = c.seps-sep-items.ensures.value in omega (arith, b, n, ap (λ (l : List Sep). length l) e))
