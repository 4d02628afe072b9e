use Rattle.std.proofs.Common.{◌≡◌, ◌<◌, ◌+◌, ℕ, rules, arith, sym, subst, get_or, true, List, Bool}
use Rattle.units.specs.Problem.{Problem}
use Rattle.vpsc_solve.specs.declared.places.Place.{Place}
use Rattle.vpsc_solve.specs.Places.{is_settled, AreSettled}
use Rattle.vpsc_solve.proofs.Placing.{none-settled, roots-next}
use Rattle.vpsc_solve.proofs.places.settle_all.Goals as goal
use Rattle.vpsc_solve.proofs.places.settle_all.Goals.{then-not-settled-root+in_ok-settle_block, else-not-settled-root}

pub loop-root-init : goal.loop-root-init
loop-root-init c = record { settled = none-settled c.args.problem.now c.args.active.now c.args.places.now c.args.settled.now c.requires.none; roots = λ k b. absurd (omega (arith, b)) }

-- what the loop keeps, at lists that are equal
record Kept (p : Problem) (active roots : List ℕ) (start places : List Place) (settled : List Bool) (k : ℕ) : Type 0 where
  pub all : AreSettled p active start places settled
  pub each : (j : ℕ) → j < k → is_settled settled (get_or roots j 0) ≡ true

kept-at : (p : Problem) (active roots : List ℕ) (start places places' : List Place) (settled settled' : List Bool) (k : ℕ) → places' ≡ places → settled' ≡ settled → Kept p active roots start places settled k → Kept p active roots start places' settled' k
kept-at p active roots start places places' settled settled' k e f h = subst (λ x. Kept p active roots start x settled' k) (sym e) (subst (λ x. Kept p active roots start places x k) (sym f) h)

pub loop-root-preserved : goal.loop-root-preserved
loop-root-preserved c =
    let p = c.args.problem.now in
    let k = c.loop-root.root-index in
    let i = c.loop-root.invariant in
    let old = c.loop-root.settled in
    let kept : Kept p c.args.active.now c.args.roots.now c.args.places.now c.if-not-settled-root.places c.if-not-settled-root.settled (k + 1) =
    elim c.if-not-settled-root.branch [
      | then-not-settled-root+in_ok-settle_block w ↦
          kept-at p c.args.active.now c.args.roots.now c.args.places.now w.settle_block.new.places c.if-not-settled-root.places w.settle_block.new.settled c.if-not-settled-root.settled (k + 1) w.places-is w.settled-is
          (record {
            all = w.in_ok-settle_block.ensures.so_far c.args.places.now i.settled;
            each = roots-next c.args.roots.now old w.settle_block.new.settled k w.in_ok-settle_block.ensures.still w.in_ok-settle_block.ensures.there i.roots;
          })
      | else-not-settled-root w ↦
          kept-at p c.args.active.now c.args.roots.now c.args.places.now c.loop-root.places c.if-not-settled-root.places old c.if-not-settled-root.settled (k + 1) w.places-is w.settled-is
          (let there : is_settled old (get_or c.args.roots.now k 0) ≡ true = search rules in
          record { all = i.settled; each = roots-next c.args.roots.now old old k (λ j e. e) there i.roots })
    ] in
    record { settled = kept.all; roots = kept.each }
