use Rattle.std.proofs.Common.{◌≡◌, ◌<◌, length, ◌+ℤ◌, ◌*◌, ◌≤◌, ◌+◌, ℕ, rules, nat_abs, w64, to_z, of_z, arith, sym, subst, ap, ◌∙◌}
use Rattle.std.specs.Prelude.{FitsSigned}
use Rattle.std.proofs.lemmas.Int.{to_z-of_z}
use Rattle.stress_step.specs.Pulls.{partner_pull}
use Rattle.stress_step.specs.Sums.{total_below}
use Rattle.stress_step.proofs.Totals.{total-next, distances-long, distance-at}
use Rattle.stress_step.proofs.pulling.pulls.Goals as goal

pub bounds-distances-j : goal.bounds-distances-j
bounds-distances-j c =
    let inside : c.loop-j.j < length c.args.scene.now.shapes = omega (arith, c.loop-j-test.true, c.count-j-end.ensures.value) in
    subst (λ n. c.loop-j.j < n) (sym (distances-long c.args.scene.now c.args.places.now c.args.i c.args.distances.now c.requires.measured)) inside

pub partner_pull-requires-clause-measured : goal.partner_pull-requires-clause-measured
partner_pull-requires-clause-measured c =
    let inside : c.loop-j.j < length c.args.scene.now.shapes = omega (arith, c.loop-j-test.true, c.count-j-end.ensures.value) in
    distance-at c.args.scene.now c.args.places.now c.args.i c.args.distances.now c.loop-j.j c.requires.measured inside

pub partner_pull-requires-clause-within : goal.partner_pull-requires-clause-within
partner_pull-requires-clause-within c =
    let inside : c.loop-j.j < length c.args.scene.now.shapes = omega (arith, c.loop-j-test.true, c.count-j-end.ensures.value) in
    let as_long = distances-long c.args.scene.now c.args.places.now c.args.i c.args.distances.now c.requires.measured in
    c.requires.within c.loop-j.j 0 (subst (λ n. c.loop-j.j < n) (sym as_long) inside)

pub loop-j-preserved : goal.loop-j-preserved
loop-j-preserved c =
    let fits : FitsSigned w64 c.added-total.result = search rules in
    let read : to_z w64 (of_z w64 c.added-total.result) ≡ c.added-total.result = to_z-of_z w64 _ fits in
    let one : FitsSigned w64 c.partner_pull.result = search rules in
    let read_one : to_z w64 (of_z w64 c.partner_pull.result) ≡ c.partner_pull.result = to_z-of_z w64 _ one in
    let f = λ (j : ℕ). partner_pull c.args.scene.now c.args.axis c.args.places.now c.args.i j in
    record {
      total =
          read ∙ (c.added-total.ensures.value
          ∙ (ap (λ z. z +ℤ to_z w64 (of_z w64 c.partner_pull.result)) c.loop-j.invariant.total
          ∙ (ap (λ z. total_below f c.loop-j.j +ℤ z) (read_one ∙ c.partner_pull.ensures.value)
          ∙ sym (total-next f c.loop-j.j))));
      near = subst (λ z. nat_abs z ≤ 21708000000000000 * (c.loop-j.j + 1)) (sym read) (omega (arith, c.added-total.ensures.near, c.loop-j.invariant.near));
    }
