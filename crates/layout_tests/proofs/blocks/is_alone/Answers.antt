use Rattle.std.proofs.Common.{◌≡◌, ◌<◌, length, rules, tests, subst}
use Rattle.units.specs.Separation.{no_separation}
use Rattle.block_sums.proofs.Alone.{one-element, open-alone}
use Rattle.layout_tests.proofs.blocks.is_alone.Goals as goal

pub returns-clause-single : goal.returns-clause-single
returns-clause-single c = λ t. one-element c.args.active.now c.args.only c.if-active-ne1.false c.if-active-only.false

pub returns-clause-below : goal.returns-clause-below
returns-clause-below c = λ t. let b : c.args.only < length c.seps.result.now = search (rules, tests, t) in subst (λ s. c.args.only < length s) c.seps.ensures.value b

pub returns-clause-open : goal.returns-clause-open
returns-clause-open c = λ t.
    let b : c.args.only < length c.seps.result.now = search (rules, tests, t) in
    let below = subst (λ s. c.args.only < length s) c.seps.ensures.value b in
    open-alone c.args.problem.now c.args.active.now c.args.only (one-element c.args.active.now c.args.only c.if-active-ne1.false c.if-active-only.false) below
    (c.seps.ensures.bounded.sound c.args.only no_separation below).apart
