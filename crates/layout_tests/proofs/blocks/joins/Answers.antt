use Rattle.std.proofs.Common.{◌≡◌, ◌<◌, length, not, rules, tests, subst, sym, ◌∙◌}
use Rattle.units.specs.Separation.{separation_at}
use Rattle.block_sums.specs.Ends.{end_of}
use Rattle.block_sums.proofs.Alone.{joined-alone}
use Rattle.layout_tests.proofs.blocks.joins.Goals as goal

pub bounds-seps-step : goal.bounds-seps-step
bounds-seps-step c = subst (λ s. c.args.step.sep < length s) (sym c.seps.ensures.value) (c.is_alone.ensures.below (search rules))

pub returns : goal.returns
returns c = λ t.
    let e : c.end_of-2.result ≡ c.args.to = search (rules, tests, t) in
    joined-alone c.args.problem.now c.args.active.now c.args.step.sep c.args.from c.args.to c.args.step.along (c.is_alone.ensures.single (search rules))
    (subst (λ s. end_of (separation_at s c.args.step.sep) (not c.args.step.along) ≡ c.args.from) c.seps.ensures.value (sym c.end_of.ensures ∙ c.if-end_of-from.false))
    (subst (λ s. end_of (separation_at s c.args.step.sep) c.args.step.along ≡ c.args.to) c.seps.ensures.value (sym c.end_of-2.ensures ∙ e))
