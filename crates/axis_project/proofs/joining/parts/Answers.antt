use Rattle.std.proofs.Common.{sym, subst, arith, ◌+◌}
use Rattle.axis_project.specs.Labels.{AreLabels}
use Rattle.axis_project.proofs.Chains.{labels_next, labels_alone, parts_of}
use Rattle.axis_project.proofs.joining.parts.Goals as goal

pub loop-at-init : goal.loop-at-init
loop-at-init c = labels_alone c.args.seps.now c.args.n c.requires.sound c.in_ok-labels.labels.items c.in_ok-labels.ensures.as_long c.in_ok-labels.ensures.own

pub loop-at-preserved : goal.loop-at-preserved
loop-at-preserved c =
    subst (AreLabels c.args.n c.args.seps.now (c.loop-at.at + 1)) (sym c.join.ensures)
    (labels_next c.args.seps.now c.args.n c.requires.sound c.loop-at.labels.items c.loop-at.at c.loop-at.invariant c.loop-at-test.true)

pub returns : goal.returns
returns c =
    parts_of c.args.seps.now c.args.n c.requires.sound c.loop-at.labels.items
    (subst (λ k. AreLabels c.args.n c.args.seps.now k c.loop-at.labels.items) (omega (arith, c.loop-at.auto.at-end, c.loop-at-test.false)) c.loop-at.invariant)
