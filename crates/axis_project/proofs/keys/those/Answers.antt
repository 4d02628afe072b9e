use Rattle.std.proofs.Common.{◌∙◌, ap}
use Rattle.axis_project.proofs.KeysAndRanks.{those_pushed, those_passed, those_whole}
use Rattle.axis_project.proofs.keys.those.Goals.{then-keys-at+in_ok-push, else-keys-at}
use Rattle.axis_project.proofs.keys.those.Goals as goal

pub loop-at-preserved : goal.loop-at-preserved
loop-at-preserved g c = elim c.if-keys-at.branch [
  | then-keys-at+in_ok-push w ↦
      those_pushed c.args.key c.args.keys.now c.args.items.now c.loop-at.list.items c.loop-at.at w.index-items-at.result c.requires c.loop-at-test.true c.loop-at.invariant
      c.if-keys-at.list.items w.if-keys-at.true (ap (λ v. v.items) w.list-is ∙ w.in_ok-push.ensures.items) w.index-items-at.is
  | else-keys-at w ↦
      those_passed c.args.key c.args.keys.now c.args.items.now c.loop-at.list.items c.loop-at.at c.requires c.loop-at-test.true c.loop-at.invariant
      c.if-keys-at.list.items w.if-keys-at.false (ap (λ v. v.items) w.list-is)
]

pub returns : goal.returns
returns g c = those_whole c.args.key c.args.keys.now c.args.items.now c.loop-at.list.items c.loop-at.at c.loop-at-test.false c.loop-at.invariant
