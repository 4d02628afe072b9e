use Rattle.std.proofs.Common.{arith}
use Rattle.made_script.proofs.Folding.{numbered_none, one_more}
use Rattle.made_script.proofs.making.Maker.add_all.Goals as goal

pub loop-k-init : goal.loop-k-init
loop-k-init c = record { all = numbered_none c.args.self.now c.args.kind; longer = omega arith }

pub loop-k-preserved : goal.loop-k-preserved
loop-k-preserved c = record {
  all = one_more _ _ _ c.args.kind c.loop-k.k c.loop-k.invariant.all c.in_ok-add.ensures.made;
  longer = omega (arith, c.loop-k.invariant.longer, c.in_ok-add.ensures.longer);
}
