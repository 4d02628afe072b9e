use Rattle.std.proofs.Common.{arith}
use Rattle.made_script.proofs.Folding.{round_more, rounds_none}
use Rattle.made_script.proofs.making.add_rounds.Goals as goal

pub loop-round-init : goal.loop-round-init
loop-round-init c = record { all = rounds_none c.args.maker.now; longer = omega arith }

pub loop-round-preserved : goal.loop-round-preserved
loop-round-preserved c = record {
  all = round_more _ _ _ _ c.loop-round.round c.loop-round.invariant.all c.in_ok-add_all.ensures.all c.in_ok-add_all-2.ensures.all;
  longer = omega (arith, c.loop-round.invariant.longer, c.in_ok-add_all.ensures.longer, c.in_ok-add_all-2.ensures.longer);
}
