use Rattle.std.proofs.lemmas.Bool.{false≢true}
use Rattle.listing_text.proofs.Lines.{multipliers_more, grows}
use Rattle.listing_text.proofs.frames.add_multipliers.Goals as goal

pub loop-number-preserved : goal.loop-number-preserved
loop-number-preserved c =
    grows _ _ _ _ _ _ c.in_ok-add_multiplier_line.ensures
    (multipliers_more c.args.axis c.args.multipliers.now c.loop-number.number c.index-multipliers-number.result c.loop-number-test.true c.index-multipliers-number.is
    (λ zero. absurd (false≢true (c.if-is_zero.ensures.1 zero))))
    c.loop-number.invariant
