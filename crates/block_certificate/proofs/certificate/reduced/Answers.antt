use Rattle.std.proofs.Common.{pos, rules, ◌∙◌}
use Rattle.std.proofs.lemmas.List.{get_or_default}
use Rattle.frac128.specs.Fraction.{whole}
use Rattle.block_certificate.proofs.Settling.{reduced-push}
use Rattle.block_certificate.proofs.certificate.reduced.Goals as goal

pub loop-fraction-preserved : goal.loop-fraction-preserved
loop-fraction-preserved c =
    reduced-push c.args.fractions.now c.loop-fraction.lowest.items c.loop-fraction.fraction-index c.fraction-item.result c.reduced.result c.push.new.self.items
    c.loop-fraction-test.true (c.fraction-item.is ∙ get_or_default c.args.fractions.now c.loop-fraction.fraction-index c.fraction-item.result (whole (pos 0)) c.loop-fraction-test.true)
    c.reduced.ensures.same c.reduced.ensures.lowest c.loop-fraction.invariant (search rules)
