use Rattle.std.proofs.Common.{rules}
use Rattle.block_certificate.proofs.Settling.{settled-none, certificate-is}
use Rattle.block_certificate.proofs.certificate.certificate_of.Goals as goal

pub loop-root-init : goal.loop-root-init
loop-root-init c =
    settled-none c.args.problem.now c.args.active.now c.in_ok-places.places.items c.in_ok-multipliers.multipliers.items c.in_ok-placed.placed.items
    (search rules) (search rules) (search rules)

pub returns : goal.returns
returns c =
    certificate-is c.args.problem.now c.args.active.now c.loop-root.root c.deref.result.now c.deref-2.result.now c.loop-root.placed.items c.in_lowest_terms.result c.desired-count.ensures.bounded c.requires.solved
    (search (rules, c.loop-root-test.false)) (search rules) c.in_lowest_terms.ensures.places c.in_lowest_terms.ensures.multipliers
