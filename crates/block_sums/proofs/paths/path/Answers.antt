use Rattle.std.proofs.Common.{rules, sym, ◌∙◌, subst}
use Rattle.std.proofs.lemmas.List.{get_or_default}
use Rattle.block_sums.specs.Legs.{no_leg, IsReached}
use Rattle.block_sums.proofs.Climbing.{begins-within, climbs-leg}
use Rattle.block_sums.proofs.paths.path.Goals as goal

pub number_of-at-requires : goal.number_of-at-requires
number_of-at-requires c =
    subst (λ ls. IsReached ls c.args.from) (sym c.deref.ensures.value)
    (begins-within c.args.problem.now c.args.active.now c.args.to c.args.from c.in_ok-legs.legs.items c.in_ok-legs.ensures.tree c.requires.joined)

pub loop-at-preserved : goal.loop-at-preserved
loop-at-preserved c =
    climbs-leg c.args.problem.now.separations c.args.active.now c.args.to c.in_ok-legs.legs.items c.args.from c.loop-at.at c.loop-at.steps c.push.new.self c.index-leg.result.now
    c.in_ok-legs.ensures.tree.tree (search (rules, c.loop-at-test.true)) c.loop-at.invariant
    (c.index-leg.ensures ∙ get_or_default c.in_ok-legs.legs.items c.loop-at.at c.index-leg.result.now no_leg c.loop-at.invariant.among)
    c.in_ok-push.ensures.added
