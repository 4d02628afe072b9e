use Rattle.std.proofs.Common.{map, rules, ◌∙◌, ap}
use Rattle.std.specs.Int.{w64}
use Rattle.std.proofs.lemmas.Int.{to_z-of_z}
use Rattle.block_sums.specs.Loads.{sum_of, weight_of, moment_of}
use Rattle.block_sums.proofs.Listing.{sums-are}
use Rattle.block_sums.proofs.sums.sums_of.Goals as goal

pub returns-clause-sums : goal.returns-clause-sums
returns-clause-sums c =
    sums-are c.args.problem.now c.args.active.now c.args.root c.in_ok-legs.legs.items _ _ c.in_ok-legs.ensures.tree
    (to_z-of_z w64 c.total.result (search rules) ∙ (c.total.ensures.value ∙ ap sum_of (c.deref-2.ensures.value ∙ (c.in_ok-own_weights.ensures.value ∙ ap (map (weight_of c.args.problem.now)) c.deref.ensures.value))))
    (to_z-of_z w64 c.total-2.result (search rules) ∙ (c.total-2.ensures.value ∙ ap sum_of (c.deref-4.ensures.value ∙ (c.in_ok-own_moments.ensures.value ∙ ap (map (moment_of c.args.problem.now)) c.deref-3.ensures.value))))
