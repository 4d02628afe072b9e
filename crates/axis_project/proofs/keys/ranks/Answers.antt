use Rattle.std.proofs.Common.{arith, ◌≡◌, ◌∙◌, ◌+◌, subst, sym, ℕ, List, get_or, set, length}
use Rattle.axis_project.proofs.KeysAndRanks.{AreRanksOf, ranks_none, rank_small, ranks_next}
use Rattle.axis_project.proofs.keys.ranks.Goals as goal

pub loop-at-init : goal.loop-at-init
loop-at-init c =
    subst (λ (counts : List ℕ). AreRanksOf c.args.keys.now counts c.in_ok-ranks.ranks.items 0 c.args.count) (sym c.in_ok-counts.ensures)
    (ranks_none c.args.keys.now c.in_ok-ranks.ranks.items c.args.count c.in_ok-ranks.ensures.items)

pub count_on-requires-clause-within : goal.count_on-requires-clause-within
count_on-requires-clause-within c =
    let below = c.requires.below c.loop-at.at 0 c.loop-at-test.true in omega (arith, c.loop-at.invariant.all_keys)

pub count_on-requires-clause-room : goal.count_on-requires-clause-room
count_on-requires-clause-room c =
    let small = rank_small c.args.keys.now c.loop-at.counts.items c.loop-at.ranks.items c.loop-at.at c.args.count c.loop-at.invariant c.loop-at-test.true (c.requires.below c.loop-at.at 0 c.loop-at-test.true) in
    omega (arith, c.loop-at-test.true, c.requires.few)

pub loop-at-preserved : goal.loop-at-preserved
loop-at-preserved c =
    subst (λ (counts : List ℕ). AreRanksOf c.args.keys.now counts c.push.new.self.items (c.loop-at.at + 1) c.args.count) (sym c.count_on.ensures.after)
    (subst (λ (ranks : List ℕ). AreRanksOf c.args.keys.now (set c.loop-at.counts.items (get_or c.args.keys.now c.loop-at.at 0) (get_or c.loop-at.counts.items (get_or c.args.keys.now c.loop-at.at 0) 0 + 1)) ranks (c.loop-at.at + 1) c.args.count) (sym c.in_ok-push.ensures.items)
    (ranks_next c.args.keys.now c.loop-at.counts.items c.loop-at.ranks.items c.loop-at.at c.args.count c.loop-at.invariant c.loop-at-test.true (c.requires.below c.loop-at.at 0 c.loop-at-test.true) c.count_on.result c.count_on.ensures.value))

pub returns : goal.returns
returns c =
    let at : c.loop-at.at ≡ length c.args.keys.now = omega (arith, c.loop-at.auto.at-end, c.loop-at-test.false) in
    record { as_long = c.loop-at.invariant.as_long ∙ at; each = λ v within. c.loop-at.invariant.each v (omega (arith, at)) }
