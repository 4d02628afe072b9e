use Rattle.std.proofs.Common.{arith, rules, ◌≤◌, ◌<◌, ◌+◌, subst, sym, ℕ, List, get_or}
use Rattle.std.proofs.lemmas.List.Elements.{All-from_get_or}
use Rattle.axis_project.proofs.KeysAndRanks.{AreKeysOf, key_small, keys_next, keys_together}
use Rattle.axis_project.proofs.keys.keys_of.Goals as goal

pub overflow_add-key : goal.overflow_add-key
overflow_add-key c =
    let small = key_small c.args.parts.now c.loop-var.keys.items c.loop-var.var c.loop-var.count (get_or c.args.parts.now c.loop-var.var 0) c.loop-var.invariant in
    let key : c.key_of-key.result ≤ c.loop-var.count = omega (arith, c.key_of-key.ensures) in
    let count : c.loop-var.count ≤ 258 = omega (arith, c.loop-var.invariant.few, c.loop-var-test.true, c.requires.few) in
    search (rules, arith)

pub loop-var-preserved : goal.loop-var-preserved
loop-var-preserved c =
    let small = key_small c.args.parts.now c.loop-var.keys.items c.loop-var.var c.loop-var.count (get_or c.args.parts.now c.loop-var.var 0) c.loop-var.invariant in
    let key : c.key_of-key.result ≤ c.loop-var.count = omega (arith, c.key_of-key.ensures) in
    subst (λ (keys : List ℕ). AreKeysOf c.args.parts.now keys (c.loop-var.var + 1) c.max-count.result) (sym c.in_ok-push.ensures.items)
    (keys_next c.args.parts.now c.loop-var.keys.items c.loop-var.var c.loop-var.count c.key_of-key.result c.max-count.result c.loop-var.invariant
    (λ v below. c.requires.least v (omega (arith, c.loop-var-test.true))) c.key_of-key.ensures
    (omega (arith, c.max-count.ensures)) (omega (arith, c.max-count.ensures)) (omega (arith, c.max-count.ensures, c.loop-var.invariant.few)))

pub returns-clause-below : goal.returns-clause-below
returns-clause-below c = All-from_get_or (λ key. key < c.loop-var.count) c.loop-var.keys.items 0 (λ v within. c.loop-var.invariant.below v (omega (arith, c.loop-var.invariant.as_long)))

pub returns-clause-together : goal.returns-clause-together
returns-clause-together c = λ v w v_within w_within is.
    keys_together c.args.parts.now c.loop-var.keys.items c.loop-var.var c.loop-var.count c.loop-var.invariant v w
    (omega (arith, c.loop-var-test.false)) (omega (arith, c.loop-var-test.false)) is
