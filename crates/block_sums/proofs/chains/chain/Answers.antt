use Rattle.std.proofs.Common.{◌≡◌, ◌<◌, ◌+◌, ℕ, length, get_or, arith, sym, ap, ◌∙◌, rules, Bool, true, false, length-set, replicate, set, subst, ◌++◌, ◌∷◌, []}
use Rattle.units.specs.declared.geometry.Sep.{Sep}
use Rattle.units.specs.Separation.{no_separation}
use Rattle.block_sums.specs.Ends.{active_at, end_of, end_at}
use Rattle.block_sums.proofs.Places.{one_more, begun}
use Rattle.std.proofs.lemmas.List.{get_or_default}
use Rattle.block_sums.proofs.chains.chain.Goals as goal

pub loop-number-init : goal.loop-number-init
loop-number-init c =
    let zeros : c.in_ok-lasts.lasts.items ≡ replicate c.args.count 0 = search rules in
    record {
      each = search rules;
      begun = begun (end_at c.args.seps.now c.args.active.now c.args.right) c.args.count c.in_ok-lasts.lasts.items c.in_ok-befores.befores.items zeros c.in_ok-befores.ensures.items;
    }

pub loop-number-preserved : goal.loop-number-preserved
loop-number-preserved c =
    let k = c.loop-number.number-index in
    let j = c.end_of-end.result in
    let i = c.loop-number.invariant in
    let lasts = c.loop-number.lasts.items in
    let befores = c.loop-number.befores.items in
    let s = active_at c.args.seps.now c.args.active.now k in
    let there = c.requires.ends (get_or c.args.active.now k 0) no_separation (c.requires.below k 0 c.loop-number-test.true) in
    let here : end_of s c.args.right ≡ j = sym c.end_of-end.ensures in
    let within : j < c.args.count = subst (λ n. n < c.args.count) here (one s c.args.right c.args.count there.0 there.1) in
    let long : c.len.result ≡ length c.push.new.self.items = search rules in
    let more : length c.push.new.self.items ≡ length befores + 1 = search rules in
    let read : c.index.result.now ≡ get_or lasts j 0 = c.index.ensures ∙ get_or_default lasts j _ 0 (subst (λ n. j < n) (sym i.each) within) in
    record {
      each = length-set lasts j c.len.result ∙ i.each;
      begun = one_more (end_at c.args.seps.now c.args.active.now c.args.right) k c.args.count lasts befores _ c.push.new.self.items j i.begun i.each here within
          (c.in_ok-push.ensures.items ∙ ap (λ t. befores ++ t ∷ []) read) (ap (λ t. set lasts j t) (omega (arith, long, more, i.begun.all)));
    }
  where
    one : (s : Sep) (right : Bool) (n : ℕ) → s.left < n → s.right < n → end_of s right < n
    one s true n a b = b
    one s false n a b = a
