use Rattle.std.proofs.Common.{◌≡◌, ◌+◌, Bool, true, false, IsTrue, rules, sym, ◌∙◌, subst}
use Rattle.block_sums.specs.Blocks.{IsFound}
use Rattle.block_sums.proofs.Climbing.{found-more, found-same}
use Rattle.block_sums.proofs.blocks.reached_below.Goals as goal
use Rattle.block_sums.proofs.blocks.reached_below.Goals.{then-is_reached+in_ok-push, else-is_reached}

is-so : (b : Bool) → b ≡ true → IsTrue b
is-so b e = search (e, rules)

not-so : (b : Bool) → b ≡ false → IsTrue b → ⊥
not-so b e t = search (e, t, rules)

pub loop-variable-preserved : goal.loop-variable-preserved
loop-variable-preserved c =
    elim c.if-is_reached.branch [
      | then-is_reached+in_ok-push w ↦
          found-more c.args.legs.now c.loop-variable.variable c.loop-variable.variables c.if-is_reached.variables c.loop-variable.invariant
          (c.is_reached.ensures.0 (is-so c.is_reached.result w.if-is_reached.true)) (w.variables-is ∙ w.in_ok-push.ensures.added)
      | else-is_reached w ↦
          subst (λ vs. IsFound c.args.legs.now (c.loop-variable.variable + 1) vs) (sym w.variables-is)
          (found-same c.args.legs.now c.loop-variable.variable c.loop-variable.variables c.loop-variable.invariant (λ r. not-so c.is_reached.result w.if-is_reached.false (c.is_reached.ensures.1 r)))
    ]
