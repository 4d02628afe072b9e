use Rattle.std.proofs.Common.{◌+◌, ◌++◌, ℕ, List, Vec, Global, ap, sym, ◌∙◌, drop}
use Rattle.std.proofs.lemmas.List.{append-nil, drop_all}
use Rattle.frac128.specs.Fraction.{Fraction}
use Rattle.doc_book.specs.Hints.{pushing_from, pushing}
use Rattle.doc_book.proofs.Pushing.{pushing-same, pushing-more}
use Rattle.doc_book.proofs.hints.pushing.Goals.{then-is_pushing+in_ok-push, else-is_pushing}
use Rattle.doc_book.proofs.hints.pushing.Goals as goal

pub loop-number-init : goal.loop-number-init
loop-number-init c = ap (λ numbers. numbers ++ pushing c.args.multipliers.now) c.new-numbers.ensures.items

pub loop-number-preserved : goal.loop-number-preserved
loop-number-preserved c = elim c.if-is_pushing.branch [
  | then-is_pushing+in_ok-push w ↦
      ap (λ numbers. numbers ++ pushing_from (c.loop-number.number + 1) (drop (c.loop-number.number + 1) c.args.multipliers.now))
      (ap (λ (numbers : Vec ℕ Global). numbers.items) w.numbers-is ∙ w.in_ok-push.ensures.items)
      ∙ pushing-more c.loop-number.numbers.items c.args.multipliers.now c.loop-number.number c.index-multipliers-number.result c.loop-number-test.true c.index-multipliers-number.is
      (sym c.is_pushing.ensures ∙ w.if-is_pushing.true)
      ∙ c.loop-number.invariant
  | else-is_pushing w ↦
      ap (λ numbers. numbers ++ pushing_from (c.loop-number.number + 1) (drop (c.loop-number.number + 1) c.args.multipliers.now))
      (ap (λ (numbers : Vec ℕ Global). numbers.items) w.numbers-is)
      ∙ pushing-same c.loop-number.numbers.items c.args.multipliers.now c.loop-number.number c.index-multipliers-number.result c.loop-number-test.true c.index-multipliers-number.is
      (sym c.is_pushing.ensures ∙ w.if-is_pushing.false)
      ∙ c.loop-number.invariant
]

pub returns : goal.returns
returns c =
    c.of.ensures
    ∙ sym (append-nil c.loop-number.numbers.items)
    ∙ ap (λ (ms : List Fraction). c.loop-number.numbers.items ++ pushing_from c.loop-number.number ms) (sym (drop_all c.loop-number.number c.args.multipliers.now c.loop-number-test.false))
    ∙ c.loop-number.invariant
