use Rattle.std.proofs.Common.{◌≤◌, ◌*ℤ◌, nat_abs, arith, ◌∙◌, FitsSigned, ℤ, sym, subst}
use Rattle.std.specs.Int.{w64, w128}
use Rattle.std.proofs.lemmas.Int.{to_z-of_z}
use Rattle.block_sums.proofs.Products.{abs-product, passed-product}
use Rattle.block_sums.proofs.Passing.{product-fits, fits-128}
use Rattle.vpsc_solve.proofs.violations.product.Goals as goal

num-fits : (m : ℤ) → nat_abs m ≤ 133386000000000 → FitsSigned w128 m
num-fits m h = fits-128 m 133386000000000 h (omega arith)

den-fits : (w : ℤ) → nat_abs w ≤ 258000 → FitsSigned w128 w
den-fits w h = fits-128 w 258000 h (omega arith)

small : (m w : ℤ) → nat_abs m ≤ 133386000000000 → nat_abs w ≤ 258000 → nat_abs (m *ℤ w) ≤ 34413588000000000000
small m w hm hw = let p = abs-product m w 133386000000000 258000 hm hw in omega (arith, p)

both-fit : (m w : ℤ) → nat_abs m ≤ 133386000000000 → nat_abs w ≤ 258000 → FitsSigned w128 (m *ℤ w)
both-fit m w hm hw = fits-128 (m *ℤ w) 34413588000000000000 (small m w hm hw) (omega arith)

pub overflow_mul-result : goal.overflow_mul-result
overflow_mul-result c =
    let m = c.args.num in
    let w = c.args.den in
    product-fits w128 c.from.result c.from-2.result m w (c.from.ensures ∙ to_z-of_z w64 m c.ranges.num) (c.from-2.ensures ∙ to_z-of_z w64 w c.ranges.den)
    (num-fits m c.requires.num) (den-fits w c.requires.den) (both-fit m w c.requires.num c.requires.den)

pub returns-clause-value : goal.returns-clause-value
returns-clause-value c =
    let m = c.args.num in
    let w = c.args.den in
    passed-product w128 c.from.result c.from-2.result m w (num-fits m c.requires.num) (den-fits w c.requires.den) (both-fit m w c.requires.num c.requires.den)
    (c.from.ensures ∙ to_z-of_z w64 m c.ranges.num) (c.from-2.ensures ∙ to_z-of_z w64 w c.ranges.den)

pub returns-clause-small : goal.returns-clause-small
returns-clause-small c = subst (λ z. nat_abs z ≤ 34413588000000000000) (sym (returns-clause-value c)) (small c.args.num c.args.den c.requires.num c.requires.den)
