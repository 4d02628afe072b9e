use Rattle.std.proofs.Common.{◌≤◌, ◌*ℤ◌, nat_abs, arith, ◌∙◌, FitsSigned, ℤ, sym, subst}
use Rattle.std.specs.Int.{w64, w128}
use Rattle.std.proofs.lemmas.Int.{to_z-of_z}
use Rattle.block_sums.proofs.Products.{abs-product, passed-product}
use Rattle.block_sums.proofs.Passing.{product-fits, fits-128}
use Rattle.block_sums.proofs.stops.stretched_twice.Goals as goal

stretched-fits : (m : ℤ) → nat_abs m ≤ 258000000000 → FitsSigned w128 m
stretched-fits m h = fits-128 m 258000000000 h (omega arith)

weight-fits : (w : ℤ) → nat_abs w ≤ 258000 → FitsSigned w128 w
weight-fits w h = fits-128 w 258000 h (omega arith)

small : (m w : ℤ) → nat_abs m ≤ 258000000000 → nat_abs w ≤ 258000 → nat_abs (m *ℤ w) ≤ 66564000000000000
small m w hm hw = let p = abs-product m w 258000000000 258000 hm hw in omega (arith, p)

both-fit : (m w : ℤ) → nat_abs m ≤ 258000000000 → nat_abs w ≤ 258000 → FitsSigned w128 (m *ℤ w)
both-fit m w hm hw = fits-128 (m *ℤ w) 66564000000000000 (small m w hm hw) (omega arith)

pub overflow_mul-result : goal.overflow_mul-result
overflow_mul-result c =
    let m = c.args.stretched in
    let w = c.args.weight in
    product-fits w128 c.from.result c.from-2.result m w (c.from.ensures ∙ to_z-of_z w64 m c.ranges.stretched) (c.from-2.ensures ∙ to_z-of_z w64 w c.ranges.weight)
    (stretched-fits m c.requires.stretched) (weight-fits w c.requires.weight) (both-fit m w c.requires.stretched c.requires.weight)

pub returns-clause-value : goal.returns-clause-value
returns-clause-value c =
    let m = c.args.stretched in
    let w = c.args.weight in
    passed-product w128 c.from.result c.from-2.result m w (stretched-fits m c.requires.stretched) (weight-fits w c.requires.weight) (both-fit m w c.requires.stretched c.requires.weight)
    (c.from.ensures ∙ to_z-of_z w64 m c.ranges.stretched) (c.from-2.ensures ∙ to_z-of_z w64 w c.ranges.weight)

pub returns-clause-small : goal.returns-clause-small
returns-clause-small c = subst (λ z. nat_abs z ≤ 66564000000000000) (sym (returns-clause-value c)) (small c.args.stretched c.args.weight c.requires.stretched c.requires.weight)
