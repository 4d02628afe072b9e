use Rattle.std.proofs.Common.{◌≤◌, ◌*ℤ◌, nat_abs, arith, ◌∙◌, refl, FitsSigned, ℤ, sym, subst}
use Rattle.std.specs.Int.{w32, w64}
use Rattle.std.proofs.lemmas.Int.{to_z-of_z}
use Rattle.block_sums.proofs.Products.{abs-product, passed-product}
use Rattle.block_sums.proofs.Passing.{product-fits, fits-64}
use Rattle.vpsc_solve.proofs.violations.stretched.Goals as goal

gap-fits : (g : ℤ) → nat_abs g ≤ 1000000 → FitsSigned w64 g
gap-fits g h = fits-64 g 1000000 h (omega arith)

small : (g w : ℤ) → nat_abs g ≤ 1000000 → nat_abs w ≤ 258000 → nat_abs (g *ℤ w) ≤ 258000000000
small g w hg hw = let p = abs-product g w 1000000 258000 hg hw in omega (arith, p)

both-fit : (g w : ℤ) → nat_abs g ≤ 1000000 → nat_abs w ≤ 258000 → FitsSigned w64 (g *ℤ w)
both-fit g w hg hw = fits-64 (g *ℤ w) 258000000000 (small g w hg hw) (omega arith)

pub overflow_mul-result : goal.overflow_mul-result
overflow_mul-result c =
    let g = c.args.gap in
    let w = c.args.weight in
    product-fits w64 c.from.result w g w (c.from.ensures ∙ to_z-of_z w32 g c.ranges.gap) refl (gap-fits g c.requires.gap) c.ranges.weight (both-fit g w c.requires.gap c.requires.weight)

pub returns-clause-value : goal.returns-clause-value
returns-clause-value c =
    let g = c.args.gap in
    let w = c.args.weight in
    passed-product w64 c.from.result w g w (gap-fits g c.requires.gap) c.ranges.weight (both-fit g w c.requires.gap c.requires.weight) (c.from.ensures ∙ to_z-of_z w32 g c.ranges.gap) refl

pub returns-clause-small : goal.returns-clause-small
returns-clause-small c = subst (λ z. nat_abs z ≤ 258000000000) (sym (returns-clause-value c)) (small c.args.gap c.args.weight c.requires.gap c.requires.weight)
