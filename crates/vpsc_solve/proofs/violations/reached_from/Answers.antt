use Rattle.std.proofs.Common.{◌≡◌, ◌≤◌, ◌+ℤ◌, ◌*ℤ◌, nat_abs, arith, ◌∙◌, FitsSigned, ℤ, sym, subst, ap, to_z, of_z}
use Rattle.std.specs.Int.{w32, w64}
use Rattle.std.proofs.lemmas.Int.{to_z-of_z}
use Rattle.block_sums.proofs.Passing.{passed-small, sum-fits, sum-is, sum-small, fits-32, fits-64}
use Rattle.vpsc_solve.proofs.violations.reached_from.Goals as goal

gap-fits : (g : ℤ) → nat_abs g ≤ 1000000 → FitsSigned w32 g
gap-fits g h = fits-32 g 1000000 h (omega arith)

weight-fits : (w : ℤ) → nat_abs w ≤ 258000 → FitsSigned w64 w
weight-fits w h = fits-64 w 258000 h (omega arith)

num-passed : (n : ℤ) → nat_abs n ≤ 133128000000000 → to_z w64 (of_z w64 n) ≡ n
num-passed n h = to_z-of_z w64 n (fits-64 n 133128000000000 h (omega arith))

way-passed : (s : ℤ) → nat_abs s ≤ 258000000000 → to_z w64 (of_z w64 s) ≡ s
way-passed s h = to_z-of_z w64 s (fits-64 s 258000000000 h (omega arith))

small : (n s : ℤ) → nat_abs n ≤ 133128000000000 → nat_abs s ≤ 258000000000 → nat_abs (n +ℤ s) ≤ 133386000000000
small n s hn hs = let b = sum-small n s 133128000000000 258000000000 hn hs in omega (arith, b)

both-fit : (n s : ℤ) → nat_abs n ≤ 133128000000000 → nat_abs s ≤ 258000000000 → FitsSigned w64 (n +ℤ s)
both-fit n s hn hs = fits-64 (n +ℤ s) 133386000000000 (small n s hn hs) (omega arith)

sum : (n s : ℤ) → nat_abs n ≤ 133128000000000 → nat_abs s ≤ 258000000000 → to_z w64 (of_z w64 (to_z w64 (of_z w64 n) +ℤ to_z w64 (of_z w64 s))) ≡ n +ℤ s
sum n s hn hs = sum-is w64 n s n s (num-passed n hn) (way-passed s hs) (both-fit n s hn hs)

way : (s g w : ℤ) → nat_abs g ≤ 1000000 → nat_abs w ≤ 258000 → s ≡ to_z w32 (of_z w32 g) *ℤ to_z w64 (of_z w64 w) → s ≡ g *ℤ w
way s g w hg hw e = e ∙ (ap (λ t. t *ℤ to_z w64 (of_z w64 w)) (to_z-of_z w32 g (gap-fits g hg)) ∙ ap (λ t. g *ℤ t) (to_z-of_z w64 w (weight-fits w hw)))

pub stretched-requires-clause-gap : goal.stretched-requires-clause-gap
stretched-requires-clause-gap c = passed-small w32 c.args.sep.now.gap 1000000 (gap-fits c.args.sep.now.gap c.requires.gap) c.requires.gap

pub stretched-requires-clause-weight : goal.stretched-requires-clause-weight
stretched-requires-clause-weight c = passed-small w64 c.args.left.now.den 258000 (weight-fits c.args.left.now.den c.requires.left.weight) c.requires.left.weight

pub overflow_add-result : goal.overflow_add-result
overflow_add-result c =
    let n = c.args.left.now.num in
    let s = c.stretched.result in
    let near = c.requires.left.near in
    let short = c.stretched.ensures.small in
    sum-fits w64 n s n s (num-passed n near) (way-passed s short) (both-fit n s near short)

pub returns-clause-value : goal.returns-clause-value
returns-clause-value c =
    let n = c.args.left.now.num in
    let s = c.stretched.result in
    sum n s c.requires.left.near c.stretched.ensures.small
    ∙ ap (λ t. n +ℤ t) (way s c.args.sep.now.gap c.args.left.now.den c.requires.gap c.requires.left.weight c.stretched.ensures.value)

pub returns-clause-small : goal.returns-clause-small
returns-clause-small c =
    let n = c.args.left.now.num in
    let s = c.stretched.result in
    let near = c.requires.left.near in
    let short = c.stretched.ensures.small in
    subst (λ z. nat_abs z ≤ 133386000000000) (sym (sum n s near short)) (small n s near short)
