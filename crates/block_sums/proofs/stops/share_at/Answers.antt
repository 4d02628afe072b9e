use Rattle.std.proofs.Common.{◌<◌, ◌≤◌, ◌^◌, rules, arith, FitsSigned, ap, length, ◌∙◌, ℤ, nat_abs}
use Rattle.std.specs.Int.{w64}
use Rattle.std.proofs.lemmas.Int.{to_z-of_z}
use Rattle.std.proofs.lemmas.List.{get_or_default}
use Rattle.block_sums.specs.Legs.{no_leg}
use Rattle.block_sums.proofs.Passing.{fits-64}
use Rattle.block_sums.proofs.Products.{read-passed, share-is}
use Rattle.block_sums.proofs.stops.share_at.Goals as goal

small-fits : (z : ℤ) → nat_abs z < 2 ^ 27 → FitsSigned w64 z
small-fits z h = fits-64 z 134217728 (omega (arith, h)) (omega arith)

marked-fits : (z : ℤ) → nat_abs z ≤ 66564000 → FitsSigned w64 z
marked-fits z h = fits-64 z 66564000 h (omega arith)

pub returns-clause-value : goal.returns-clause-value
returns-clause-value c =
    let b = c.requires.bounded in
    let s = c.args.pushed.now in
    let i : FitsSigned w64 c.index.result.now = search rules in
    let j : FitsSigned w64 c.index-2.result.now = search rules in
    let k : FitsSigned w64 c.index-3.result.now = search rules in
    let l : FitsSigned w64 c.index-4.result.now = search rules in
    let f1 : FitsSigned w64 c.marked-whole.result = marked-fits c.marked-whole.result c.marked-whole.ensures.small in
    let f2 : FitsSigned w64 c.marked-hanging.result = marked-fits c.marked-hanging.result c.marked-hanging.ensures.small in
    let f3 : FitsSigned w64 c.less.result = small-fits c.less.result c.less.ensures.small in
    let f4 : FitsSigned w64 c.signed_small.result = small-fits c.signed_small.result c.signed_small.ensures.small in
    let h1 : 0 < length s.marks.items = omega (arith, b.some, c.requires.small.long) in
    let h2 : c.args.at < length s.block.weights.items = omega (arith, c.requires.at, b.long_weights) in
    let h3 : c.args.at < length s.marks.items = omega (arith, c.requires.at, c.requires.small.long) in
    let h4 : 0 < length s.block.weights.items = omega (arith, b.some, b.long_weights) in
    share-is _ _ _ _ _ _ _ _ _ _ _ _ _ _ _ _ _ _ (to_z-of_z w64 _ f4) c.signed_small.ensures.value
    (ap (λ t. t.along) (c.index-5.ensures ∙ get_or_default s.block.legs.items c.args.at _ no_leg c.requires.at))
    (to_z-of_z w64 _ f3) c.less.ensures.value (to_z-of_z w64 _ f1) (to_z-of_z w64 _ f2) c.marked-whole.ensures.value c.marked-hanging.ensures.value
    (read-passed s.marks.items 0 _ h1 c.index.ensures i) (read-passed s.block.weights.items c.args.at _ h2 c.index-2.ensures j)
    (read-passed s.marks.items c.args.at _ h3 c.index-3.ensures k) (read-passed s.block.weights.items 0 _ h4 c.index-4.ensures l)
