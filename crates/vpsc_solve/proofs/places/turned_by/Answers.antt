use Rattle.std.proofs.Common.{◌≤◌, ◌<◌, ◌*◌, ◌^◌, ◌*ℤ◌, nat_abs, arith, refl, ℕ}
use Rattle.std.specs.Int.{w64}
use Rattle.std.proofs.lemmas.Int.{fits_signed_from_abs}
use Rattle.block_sums.proofs.Products.{abs-product, passed-product}
use Rattle.vpsc_solve.proofs.places.turned_by.Goals as goal

pub returns-clause-value : goal.returns-clause-value
returns-clause-value c =
    let p = abs-product c.args.weight c.args.offset 258000 257000000 c.requires.weight c.requires.offset in
    passed-product w64 c.args.weight c.args.offset c.args.weight c.args.offset c.ranges.weight c.ranges.offset
    (fits_signed_from_abs w64 (c.args.weight *ℤ c.args.offset) (below (nat_abs (c.args.weight *ℤ c.args.offset)) p)) refl refl
  where
    below : (k : ℕ) → k ≤ 258000 * 257000000 → k < 2 ^ 63
    below k h = omega arith

pub returns-clause-small : goal.returns-clause-small
returns-clause-small c =
    let e = returns-clause-value c in
    let p = abs-product c.args.weight c.args.offset 258000 257000000 c.requires.weight c.requires.offset in
    rw e (omega (arith, p))
