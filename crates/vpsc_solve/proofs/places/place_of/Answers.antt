use Rattle.std.proofs.Common.{◌≡◌, ◌<◌, ◌≤◌, ◌+ℤ◌, ◌*ℤ◌, ◌^◌, arith, refl, sym, ap, ◌∙◌, length, FitsSigned, ℕ, ℤ, pos, nat_abs, subst, to_z, of_z, List, get_or}
use Rattle.std.specs.Int.{w64}
use Rattle.std.proofs.lemmas.List.{get_or_default}
use Rattle.block_sums.specs.declared.legs.Leg.{Leg}
use Rattle.block_sums.specs.Legs.{no_leg, leg_at}
use Rattle.block_sums.specs.Loads.{load_at}
use Rattle.block_sums.proofs.Passing.{passed-is, read-small, sum-fits, sum-is, sum-small, fits-64}
use Rattle.vpsc_solve.proofs.places.place_of.Goals as goal

offset-passed : (leg there : Leg) → leg ≡ there → nat_abs there.offset ≤ 257000000 → to_z w64 (of_z w64 leg.offset) ≡ there.offset
offset-passed leg there e near = passed-is w64 leg.offset there.offset (ap (λ l. l.offset) e) (fits-64 there.offset 257000000 near (omega arith))

offset-read : (legs : List Leg) (i : ℕ) (leg : Leg) → i < length legs → leg ≡ get_or legs i leg → nat_abs (leg_at legs i).offset ≤ 257000000 → to_z w64 (of_z w64 leg.offset) ≡ (leg_at legs i).offset
offset-read legs i leg h e near = offset-passed leg (leg_at legs i) (e ∙ get_or_default legs i leg no_leg h) near

turned-passed : (y : ℤ) → nat_abs y ≤ 66306000000000 → to_z w64 (of_z w64 y) ≡ y
turned-passed y h = passed-is w64 y y refl (fits-64 y 66306000000000 h (omega arith))

both-fit : (m y : ℤ) → nat_abs m ≤ 66822000000000 → nat_abs y ≤ 66306000000000 → FitsSigned w64 (m +ℤ y)
both-fit m y hm hy = fits-64 (m +ℤ y) 133128000000000 (let s = sum-small m y 66822000000000 66306000000000 hm hy in omega (arith, s)) (omega arith)

some-of : (n m : ℕ) → 0 < n → m ≡ n → 0 < m
some-of n m h e = omega arith

-- what was turned is the weight times the offset
product-is : (t x y a b : ℤ) → t ≡ x *ℤ y → x ≡ a → y ≡ b → t ≡ a *ℤ b
product-is t x y a b e ea eb = e ∙ (ap (λ z. z *ℤ y) ea ∙ ap (λ z. a *ℤ z) eb)

pub turned_by-requires-clause-weight : goal.turned_by-requires-clause-weight
turned_by-requires-clause-weight c =
    let s = c.args.block.now in
    let b = c.requires.bounded in
    subst (λ z. nat_abs z ≤ 258000) (sym (read-small s.weights.items 0 258000 c.index-weight.result.now (some-of (length s.legs.items) (length s.weights.items) b.some b.long_weights) c.index-weight.ensures (b.weight 0) (omega arith))) (b.weight 0)

pub turned_by-requires-clause-offset : goal.turned_by-requires-clause-offset
turned_by-requires-clause-offset c = subst (λ z. nat_abs z ≤ 257000000) (sym (offset-read c.args.block.now.legs.items c.args.at c.index-2.result.now c.requires.at c.index-2.ensures c.requires.near)) c.requires.near

pub overflow_add-result : goal.overflow_add-result
overflow_add-result c =
    let s = c.args.block.now in
    let b = c.requires.bounded in
    sum-fits w64 c.index.result.now c.turned_by.result (load_at s.moments.items 0) c.turned_by.result
    (read-small s.moments.items 0 66822000000000 c.index.result.now (some-of (length s.legs.items) (length s.moments.items) b.some b.long_moments) c.index.ensures (b.moment 0) (omega arith))
    (turned-passed c.turned_by.result c.turned_by.ensures.small) (both-fit (load_at s.moments.items 0) c.turned_by.result (b.moment 0) c.turned_by.ensures.small)

pub returns : goal.returns
returns c =
    let s = c.args.block.now in
    let b = c.requires.bounded in
    let m = read-small s.moments.items 0 66822000000000 c.index.result.now (some-of (length s.legs.items) (length s.moments.items) b.some b.long_moments) c.index.ensures (b.moment 0) (omega arith) in
    let w = read-small s.weights.items 0 258000 c.index-weight.result.now (some-of (length s.legs.items) (length s.weights.items) b.some b.long_weights) c.index-weight.ensures (b.weight 0) (omega arith) in
    let o = offset-read s.legs.items c.args.at c.index-2.result.now c.requires.at c.index-2.ensures c.requires.near in
    let t = product-is c.turned_by.result (to_z w64 (of_z w64 c.index-weight.result.now)) (to_z w64 (of_z w64 c.index-2.result.now.offset)) (load_at s.weights.items 0) (leg_at s.legs.items c.args.at).offset c.turned_by.ensures.value w o in
    record {
      num = sum-is w64 c.index.result.now c.turned_by.result (load_at s.moments.items 0) c.turned_by.result m (turned-passed c.turned_by.result c.turned_by.ensures.small) (both-fit (load_at s.moments.items 0) c.turned_by.result (b.moment 0) c.turned_by.ensures.small)
          ∙ ap (λ z. load_at s.moments.items 0 +ℤ z) t;
      den = w;
    }
