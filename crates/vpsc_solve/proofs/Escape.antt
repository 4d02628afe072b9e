-- Within one block some multiplier falls: else no placement would satisfy the separations.
use Rattle.std.proofs.Common.{MatchBool, ◌≡◌, ℕ, ◌<◌, ℤ, pos, ◌-ℤ◌, ◌*ℤ◌, ◌<ℤ◌, ◌≤ℤ◌, arith, refl, sym, ap, ◌∙◌, Bool, true, false, subst, ◌⊎◌, inl, inr}
use Rattle.std.proofs.lemmas.Int.{ints}
use lib.IntN.{*ℤ-zero, *ℤ_comm}
use Rattle.solver_law.specs.State.{sum_to, net, Givens, Point, IsState}
use Rattle.solver_law.specs.Forest.{With}
use Rattle.solver_law.proofs.Ring.{dif_of, difs, dif_same}
use Rattle.solver_law.proofs.Signs.{times-above, times-not-below}
use Rattle.solver_law.proofs.Sums.{sum-zero}
use Rattle.solver_law.proofs.Net.{exchange}
use Rattle.solver_law.proofs.Cut.{EndsBelow}
use Rattle.solver_law.proofs.Stops.{sum_above}
use Rattle.solver_law.proofs.Progress.{lack}
use Rattle.solver_law.proofs.Inside.{Holds, scale_le}

-- the difference of two placements over their common denominator
abbrev pub apart : ℕ → ℕ → (ℕ → ℤ) → (ℕ → ℤ) → ℕ → ℤ
apart Q q y x i = pos Q *ℤ y i -ℤ pos q *ℤ x i

spread-apart : (Q q yr yl xr xl : ℤ) → (Q *ℤ yr -ℤ q *ℤ xr) -ℤ (Q *ℤ yl -ℤ q *ℤ xl) ≡ Q *ℤ (yr -ℤ yl) -ℤ q *ℤ (xr -ℤ xl)
spread-apart Q q yr yl xr xl = rw (dif_of Q, dif_of q, dif_of yr, dif_of yl, dif_of xr, dif_of xl) (simp difs (dif_same _ _ _ _ (omega arith)))

swap-times : (a b g : ℤ) → a *ℤ (b *ℤ g) ≡ b *ℤ (a *ℤ g)
swap-times a b g = rw (dif_of a, dif_of b, dif_of g) (simp difs (dif_same _ _ _ _ (omega arith)))

at-least : (b : Bool) (e f : ℤ) → MatchBool b (e ≡ f) (f ≤ℤ e) → f ≤ℤ e
at-least true e f h = omega (arith, ints, h)
at-least false e f h = h

-- a tight separation: 0 where it is exact, at least 0 else
term-tight : (Q q : ℕ) (ex : Bool) (m yr yl xr xl g : ℤ) → MatchBool ex (yr -ℤ yl ≡ pos q *ℤ g) ((pos q *ℤ g) ≤ℤ (yr -ℤ yl)) → xr -ℤ xl ≡ pos Q *ℤ g → (ex ≡ false → pos 0 ≤ℤ m)
    → pos 0 ≤ℤ (((pos Q *ℤ yr -ℤ pos q *ℤ xr) -ℤ (pos Q *ℤ yl -ℤ pos q *ℤ xl)) *ℤ m)
term-tight Q q true m yr yl xr xl g holds tight sign =
    let s = spread-apart (pos Q) (pos q) yr yl xr xl in
    let k = swap-times (pos Q) (pos q) g in
    let a = ap (λ t. pos Q *ℤ t) holds in
    let b = ap (λ t. pos q *ℤ t) tight in
    let z : (pos Q *ℤ yr -ℤ pos q *ℤ xr) -ℤ (pos Q *ℤ yl -ℤ pos q *ℤ xl) ≡ pos 0 = omega (arith, ints, s, k, a, b) in
    subst (λ t. pos 0 ≤ℤ t) (sym (ap (λ t. t *ℤ m) z ∙ (*ℤ_comm (pos 0) m ∙ *ℤ-zero m))) (omega (arith, ints))
term-tight Q q false m yr yl xr xl g holds tight sign =
    let s = spread-apart (pos Q) (pos q) yr yl xr xl in
    let k = swap-times (pos Q) (pos q) g in
    let a = scale_le Q (pos q *ℤ g) (yr -ℤ yl) holds in
    let b = ap (λ t. pos q *ℤ t) tight in
    times-not-below ((pos Q *ℤ yr -ℤ pos q *ℤ xr) -ℤ (pos Q *ℤ yl -ℤ pos q *ℤ xl)) m (omega (arith, ints, s, k, a, b)) (sign refl)

term-open : (Q q : ℕ) (m yr yl xr xl g : ℤ) → 0 < q → (pos q *ℤ g) ≤ℤ (yr -ℤ yl) → (xr -ℤ xl) <ℤ (pos Q *ℤ g) → pos 0 <ℤ m
    → pos 0 <ℤ (((pos Q *ℤ yr -ℤ pos q *ℤ xr) -ℤ (pos Q *ℤ yl -ℤ pos q *ℤ xl)) *ℤ m)
term-open Q q m yr yl xr xl g hq holds violated up =
    let s = spread-apart (pos Q) (pos q) yr yl xr xl in
    let k = swap-times (pos Q) (pos q) g in
    let a = scale_le Q (pos q *ℤ g) (yr -ℤ yl) holds in
    let c = times-above (pos q) (pos Q *ℤ g -ℤ (xr -ℤ xl)) (omega (arith, ints, hq)) (left (xr -ℤ xl) (pos Q *ℤ g) violated) in
    let d = less_times (pos q) (pos Q *ℤ g) (xr -ℤ xl) in
    times-above ((pos Q *ℤ yr -ℤ pos q *ℤ xr) -ℤ (pos Q *ℤ yl -ℤ pos q *ℤ xl)) m (omega (arith, ints, s, k, a, c, d)) up
  where
    left : (u w : ℤ) → u <ℤ w → pos 0 <ℤ (w -ℤ u)
    left u w h = omega (arith, ints, h)

    less_times : (c a b : ℤ) → c *ℤ (a -ℤ b) ≡ c *ℤ a -ℤ c *ℤ b
    less_times c a b = rw (dif_of a, dif_of b, dif_of c) (simp difs (dif_same _ _ _ _ (omega arith)))

pub no-escape : (p : Givens) (exact : ℕ → Bool) (On : ℕ → Type 0) (v : ℕ) (a b : Point) (Q q : ℕ) (y : ℕ → ℤ) → EndsBelow p → v < p.s → a.q ≡ pos Q → Holds p exact y q → IsState p On (With On v) a → pos 0 <ℤ lack p a v
    → IsState p On (With On v) b → b.q ≡ pos 0 → ((i : ℕ) → b.x i ≡ pos 0) → pos 0 <ℤ b.m v → ((k : ℕ) → k < p.s → exact k ≡ false → pos 0 ≤ℤ b.m k) → ⊥
no-escape p exact On v a b Q q y ends below over holds st missing dir still nothing up signs =
    clash _ work (sum_above p.s v _ below (λ k d. at k d (dir.within k d)) (term-open Q q (b.m v) (y (p.r v)) (y (p.l v)) (a.x (p.r v)) (a.x (p.l v)) (p.g v) holds.above
    (at-least (exact v) _ _ (holds.holds v below)) (violated (a.x (p.r v) -ℤ a.x (p.l v)) (a.q *ℤ p.g v) (pos Q *ℤ p.g v) missing (ap (λ z. z *ℤ p.g v) over)) up))
  where
    clash : (z : ℤ) → z ≡ pos 0 → pos 0 <ℤ z → ⊥
    clash z e h = absurd (omega (arith, ints, e, h))

    violated : (x e f : ℤ) → pos 0 <ℤ (e -ℤ x) → e ≡ f → x <ℤ f
    violated x e f h g = omega (arith, ints, h, g)

    rest : (z u x q d n : ℤ) → x ≡ pos 0 → q ≡ pos 0 → u *ℤ (x -ℤ q *ℤ d) ≡ n → z *ℤ n ≡ pos 0
    rest z u x q d n ex eq en =
        let qd = ap (λ t. t *ℤ d) eq ∙ (*ℤ_comm (pos 0) d ∙ *ℤ-zero d) in
        let inner : x -ℤ q *ℤ d ≡ pos 0 = omega (arith, ints, ex, qd) in
        ap (λ t. z *ℤ t) (sym en ∙ (ap (λ t. u *ℤ t) inner ∙ *ℤ-zero u)) ∙ *ℤ-zero z

    work : sum_to p.s (λ k. (apart Q q y a.x (p.r k) -ℤ apart Q q y a.x (p.l k)) *ℤ b.m k) ≡ pos 0
    work = sym (exchange p.n p.s p.l p.r (apart Q q y a.x) b.m ends)
        ∙ sum-zero p.n _ (λ i d. rest (apart Q q y a.x i) (pos 2 *ℤ p.w i) (b.x i) b.q (p.d i) (net p.s p.l p.r b.m i) (nothing i) still (dir.level i d))

    at : (k : ℕ) → k < p.s → (b.m k ≡ pos 0) ⊎ With On v k → pos 0 ≤ℤ ((apart Q q y a.x (p.r k) -ℤ apart Q q y a.x (p.l k)) *ℤ b.m k)
    at k d (inl e) = subst (λ t. pos 0 ≤ℤ t) (sym (ap (λ t. (apart Q q y a.x (p.r k) -ℤ apart Q q y a.x (p.l k)) *ℤ t) e ∙ *ℤ-zero (apart Q q y a.x (p.r k) -ℤ apart Q q y a.x (p.l k)))) (omega (arith, ints))
    at k d (inr (inl on)) = term-tight Q q (exact k) (b.m k) (y (p.r k)) (y (p.l k)) (a.x (p.r k)) (a.x (p.l k)) (p.g k) (holds.holds k d) (st.tight k d on ∙ ap (λ z. z *ℤ p.g k) over) (λ e. signs k d e)
    at k d (inr (inr e)) =
        let h = term-open Q q (b.m v) (y (p.r v)) (y (p.l v)) (a.x (p.r v)) (a.x (p.l v)) (p.g v) holds.above (at-least (exact v) _ _ (holds.holds v below))
        (violated (a.x (p.r v) -ℤ a.x (p.l v)) (a.q *ℤ p.g v) (pos Q *ℤ p.g v) missing (ap (λ z. z *ℤ p.g v) over)) up in
        subst (λ k. pos 0 ≤ℤ ((apart Q q y a.x (p.r k) -ℤ apart Q q y a.x (p.l k)) *ℤ b.m k)) (sym e) (weaker _ h)
      where
        weaker : (z : ℤ) → pos 0 <ℤ z → pos 0 ≤ℤ z
        weaker z h = omega (arith, ints, h)
