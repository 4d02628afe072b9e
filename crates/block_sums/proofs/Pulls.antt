-- What the sums of a tree say of every state: its places, and its multipliers.
use Rattle.std.proofs.Common.{◌≡◌, ◌≢◌, ℕ, zero, suc, ◌<◌, ◌≤◌, ℤ, pos, neg_ℤ, ◌+ℤ◌, ◌-ℤ◌, ◌*ℤ◌, arith, refl, sym, ap, ◌∙◌, Bool, true, false, eqb, eqb-true, subst, if◌then◌else◌, ◌⊎◌, inl, inr}
use Rattle.std.proofs.lemmas.Bool.{eqb-false}
use Rattle.std.proofs.lemmas.Int.{ints}
use lib.IntN.{*ℤ-zero}
use Rattle.solver_law.specs.State.{put_at, sum_to, net, Givens, Point, IsState}
use Rattle.solver_law.specs.Forest.{With}
use Rattle.solver_law.proofs.Ring.{dif_of, dif_pos, difs, dif_same}
use Rattle.solver_law.proofs.Sums.{sum-same, sum-zero, put_at-same, put_at-other, put_at-scale, put_at-zero}
use Rattle.solver_law.proofs.Net.{net-add, net-put}
use Rattle.block_sums.proofs.Trees.{Tree, IsRooted, Gathers, gather-same, gather-mix, arriving, net-tree}

-- ---- places

sided : (al : Bool) (r l var par : ℕ) (x : ℕ → ℤ) (q g : ℤ) → x r -ℤ x l ≡ q *ℤ g → (if al then r else l) ≡ var → (if al then l else r) ≡ par → x var ≡ x par +ℤ q *ℤ (if al then g else neg_ℤ g)
sided true r l var par x q g t e f = rw (← e, ← f) (omega (arith, ints, t))
sided false r l var par x q g t e f =
    let n : q *ℤ neg_ℤ g ≡ neg_ℤ (q *ℤ g) = turned q g in
    rw (← e, ← f) (omega (arith, ints, t, n))
  where
    turned : (q g : ℤ) → q *ℤ neg_ℤ g ≡ neg_ℤ (q *ℤ g)
    turned q g = rw (dif_of q, dif_of g) (simp difs (dif_same _ _ _ _ (omega arith)))

place_from : (p : Givens) (On Pushed : ℕ → Type 0) (t : Tree) (a : Point) → IsRooted p On t → IsState p On Pushed a → (u j : ℕ) → j ≤ u → j < suc t.n
    → a.x (t.var j) ≡ a.x (t.var 0) +ℤ a.q *ℤ t.off j
place_from p On Pushed t a h st u zero e b =
    let z = ap (λ o. a.q *ℤ o) h.home ∙ *ℤ-zero a.q in
    omega (arith, ints, z)
place_from p On Pushed t a h st zero (suc c) e b = absurd (omega (arith, e))
place_from p On Pushed t a h st (suc u) (suc c) e b =
    let d : c < t.n = omega (arith, b) in
    let s = h.sooner c d in
    let up = place_from p On Pushed t a h st u (t.par (suc c)) (omega (arith, s, e)) (omega (arith, s, d)) in
    let here = sided (t.along (suc c)) (p.r (t.via (suc c))) (p.l (t.via (suc c))) (t.var (suc c)) (t.var (t.par (suc c))) a.x a.q (p.g (t.via (suc c)))
    (st.tight (t.via (suc c)) (h.below c d) (h.on c d)) (h.to c d) (h.from c d) in
    joined (a.x (t.var (suc c))) (a.x (t.var (t.par (suc c)))) (a.x (t.var 0)) a.q (t.off (suc c)) (t.off (t.par (suc c))) _ here up (h.far c d)
  where
    spread' : (q o s : ℤ) → q *ℤ (o +ℤ s) ≡ q *ℤ o +ℤ q *ℤ s
    spread' q o s = rw (dif_of q, dif_of o, dif_of s) (simp difs (dif_same _ _ _ _ (omega arith)))

    joined : (x y X q o o' s : ℤ) → x ≡ y +ℤ q *ℤ s → y ≡ X +ℤ q *ℤ o' → o ≡ o' +ℤ s → x ≡ X +ℤ q *ℤ o
    joined x y X q o o' s e f g = let w = spread' q o' s in rw g (omega (arith, ints, e, f, w))

pub places : (p : Givens) (On Pushed : ℕ → Type 0) (t : Tree) (a : Point) → IsRooted p On t → IsState p On Pushed a → (j : ℕ) → j < suc t.n → a.x (t.var j) ≡ a.x (t.var 0) +ℤ a.q *ℤ t.off j
places p On Pushed t a h st j b = place_from p On Pushed t a h st j j (omega arith) b

-- ---- multipliers

abbrev pub weight : Givens → Tree → ℕ → ℤ
weight p t j = p.w (t.var j)

abbrev pub moment : Givens → Tree → ℕ → ℤ
moment p t j = (p.d (t.var j) -ℤ t.off j) *ℤ p.w (t.var j)

-- 1 at the right end of v, -1 at its left end
abbrev pub mark : Givens → ℕ → Tree → ℕ → ℤ
mark p v t j = put_at (p.r v) (pos 1) (t.var j) -ℤ put_at (p.l v) (pos 1) (t.var j)

-- the multipliers but for that of v
abbrev pub but : ℕ → (ℕ → ℤ) → ℕ → ℤ
but v m k = m k -ℤ put_at v (m v) k

-- what hangs on a leg, for each sum; own is the mark of a leg's variable
pub record IsSummed (p : Givens) (t : Tree) (own weights moments marks : ℕ → ℤ) : Type 0 where
  pub by_weight : Gathers t.n t.par (weight p t) weights
  pub by_moment : Gathers t.n t.par (moment p t) moments
  pub by_mark : Gathers t.n t.par own marks

-- the multipliers m of active separations, and a force f on the marks, balance the variables of the tree
pub record IsLevel (p : Givens) (On : ℕ → Type 0) (t : Tree) (a : Point) (own m : ℕ → ℤ) (f : ℤ) : Type 0 where
  pub within : (k : ℕ) → k < p.s → (m k ≡ pos 0) ⊎ On k
  pub stands : (j : ℕ) → j < suc t.n → a.x (t.var j) ≡ a.x (t.var 0) +ℤ a.q *ℤ t.off j
  pub level : (j : ℕ) → j < suc t.n → ((pos 2 *ℤ p.w (t.var j)) *ℤ (a.x (t.var j) -ℤ a.q *ℤ p.d (t.var j))) -ℤ f *ℤ own j ≡ net p.s p.l p.r m (t.var j)

arriving-is : (p : Givens) (On : ℕ → Type 0) (t : Tree) (a : Point) (own m : ℕ → ℤ) (f : ℤ) (weights moments marks : ℕ → ℤ) → IsRooted p On t → IsLevel p On t a own m f → IsSummed p t own weights moments marks
    → (j : ℕ) → j < suc t.n → arriving t m j ≡ (pos 2 *ℤ a.x (t.var 0)) *ℤ weights j +ℤ pos 1 *ℤ (neg_ℤ (pos 2 *ℤ a.q) *ℤ moments j +ℤ neg_ℤ f *ℤ marks j)
arriving-is p On t a own m f weights moments marks h st sums =
    gather-same t.n t.par (λ j. ((pos 2 *ℤ p.w (t.var j)) *ℤ (a.x (t.var j) -ℤ a.q *ℤ p.d (t.var j))) -ℤ f *ℤ own j)
    (λ j. (pos 2 *ℤ a.x (t.var 0)) *ℤ weight p t j +ℤ pos 1 *ℤ (neg_ℤ (pos 2 *ℤ a.q) *ℤ moment p t j +ℤ neg_ℤ f *ℤ own j))
    (arriving t m) (λ j. (pos 2 *ℤ a.x (t.var 0)) *ℤ weights j +ℤ pos 1 *ℤ (neg_ℤ (pos 2 *ℤ a.q) *ℤ moments j +ℤ neg_ℤ f *ℤ marks j))
    h.sooner each flows
    (gather-mix t.n t.par (pos 2 *ℤ a.x (t.var 0)) (pos 1) (weight p t) (λ j. neg_ℤ (pos 2 *ℤ a.q) *ℤ moment p t j +ℤ neg_ℤ f *ℤ own j)
    weights (λ j. neg_ℤ (pos 2 *ℤ a.q) *ℤ moments j +ℤ neg_ℤ f *ℤ marks j) sums.by_weight
    (gather-mix t.n t.par (neg_ℤ (pos 2 *ℤ a.q)) (neg_ℤ f) (moment p t) own moments marks sums.by_moment sums.by_mark))
  where
    ring : (w x q o d f k : ℤ) → ((pos 2 *ℤ w) *ℤ ((x +ℤ q *ℤ o) -ℤ q *ℤ d)) -ℤ f *ℤ k ≡ (pos 2 *ℤ x) *ℤ w +ℤ pos 1 *ℤ (neg_ℤ (pos 2 *ℤ q) *ℤ ((d -ℤ o) *ℤ w) +ℤ neg_ℤ f *ℤ k)
    ring w x q o d f k = rw (dif_of w, dif_of x, dif_of q, dif_of o, dif_of d, dif_of f, dif_of k, dif_pos 2, dif_pos 1) (simp difs (dif_same _ _ _ _ (omega arith)))

    each : (j : ℕ) → j < suc t.n → ((pos 2 *ℤ p.w (t.var j)) *ℤ (a.x (t.var j) -ℤ a.q *ℤ p.d (t.var j))) -ℤ f *ℤ own j
        ≡ (pos 2 *ℤ a.x (t.var 0)) *ℤ weight p t j +ℤ pos 1 *ℤ (neg_ℤ (pos 2 *ℤ a.q) *ℤ moment p t j +ℤ neg_ℤ f *ℤ own j)
    each j b = ap (λ y. ((pos 2 *ℤ p.w (t.var j)) *ℤ (y -ℤ a.q *ℤ p.d (t.var j))) -ℤ f *ℤ own j) (st.stands j b)
        ∙ ring (p.w (t.var j)) (a.x (t.var 0)) a.q (t.off j) (p.d (t.var j)) f (own j)

    finish_up : (L T A S : ℤ) → L ≡ T → T ≡ A -ℤ S → A ≡ L +ℤ S
    finish_up L T A S e1 e2 = omega (arith, ints, e1, e2)

    flows : Gathers t.n t.par (λ j. ((pos 2 *ℤ p.w (t.var j)) *ℤ (a.x (t.var j) -ℤ a.q *ℤ p.d (t.var j))) -ℤ f *ℤ own j) (arriving t m)
    flows j b = finish_up _ _ _ _ (st.level j b) (net-tree p On t h m st.within j b)

-- the place of the root: twice the weight of the block times it is twice the moment, and the force on the block
pub root-place : (p : Givens) (On : ℕ → Type 0) (t : Tree) (a : Point) (own m : ℕ → ℤ) (f : ℤ) (weights moments marks : ℕ → ℤ) → IsRooted p On t → IsLevel p On t a own m f → IsSummed p t own weights moments marks
    → (pos 2 *ℤ weights 0) *ℤ a.x (t.var 0) ≡ a.q *ℤ (pos 2 *ℤ moments 0) +ℤ f *ℤ marks 0
root-place p On t a own m f weights moments marks h st sums =
    let e = arriving-is p On t a own m f weights moments marks h st sums 0 (omega arith) in
    let g = ring (a.x (t.var 0)) (weights 0) a.q (moments 0) f (marks 0) in
    omega (arith, ints, e, g)
  where
    ring : (x w q s f k : ℤ) → (pos 2 *ℤ x) *ℤ w +ℤ pos 1 *ℤ (neg_ℤ (pos 2 *ℤ q) *ℤ s +ℤ neg_ℤ f *ℤ k) ≡ (pos 2 *ℤ w) *ℤ x -ℤ (q *ℤ (pos 2 *ℤ s) +ℤ f *ℤ k)
    ring x w q s f k = rw (dif_of x, dif_of w, dif_of q, dif_of s, dif_of f, dif_of k, dif_pos 2, dif_pos 1) (simp difs (dif_same _ _ _ _ (omega arith)))

-- without force, times the weight of the block
abbrev pub rest_of : (ℕ → ℤ) → (ℕ → ℤ) → ℕ → ℤ
rest_of weights moments j = pos 2 *ℤ (moments 0 *ℤ weights j -ℤ weights 0 *ℤ moments j)

-- the share of the force, times the weight of the block
abbrev pub share_of : (ℕ → ℤ) → (ℕ → ℤ) → ℕ → ℤ
share_of weights marks j = marks 0 *ℤ weights j -ℤ weights 0 *ℤ marks j

-- what arrives over a leg
arrives : (p : Givens) (On : ℕ → Type 0) (t : Tree) (a : Point) (own m : ℕ → ℤ) (f : ℤ) (weights moments marks : ℕ → ℤ) → IsRooted p On t → IsLevel p On t a own m f → IsSummed p t own weights moments marks
    → (j : ℕ) → j < suc t.n → weights 0 *ℤ arriving t m j ≡ a.q *ℤ rest_of weights moments j +ℤ f *ℤ share_of weights marks j
arrives p On t a own m f weights moments marks h st sums j b =
    ap (λ z. weights 0 *ℤ z) (arriving-is p On t a own m f weights moments marks h st sums j b)
    ∙ finish_up (weights 0) (a.x (t.var 0)) (weights j) a.q (moments j) f (marks j) (moments 0) (marks 0) (root-place p On t a own m f weights moments marks h st sums)
  where
    ring : (W x w q s f k : ℤ) → W *ℤ ((pos 2 *ℤ x) *ℤ w +ℤ pos 1 *ℤ (neg_ℤ (pos 2 *ℤ q) *ℤ s +ℤ neg_ℤ f *ℤ k)) ≡ ((pos 2 *ℤ W) *ℤ x) *ℤ w -ℤ (q *ℤ (pos 2 *ℤ (W *ℤ s)) +ℤ f *ℤ (W *ℤ k))
    ring W x w q s f k = rw (dif_of W, dif_of x, dif_of w, dif_of q, dif_of s, dif_of f, dif_of k, dif_pos 2, dif_pos 1) (simp difs (dif_same _ _ _ _ (omega arith)))

    ring2 : (W w q s f k S K : ℤ) → (q *ℤ (pos 2 *ℤ S) +ℤ f *ℤ K) *ℤ w -ℤ (q *ℤ (pos 2 *ℤ (W *ℤ s)) +ℤ f *ℤ (W *ℤ k)) ≡ q *ℤ (pos 2 *ℤ (S *ℤ w -ℤ W *ℤ s)) +ℤ f *ℤ (K *ℤ w -ℤ W *ℤ k)
    ring2 W w q s f k S K = rw (dif_of W, dif_of w, dif_of q, dif_of s, dif_of f, dif_of k, dif_of S, dif_of K, dif_pos 2) (simp difs (dif_same _ _ _ _ (omega arith)))

    finish_up : (W x w q s f k S K : ℤ) → (pos 2 *ℤ W) *ℤ x ≡ q *ℤ (pos 2 *ℤ S) +ℤ f *ℤ K
        → W *ℤ ((pos 2 *ℤ x) *ℤ w +ℤ pos 1 *ℤ (neg_ℤ (pos 2 *ℤ q) *ℤ s +ℤ neg_ℤ f *ℤ k)) ≡ q *ℤ (pos 2 *ℤ (S *ℤ w -ℤ W *ℤ s)) +ℤ f *ℤ (K *ℤ w -ℤ W *ℤ k)
    finish_up W x w q s f k S K e = ring W x w q s f k ∙ (ap (λ z. z *ℤ w -ℤ (q *ℤ (pos 2 *ℤ (W *ℤ s)) +ℤ f *ℤ (W *ℤ k))) e ∙ ring2 W w q s f k S K)

-- with the sign of the way in which the separation of a leg is walked
abbrev pub signed : Bool → ℤ → ℤ
signed along z = if along then z else neg_ℤ z

-- the multiplier of the separation of a leg
pub pull-is : (p : Givens) (On : ℕ → Type 0) (t : Tree) (a : Point) (own m : ℕ → ℤ) (f : ℤ) (weights moments marks : ℕ → ℤ) → IsRooted p On t → IsLevel p On t a own m f → IsSummed p t own weights moments marks
    → (c : ℕ) → c < t.n → weights 0 *ℤ m (t.via (suc c)) ≡ a.q *ℤ signed (t.along (suc c)) (rest_of weights moments (suc c)) +ℤ f *ℤ signed (t.along (suc c)) (share_of weights marks (suc c))
pull-is p On t a own m f weights moments marks h st sums c d =
    by_side (t.along (suc c)) (m (t.via (suc c))) (weights 0) a.q f (rest_of weights moments (suc c)) (share_of weights marks (suc c))
    (arrives p On t a own m f weights moments marks h st sums (suc c) (omega (arith, d)))
  where
    neg_times : (W m : ℤ) → W *ℤ neg_ℤ m ≡ neg_ℤ (W *ℤ m)
    neg_times W m = rw (dif_of W, dif_of m) (simp difs (dif_same _ _ _ _ (omega arith)))

    by_side : (al : Bool) (m W q f r s : ℤ) → W *ℤ (if al then m else neg_ℤ m) ≡ q *ℤ r +ℤ f *ℤ s → W *ℤ m ≡ q *ℤ (if al then r else neg_ℤ r) +ℤ f *ℤ (if al then s else neg_ℤ s)
    by_side true m W q f r s h = h
    by_side false m W q f r s h =
        let a = neg_times W m in
        let b = neg_times q r in
        let c = neg_times f s in
        omega (arith, ints, a, b, c, h)

-- ---- at rest

pub rest-level : (p : Givens) (On : ℕ → Type 0) (t : Tree) (a : Point) → IsRooted p On t → IsState p On On a → IsLevel p On t a (λ j. pos 0) a.m (pos 0)
rest-level p On t a h st = record {
  within = st.within;
  stands = places p On On t a h st;
  level = λ j b. less (st.level (t.var j) (h.within j b));
}
  where
    less : {u n : ℤ} → u ≡ n → u -ℤ pos 0 *ℤ pos 0 ≡ n
    less {u} {n} e = plain u n e
      where
        plain : (u n : ℤ) → u ≡ n → u -ℤ pos 0 ≡ n
        plain u n e = omega (arith, ints, e)

-- nothing hangs where nothing is marked
pub no-marks : (n : ℕ) (par : ℕ → ℕ) → Gathers n par (λ j. pos 0) (λ j. pos 0)
no-marks n par j b = back (sum_to n (λ c. put_at (par (suc c)) (pos 0) j)) (sum-zero n _ (λ c d. put_at-zero (par (suc c)) j))
  where
    back : (s : ℤ) → s ≡ pos 0 → pos 0 ≡ pos 0 +ℤ s
    back s e = omega (arith, ints, e)

-- ---- while a separation is being closed

-- the multipliers but for that of v, which is the force
pub closing-level : (p : Givens) (On : ℕ → Type 0) (v : ℕ) (t : Tree) (a : Point) → IsRooted p On t → v < p.s → IsState p On (With On v) a → IsLevel p On t a (mark p v t) (but v a.m) (a.m v)
closing-level p On v t a h below st = record {
  within = λ k d. within k (st.within k d) (eqb v k) refl;
  stands = places p On (With On v) t a h st;
  level = level;
}
  where
    gone : (u w : ℤ) → u ≡ w → u -ℤ w ≡ pos 0
    gone u w e = omega (arith, ints)

    less_zero : (u w : ℤ) → w ≡ pos 0 → u ≡ pos 0 → u -ℤ w ≡ pos 0
    less_zero u w e f = omega (arith, ints)

    within : (k : ℕ) → (a.m k ≡ pos 0) ⊎ With On v k → (c : Bool) → eqb v k ≡ c → (but v a.m k ≡ pos 0) ⊎ On k
    within k i true q = inl (subst (λ i. a.m i -ℤ put_at v (a.m v) i ≡ pos 0) (eqb-true v k q) (gone (a.m v) (put_at v (a.m v) v) (sym (put_at-same v (a.m v)))))
    within k (inl z) false q = inl (less_zero (a.m k) (put_at v (a.m v) k) (put_at-other v k (a.m v) (eqb-false v k q)) z)
    within k (inr (inl on)) false q = inr on
    within k (inr (inr e)) false q = absurd (eqb-false v k q (sym e))

    put_as : (i : ℕ) (f : ℤ) (j : ℕ) → put_at i f j ≡ f *ℤ put_at i (pos 1) j
    put_as i f j = ap (λ t. put_at i t j) (times_one f) ∙ put_at-scale i f (pos 1) j
      where
        times_one : (f : ℤ) → f ≡ f *ℤ pos 1
        times_one f = rw (dif_of f, dif_pos 1) (simp difs (dif_same _ _ _ _ (omega arith)))

    less_times : (f u w : ℤ) → f *ℤ (u -ℤ w) ≡ f *ℤ u -ℤ f *ℤ w
    less_times f u w = rw (dif_of f, dif_of u, dif_of w) (simp difs (dif_same _ _ _ _ (omega arith)))

    finish_up : (L N T P Q : ℤ) → L ≡ N → N ≡ T +ℤ P → P ≡ Q → L -ℤ Q ≡ T
    finish_up L N T P Q e1 e2 e3 = omega (arith, ints, e1, e2, e3)

    back : (u w : ℤ) → u ≡ (u -ℤ w) +ℤ w
    back u w = omega (arith, ints)

    ap2 : {a a' b b' : ℤ} → a ≡ a' → b ≡ b' → a -ℤ b ≡ a' -ℤ b'
    ap2 e f = cc

    level : (j : ℕ) → j < suc t.n → ((pos 2 *ℤ p.w (t.var j)) *ℤ (a.x (t.var j) -ℤ a.q *ℤ p.d (t.var j))) -ℤ a.m v *ℤ mark p v t j ≡ net p.s p.l p.r (but v a.m) (t.var j)
    level j b =
        let parts : net p.s p.l p.r a.m (t.var j) ≡ net p.s p.l p.r (λ k. but v a.m k +ℤ put_at v (a.m v) k) (t.var j) =
        sum-same p.s _ _ (λ k d. ap (λ z. put_at (p.r k) z (t.var j) -ℤ put_at (p.l k) z (t.var j)) (back (a.m k) (put_at v (a.m v) k))) in
        let split = net-add p.s p.l p.r (but v a.m) (put_at v (a.m v)) (t.var j) in
        let force = net-put p.s p.l p.r v (a.m v) (t.var j) below in
        finish_up _ _ _ _ _ (st.level (t.var j) (h.within j b)) (parts ∙ split)
        (force ∙ (ap2 (put_as (p.r v) (a.m v) (t.var j)) (put_as (p.l v) (a.m v) (t.var j)) ∙ sym (less_times (a.m v) (put_at (p.r v) (pos 1) (t.var j)) (put_at (p.l v) (pos 1) (t.var j)))))

-- but for v the multipliers are those of the state
pub but-other : (v k : ℕ) (m : ℕ → ℤ) → v ≢ k → but v m k ≡ m k
but-other v k m ne = plain (m k) (put_at v (m v) k) (put_at-other v k (m v) ne)
  where
    plain : (u w : ℤ) → w ≡ pos 0 → u -ℤ w ≡ u
    plain u w e = omega (arith, ints)
