-- The stops of a closing: a separation is dropped, or the gap is closed.
use Rattle.std.proofs.Common.{◌≡◌, ℕ, zero, suc, ◌<◌, ℤ, pos, negsuc, ◌+ℤ◌, ◌-ℤ◌, ◌*ℤ◌, ◌≤ℤ◌, ◌<ℤ◌, nat_abs, arith, refl, sym, ◌∙◌, ap, ◌≢◌, Bool, true, false, ◌⊎◌, inl, inr, eqb, eqb-true, subst}
use Rattle.std.proofs.lemmas.Int.{ints}
use Rattle.std.proofs.lemmas.Bool.{eqb-false}
use lib.IntN.{*ℤ-zero}
use Rattle.solver_law.proofs.Sums.{sum_to}
use Rattle.solver_law.proofs.State.{Givens, Point, IsState}
use Rattle.solver_law.proofs.Cut.{EndsBelow}
use Rattle.solver_law.proofs.Progress.{cost, way, lack, IsOnOr, progress}
use Rattle.solver_law.proofs.Forest.{With, Without}
pub use Rattle.solver_law.specs.Cost.{worth}

-- a multiplier that has fallen to 0 is dropped
pub drop-state : (p : Givens) (On : ℕ → Type 0) (v k : ℕ) (a : Point) → k ≢ v → a.m k ≡ pos 0 → IsState p On (With On v) a → IsState p (Without On k) (With (Without On k) v) a
drop-state p On v k a ne none h = record {
  tight = λ j b on. h.tight j b on.0;
  within = λ j b. kept j (h.within j b) (eqb j k) refl;
  level = h.level;
}
  where
    kept : (j : ℕ) → (a.m j ≡ pos 0) ⊎ With On v j → (b : Bool) → eqb j k ≡ b → (a.m j ≡ pos 0) ⊎ With (Without On k) v j
    kept j h true e = inl (subst (λ i. a.m i ≡ pos 0) (sym (eqb-true j k e)) none)
    kept j (inl z) false e = inl z
    kept j (inr (inl on)) false e = inr (inl (on, eqb-false j k e))
    kept j (inr (inr q)) false e = inr (inr q)

-- where nothing is missing the separation joins the active ones
pub join-state : (p : Givens) (On : ℕ → Type 0) (v : ℕ) (a : Point) → lack p a v ≡ pos 0 → IsState p On (With On v) a → IsState p (With On v) (With On v) a
join-state p On v a none h = record {
  tight = λ k b on. by_case k b on;
  within = h.within;
  level = h.level;
}
  where
    met : (x e : ℤ) → e -ℤ x ≡ pos 0 → x ≡ e
    met x e h = omega (arith, ints)

    by_case : (k : ℕ) → k < p.s → With On v k → a.x (p.r k) -ℤ a.x (p.l k) ≡ a.q *ℤ p.g k
    by_case k b (inl on) = h.tight k b on
    by_case k b (inr e) = subst (λ k. a.x (p.r k) -ℤ a.x (p.l k) ≡ a.q *ℤ p.g k) (sym e) (met (a.x (p.r v) -ℤ a.x (p.l v)) (a.q *ℤ p.g v) none)

-- a state with no force begins the closing of v
pub begin-state : (p : Givens) (On : ℕ → Type 0) (v : ℕ) (a : Point) → IsState p On On a → IsState p On (With On v) a
begin-state p On v a h = record { tight = h.tight; within = λ k b. more k (h.within k b); level = h.level }
  where
    more : (k : ℕ) → (a.m k ≡ pos 0) ⊎ On k → (a.m k ≡ pos 0) ⊎ With On v k
    more k (inl z) = inl z
    more k (inr on) = inr (inl on)

square_not_below : (z : ℤ) → pos 0 ≤ℤ (z *ℤ z)
square_not_below (pos n) = omega (arith, ints)
square_not_below (negsuc n) = omega (arith, ints)

pub times_not_below : (w : ℕ) (z : ℤ) → pos 0 ≤ℤ z → pos 0 ≤ℤ (pos w *ℤ z)
times_not_below w z h =
    let e : z ≡ pos (nat_abs z) = omega (arith, ints) in
    rw e (omega (arith, ints))

weighted_above : (w : ℕ) (z : ℤ) → 0 < w → z ≢ pos 0 → pos 0 <ℤ (pos w *ℤ (z *ℤ z))
weighted_above zero z h ne = absurd (omega arith)
weighted_above (suc w) (pos zero) h ne = absurd (ne refl)
weighted_above (suc w) (pos (suc n)) h ne = omega (arith, ints)
weighted_above (suc w) (negsuc n) h ne = omega (arith, ints)

sum_not_below : (n : ℕ) (f : ℕ → ℤ) → ((i : ℕ) → i < n → pos 0 ≤ℤ f i) → pos 0 ≤ℤ sum_to n f
sum_not_below zero f h = omega (arith, ints)
sum_not_below (suc n) f h =
    let here = h zero (omega arith) in
    let rest = sum_not_below n (λ i. f (suc i)) (λ i b. h (suc i) (omega arith)) in
    omega (arith, ints, here, rest)

pub sum_above : (n j : ℕ) (f : ℕ → ℤ) → j < n → ((i : ℕ) → i < n → pos 0 ≤ℤ f i) → pos 0 <ℤ f j → pos 0 <ℤ sum_to n f
sum_above zero j f b h a = absurd (omega arith)
sum_above (suc n) zero f b h a =
    let rest = sum_not_below n (λ i. f (suc i)) (λ i b. h (suc i) (omega arith)) in
    omega (arith, ints, a, rest)
sum_above (suc n) (suc j) f b h a =
    let here = h zero (omega arith) in
    let rest = sum_above n j (λ i. f (suc i)) (omega arith) (λ i b. h (suc i) (omega arith)) a in
    omega (arith, ints, here, rest)

pub record Weighs (p : Givens) (w : ℕ → ℕ) : Type 0 where
  pub whole : (i : ℕ) → p.w i ≡ pos (w i)
  pub above : (i : ℕ) → i < p.n → 0 < w i

way_term : (p : Givens) (w : ℕ → ℕ) (a b : Point) → Weighs p w → (i : ℕ) → pos 0 ≤ℤ (p.w i *ℤ ((b.x i -ℤ a.x i) *ℤ (b.x i -ℤ a.x i)))
way_term p w a b h i = subst (λ t. pos 0 ≤ℤ (t *ℤ ((b.x i -ℤ a.x i) *ℤ (b.x i -ℤ a.x i)))) (sym (h.whole i)) (times_not_below (w i) _ (square_not_below (b.x i -ℤ a.x i)))

pub way-not-below : (p : Givens) (w : ℕ → ℕ) (a b : Point) → Weighs p w → pos 0 ≤ℤ way p a b
way-not-below p w a b h = sum_not_below p.n _ (λ i below. way_term p w a b h i)

pub way-above : (p : Givens) (w : ℕ → ℕ) (a b : Point) (i : ℕ) → Weighs p w → i < p.n → b.x i -ℤ a.x i ≢ pos 0 → pos 0 <ℤ way p a b
way-above p w a b i h below ne =
    sum_above p.n i _ below (λ j b'. way_term p w a b h j)
    (subst (λ t. pos 0 <ℤ (t *ℤ ((b.x i -ℤ a.x i) *ℤ (b.x i -ℤ a.x i)))) (sym (h.whole i)) (weighted_above (w i) (b.x i -ℤ a.x i) (h.above i below) ne))

-- a stop where something is missing yet
pub worth-keeps : (p : Givens) (w : ℕ → ℕ) (On Pushed : ℕ → Type 0) (v : ℕ) (a b : Point) → Weighs p w → EndsBelow p → v < p.s → IsOnOr On Pushed v
    → IsState p On Pushed a → IsState p On Pushed b → b.q ≡ a.q → a.m v ≤ℤ b.m v → pos 0 ≤ℤ lack p b v → worth p v a ≤ℤ worth p v b
worth-keeps p w On Pushed v a b weighs ends below closing ha hb same rise missing =
    up (worth p v a) (worth p v b) (way p a b) (a.m v) (b.m v) (lack p b v) (progress p On Pushed v a b ends below closing ha hb same) (way-not-below p w a b weighs) rise missing
  where
    up : (A B W f f' c : ℤ) → B ≡ (A +ℤ W) +ℤ (f' -ℤ f) *ℤ c → pos 0 ≤ℤ W → f ≤ℤ f' → pos 0 ≤ℤ c → A ≤ℤ B
    up A B W f f' c e hw hf hc =
        let u : f' -ℤ f ≡ pos (nat_abs (f' -ℤ f)) = omega (arith, ints) in
        let g = times_not_below (nat_abs (f' -ℤ f)) c hc in
        let k = rw u at e in
        omega (arith, ints, k, g, hw)

-- the stop that ends the closing
pub worth-rises : (p : Givens) (w : ℕ → ℕ) (On Pushed : ℕ → Type 0) (v : ℕ) (a b : Point) → Weighs p w → EndsBelow p → v < p.s → IsOnOr On Pushed v
    → IsState p On Pushed a → IsState p On Pushed b → b.q ≡ a.q → pos 0 <ℤ lack p a v → lack p b v ≡ pos 0 → worth p v a <ℤ cost p b
worth-rises p w On Pushed v a b weighs ends below closing ha hb same missing none =
    up (worth p v a) (cost p b) (way p a b) (a.m v) (b.m v) (lack p b v) (progress p On Pushed v a b ends below closing ha hb same) none moved
  where
    up : (A B W f f' c : ℤ) → B +ℤ f' *ℤ c ≡ (A +ℤ W) +ℤ (f' -ℤ f) *ℤ c → c ≡ pos 0 → pos 0 <ℤ W → A <ℤ B
    up A B W f f' c e z hw =
        let u = ap (λ t. f' *ℤ t) z ∙ *ℤ-zero f' in
        let v = ap (λ t. (f' -ℤ f) *ℤ t) z ∙ *ℤ-zero (f' -ℤ f) in
        omega (arith, ints, e, u, v, hw)

    differ : (xr xl yr yl e e' : ℤ) → e' ≡ e → pos 0 <ℤ (e -ℤ (xr -ℤ xl)) → e' -ℤ (yr -ℤ yl) ≡ pos 0 → yr -ℤ xr ≡ pos 0 → yl -ℤ xl ≢ pos 0
    differ xr xl yr yl e e' s m n z = λ q. absurd (omega (arith, ints, s, m, n, z, q))

    zero_or : (z : ℤ) → (z ≡ pos 0) ⊎ (z ≢ pos 0)
    zero_or (pos zero) = inl refl
    zero_or (pos (suc n)) = inr (λ e. absurd (omega (arith, ints, e)))
    zero_or (negsuc n) = inr (λ e. absurd (omega (arith, ints, e)))

    by_case : (b.x (p.r v) -ℤ a.x (p.r v) ≡ pos 0) ⊎ (b.x (p.r v) -ℤ a.x (p.r v) ≢ pos 0) → pos 0 <ℤ way p a b
    by_case (inr ne) = way-above p w a b (p.r v) weighs (ends v below).1 ne
    by_case (inl z) = way-above p w a b (p.l v) weighs (ends v below).0
        (differ (a.x (p.r v)) (a.x (p.l v)) (b.x (p.r v)) (b.x (p.l v)) (a.q *ℤ p.g v) (b.q *ℤ p.g v) (ap (λ q. q *ℤ p.g v) same) missing none z)

    moved : pos 0 <ℤ way p a b
    moved = by_case (zero_or (b.x (p.r v) -ℤ a.x (p.r v)))
