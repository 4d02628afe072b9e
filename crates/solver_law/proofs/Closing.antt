-- One closing, from rest to rest.
use Rattle.std.proofs.Common.{◌≡◌, ℕ, ◌*◌, ◌<◌, ℤ, pos, ◌+ℤ◌, ◌-ℤ◌, ◌*ℤ◌, ◌≤ℤ◌, ◌<ℤ◌, arith, sym, ◌∙◌, ap, ◌≢◌, Bool, ◌⊎◌, inl, inr, subst}
use Rattle.std.proofs.lemmas.Int.{ints}
use lib.IntN.{*ℤ-zero, *ℤ_comm}
use Rattle.solver_law.proofs.Ring.{dif_of, dif_pos, difs, dif_same}
use Rattle.solver_law.proofs.Sums.{sum-same, sum-scale}
use Rattle.solver_law.proofs.Net.{net-scale}
use Rattle.solver_law.proofs.State.{Givens, Point, IsState, mix, mix-state}
use Rattle.solver_law.proofs.Cut.{EndsBelow}
use Rattle.solver_law.proofs.Progress.{cost, lack, IsOnOr}
use Rattle.solver_law.proofs.Forest.{With, Without}
use Rattle.solver_law.proofs.Inside.{scale_le}
pub use Rattle.solver_law.specs.Closing.{SignsAreRight, AtRest, InClosing, Closed}
use Rattle.solver_law.proofs.Stops.{Weighs, worth, worth-keeps, worth-rises, times_not_below, begin-state, drop-state, join-state}

abbrev pub scale : ℤ → Point → Point
scale c a = record { q = c *ℤ a.q; x = λ i. c *ℤ a.x i; m = λ k. c *ℤ a.m k }

pub scale-state : (p : Givens) (On Pushed : ℕ → Type 0) (c : ℤ) (a : Point) → IsState p On Pushed a → IsState p On Pushed (scale c a)
scale-state p On Pushed c a h = record {
  tight = λ k b on. less_times c (a.x (p.r k)) (a.x (p.l k)) ∙ (ap (λ t. c *ℤ t) (h.tight k b on) ∙ assoc c a.q (p.g k));
  within = λ k b. kept k (h.within k b);
  level = λ i b. through c (pos 2 *ℤ p.w i) (a.x i) a.q (p.d i) ∙ (ap (λ t. c *ℤ t) (h.level i b) ∙ sym (net-scale p.s p.l p.r c a.m i));
}
  where
    kept : (k : ℕ) → (a.m k ≡ pos 0) ⊎ Pushed k → (c *ℤ a.m k ≡ pos 0) ⊎ Pushed k
    kept k (inl e) = inl (ap (λ t. c *ℤ t) e ∙ *ℤ-zero c)
    kept k (inr h) = inr h

    less_times : (c u v : ℤ) → c *ℤ u -ℤ c *ℤ v ≡ c *ℤ (u -ℤ v)
    less_times c u v = rw (dif_of c, dif_of u, dif_of v) (simp difs (dif_same _ _ _ _ (omega arith)))

    assoc : (c q g : ℤ) → c *ℤ (q *ℤ g) ≡ (c *ℤ q) *ℤ g
    assoc c q g = rw (dif_of c, dif_of q, dif_of g) (simp difs (dif_same _ _ _ _ (omega arith)))

    through : (c u x q d : ℤ) → u *ℤ (c *ℤ x -ℤ (c *ℤ q) *ℤ d) ≡ c *ℤ (u *ℤ (x -ℤ q *ℤ d))
    through c u x q d = rw (dif_of c, dif_of u, dif_of x, dif_of q, dif_of d) (simp difs (dif_same _ _ _ _ (omega arith)))

pub cost-scale : (p : Givens) (c : ℤ) (a : Point) → cost p (scale c a) ≡ (c *ℤ c) *ℤ cost p a
cost-scale p c a =
    sum-same p.n _ _ (λ i h. square c (p.w i) (a.x i) a.q (p.d i))
    ∙ sum-scale p.n (c *ℤ c) (λ i. p.w i *ℤ ((a.x i -ℤ a.q *ℤ p.d i) *ℤ (a.x i -ℤ a.q *ℤ p.d i)))
  where
    less_times : (c x q d : ℤ) → c *ℤ x -ℤ (c *ℤ q) *ℤ d ≡ c *ℤ (x -ℤ q *ℤ d)
    less_times c x q d = rw (dif_of c, dif_of x, dif_of q, dif_of d) (simp difs (dif_same _ _ _ _ (omega arith)))

    out : (c w u : ℤ) → w *ℤ ((c *ℤ u) *ℤ (c *ℤ u)) ≡ (c *ℤ c) *ℤ (w *ℤ (u *ℤ u))
    out c w u = rw (dif_of c, dif_of w, dif_of u) (simp difs (dif_same _ _ _ _ (omega arith)))

    square : (c w x q d : ℤ) → w *ℤ ((c *ℤ x -ℤ (c *ℤ q) *ℤ d) *ℤ (c *ℤ x -ℤ (c *ℤ q) *ℤ d)) ≡ (c *ℤ c) *ℤ (w *ℤ ((x -ℤ q *ℤ d) *ℤ (x -ℤ q *ℤ d)))
    square c w x q d = ap (λ t. w *ℤ (t *ℤ t)) (less_times c x q d) ∙ out c w (x -ℤ q *ℤ d)

pub lack-scale : (p : Givens) (c : ℤ) (a : Point) (v : ℕ) → lack p (scale c a) v ≡ c *ℤ lack p a v
lack-scale p c a v = ring c a.q (p.g v) (a.x (p.r v)) (a.x (p.l v))
  where
    ring : (c q g u v : ℤ) → (c *ℤ q) *ℤ g -ℤ (c *ℤ u -ℤ c *ℤ v) ≡ c *ℤ (q *ℤ g -ℤ (u -ℤ v))
    ring c q g u v = rw (dif_of c, dif_of q, dif_of g, dif_of u, dif_of v) (simp difs (dif_same _ _ _ _ (omega arith)))

pub worth-scale : (p : Givens) (c : ℤ) (a : Point) (v : ℕ) → worth p v (scale c a) ≡ (c *ℤ c) *ℤ worth p v a
worth-scale p c a v =
    ap (λ t. t +ℤ (c *ℤ a.m v) *ℤ lack p (scale c a) v) (cost-scale p c a)
    ∙ (ap (λ t. (c *ℤ c) *ℤ cost p a +ℤ (c *ℤ a.m v) *ℤ t) (lack-scale p c a v) ∙ ring c (cost p a) (a.m v) (lack p a v))
  where
    ring : (c A f l : ℤ) → (c *ℤ c) *ℤ A +ℤ (c *ℤ f) *ℤ (c *ℤ l) ≡ (c *ℤ c) *ℤ (A +ℤ f *ℤ l)
    ring c A f l = rw (dif_of c, dif_of A, dif_of f, dif_of l) (simp difs (dif_same _ _ _ _ (omega arith)))

pub begin : (p : Givens) (exact : ℕ → Bool) (On : ℕ → Type 0) (v : ℕ) (bound : ℤ) (F : ℕ) (point : Point) (Q : ℕ) → AtRest p exact On point Q
    → pos 0 <ℤ lack p point v → point.m v ≡ pos 0 → pos (Q * Q) *ℤ bound ≡ pos (F * F) *ℤ cost p point → InClosing p exact On v bound F point Q
begin p exact On v bound F point Q rest missing idle same = record {
  above = rest.above;
  over = rest.over;
  state = begin-state p On v point rest.state;
  signs = rest.signs;
  missing = missing;
  force = subst (λ t. pos 0 ≤ℤ t) (sym idle) (omega (arith, ints));
  worthy = level (pos (F * F)) (pos (Q * Q) *ℤ bound) (cost p point) (point.m v) (lack p point v) idle same;
}
  where
    level : (f u A m l : ℤ) → m ≡ pos 0 → u ≡ f *ℤ A → u ≤ℤ (f *ℤ (A +ℤ m *ℤ l))
    level f u A m l e h =
        let none : m *ℤ l ≡ pos 0 = ap (λ t. t *ℤ l) e ∙ (*ℤ_comm (pos 0) l ∙ *ℤ-zero l) in
        let plain : A +ℤ m *ℤ l ≡ A = omega (arith, ints, none) in
        rw plain (omega (arith, ints, h))

pub on-or : (On : ℕ → Type 0) (v : ℕ) → IsOnOr On (With On v) v
on-or On v = record { only = λ k ne h. old k ne h }
  where
    old : (k : ℕ) → k ≢ v → With On v k → On k
    old k ne (inl on) = on
    old k ne (inr e) = absurd (ne e)

same-q : (c t : ℕ) (q q' : ℤ) → q' ≡ pos 0 → pos c *ℤ q +ℤ pos t *ℤ q' ≡ pos c *ℤ q
same-q c t q q' e = ap (λ z. pos c *ℤ q +ℤ pos t *ℤ z) e ∙ (ap (λ z. pos c *ℤ q +ℤ z) (*ℤ-zero (pos t)) ∙ plain (pos c *ℤ q))
  where
    plain : (u : ℤ) → u +ℤ pos 0 ≡ u
    plain u = omega (arith, ints)

over_both : (c t Q : ℕ) (q q' : ℤ) → q ≡ pos Q → q' ≡ pos 0 → pos c *ℤ q +ℤ pos t *ℤ q' ≡ pos (c * Q)
over_both c t Q q q' e f = same-q c t q q' f ∙ ap (λ z. pos c *ℤ z) e

product_above : (c Q : ℕ) → 0 < c → 0 < Q → 0 < c * Q
product_above c Q hc hQ = grind arith

-- from one q to a finer one
finer : (c Q F : ℕ) (bound A B : ℤ) → (pos (Q * Q) *ℤ bound) ≤ℤ (pos (F * F) *ℤ A) → B ≡ (pos c *ℤ pos c) *ℤ A
    → (pos ((c * Q) * (c * Q)) *ℤ bound) ≤ℤ (pos (F * F) *ℤ B)
finer c Q F bound A B h e =
    let k = scale_le (c * c) (pos (Q * Q) *ℤ bound) (pos (F * F) *ℤ A) h in
    let left = grouped (pos c) (pos Q) bound in
    let right = swap_times (pos (c * c)) (pos (F * F)) A in
    rw e (omega (arith, ints, k, left, right))
  where
    grouped : (c Q b : ℤ) → ((c *ℤ Q) *ℤ (c *ℤ Q)) *ℤ b ≡ (c *ℤ c) *ℤ ((Q *ℤ Q) *ℤ b)
    grouped c Q b = rw (dif_of c, dif_of Q, dif_of b) (simp difs (dif_same _ _ _ _ (omega arith)))

    swap_times : (a b g : ℤ) → a *ℤ (b *ℤ g) ≡ b *ℤ (a *ℤ g)
    swap_times a b g = rw (dif_of a, dif_of b, dif_of g) (simp difs (dif_same _ _ _ _ (omega arith)))

scale_lt : (F : ℕ) (u v : ℤ) → 0 < F → u <ℤ v → (pos F *ℤ u) <ℤ (pos F *ℤ v)
scale_lt F u v above h =
    let k = scale_le F (u +ℤ pos 1) v (next u v h) in
    let e = more (pos F) u in
    omega (arith, ints, k, e, above)
  where
    next : (u v : ℤ) → u <ℤ v → (u +ℤ pos 1) ≤ℤ v
    next u v h = omega (arith, ints)

    more : (f u : ℤ) → f *ℤ (u +ℤ pos 1) ≡ f *ℤ u +ℤ f
    more f u = rw (dif_of f, dif_of u, dif_pos 1) (simp difs (dif_same _ _ _ _ (omega arith)))

-- the force grows: t more of the direction b, c times as fine
pub slide : (p : Givens) (w : ℕ → ℕ) (exact : ℕ → Bool) (On : ℕ → Type 0) (v : ℕ) (bound : ℤ) (F : ℕ) (a b : Point) (Q c t : ℕ)
    → Weighs p w → EndsBelow p → v < p.s → 0 < c
    → InClosing p exact On v bound F a Q → IsState p On (With On v) b → b.q ≡ pos 0 → pos 0 ≤ℤ b.m v
    → SignsAreRight p exact (mix (pos c) a (pos t) b) → pos 0 <ℤ lack p (mix (pos c) a (pos t) b) v
    → InClosing p exact On v bound F (mix (pos c) a (pos t) b) (c * Q)
slide p w exact On v bound F a b Q c t weighs ends below fine h dir still up signs missing = record {
  above = product_above c Q fine h.above;
  over = over_both c t Q a.q b.q h.over still;
  state = mix-state p On (With On v) (pos c) (pos t) a b h.state dir;
  signs = signs;
  missing = missing;
  force = sum_not_below (pos c *ℤ a.m v) (pos t *ℤ b.m v) (times_not_below c (a.m v) h.force) (times_not_below t (b.m v) up);
  worthy = up_to (finer c Q F bound (worth p v a) (worth p v (scale (pos c) a)) h.worthy (worth-scale p (pos c) a v))
      (scale_le (F * F) (worth p v (scale (pos c) a)) (worth p v (mix (pos c) a (pos t) b))
      (worth-keeps p w On (With On v) v (scale (pos c) a) (mix (pos c) a (pos t) b) weighs ends below (on-or On v)
      (scale-state p On (With On v) (pos c) a h.state) (mix-state p On (With On v) (pos c) (pos t) a b h.state dir) (same-q c t a.q b.q still)
      (rising (pos c *ℤ a.m v) (pos t *ℤ b.m v) (times_not_below t (b.m v) up)) (not_below _ missing)));
}
  where
    sum_not_below : (u v : ℤ) → pos 0 ≤ℤ u → pos 0 ≤ℤ v → pos 0 ≤ℤ (u +ℤ v)
    sum_not_below u v h g = omega (arith, ints)

    rising : (u v : ℤ) → pos 0 ≤ℤ v → u ≤ℤ (u +ℤ v)
    rising u v h = omega (arith, ints)

    not_below : (u : ℤ) → pos 0 <ℤ u → pos 0 ≤ℤ u
    not_below u h = omega (arith, ints)

    up_to : {u v w : ℤ} → u ≤ℤ v → v ≤ℤ w → u ≤ℤ w
    up_to h g = omega (arith, ints)

-- a separation whose multiplier has fallen to 0 is dropped
pub drop : (p : Givens) (exact : ℕ → Bool) (On : ℕ → Type 0) (v k : ℕ) (bound : ℤ) (F : ℕ) (a : Point) (Q : ℕ) → k ≢ v → a.m k ≡ pos 0
    → InClosing p exact On v bound F a Q → InClosing p exact (Without On k) v bound F a Q
drop p exact On v k bound F a Q ne none h = record {
  above = h.above;
  over = h.over;
  state = drop-state p On v k a ne none h.state;
  signs = h.signs;
  missing = h.missing;
  force = h.force;
  worthy = h.worthy;
}

-- the force reaches the one that closes the gap
pub close : (p : Givens) (w : ℕ → ℕ) (exact : ℕ → Bool) (On : ℕ → Type 0) (v : ℕ) (bound : ℤ) (F : ℕ) (a b : Point) (Q c t : ℕ)
    → Weighs p w → EndsBelow p → v < p.s → 0 < c → 0 < F
    → InClosing p exact On v bound F a Q → IsState p On (With On v) b → b.q ≡ pos 0
    → SignsAreRight p exact (mix (pos c) a (pos t) b) → lack p (mix (pos c) a (pos t) b) v ≡ pos 0
    → Closed p exact On v bound F (mix (pos c) a (pos t) b) (c * Q)
close p w exact On v bound F a b Q c t weighs ends below fine large h dir still signs none = record {
  rest = record {
    above = product_above c Q fine h.above;
    over = over_both c t Q a.q b.q h.over still;
    state = join-state p On v (mix (pos c) a (pos t) b) none (mix-state p On (With On v) (pos c) (pos t) a b h.state dir);
    signs = signs;
  };
  larger = up_to (finer c Q F bound (worth p v a) (worth p v (scale (pos c) a)) h.worthy (worth-scale p (pos c) a v))
      (scale_lt (F * F) (worth p v (scale (pos c) a)) (cost p (mix (pos c) a (pos t) b)) (product_above F F large large)
      (worth-rises p w On (With On v) v (scale (pos c) a) (mix (pos c) a (pos t) b) weighs ends below (on-or On v)
      (scale-state p On (With On v) (pos c) a h.state) (mix-state p On (With On v) (pos c) (pos t) a b h.state dir) (same-q c t a.q b.q still)
      (subst (λ t. pos 0 <ℤ t) (sym (lack-scale p (pos c) a v)) (scaled_above c (lack p a v) fine h.missing)) none));
}
  where
    up_to : {u v w : ℤ} → u ≤ℤ v → v <ℤ w → u <ℤ w
    up_to h g = omega (arith, ints)

    scaled_above : (c : ℕ) (u : ℤ) → 0 < c → pos 0 <ℤ u → pos 0 <ℤ (pos c *ℤ u)
    scaled_above c u h g = subst (λ t. t <ℤ (pos c *ℤ u)) (*ℤ-zero (pos c)) (scale_lt c (pos 0) u h g)
