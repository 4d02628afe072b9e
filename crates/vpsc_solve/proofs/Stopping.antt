-- From one stop of a closing to the next, by what the sums of the blocks say of every state.
use Rattle.std.proofs.Common.{◌≡◌, ◌≢◌, ℕ, ◌*◌, ◌<◌, ℤ, pos, negsuc, neg_ℤ, ◌+ℤ◌, ◌-ℤ◌, ◌*ℤ◌, ◌<ℤ◌, ◌≤ℤ◌, nat_abs, arith, sym, ap, ◌∙◌, Bool, false, subst, ◌⊎◌, inl, inr}
use Rattle.std.proofs.lemmas.Int.{ints}
use lib.IntN.{*ℤ-zero, *ℤ_comm}
use Rattle.solver_law.specs.State.{Givens, Point, IsState, mix}
use Rattle.solver_law.specs.Forest.{With, Without}
use Rattle.solver_law.proofs.Ring.{dif_of, difs, dif_same}
use Rattle.solver_law.proofs.Signs.{not-below-of, above-of, below-of, times-above, times-not-below, times-below}
use Rattle.solver_law.proofs.State.{mix-state}
use Rattle.solver_law.proofs.Cut.{EndsBelow}
use Rattle.solver_law.proofs.Progress.{lack}
use Rattle.solver_law.proofs.Stops.{Weighs}
pub use Rattle.vpsc_solve.specs.Stops.{NextClosing, NextRest}
use Rattle.solver_law.proofs.Closing.{SignsAreRight, InClosing, slide, drop, close}

-- ---- what the sums say

-- in every state the multiplier of k, times W, is `rest` and a share of the force
pub record Law (p : Givens) (On : ℕ → Type 0) (v k : ℕ) (W : ℕ) (rest share : ℤ) : Type 0 where
  pub above : 0 < W
  pub law : (a : Point) → IsState p On (With On v) a → pos W *ℤ a.m k ≡ a.q *ℤ rest +ℤ a.m v *ℤ share

-- in every state what is missing at v, times D, is `rest` less a part of the force
pub record GapLaw (p : Givens) (On : ℕ → Type 0) (v : ℕ) (D : ℕ) (rest fall : ℤ) : Type 0 where
  pub above : 0 < D
  pub down : pos 0 <ℤ fall
  pub law : (a : Point) → IsState p On (With On v) a → pos D *ℤ lack p a v ≡ a.q *ℤ rest -ℤ a.m v *ℤ fall

-- a direction in which the force grows
pub record IsDirection (p : Givens) (On : ℕ → Type 0) (v : ℕ) (b : Point) : Type 0 where
  pub state : IsState p On (With On v) b
  pub still : b.q ≡ pos 0
  pub up : pos 0 <ℤ b.m v

-- the multiplier of k doesn't fall to 0 before the force rest0 / fall0
pub record IsLater (p : Givens) (On : ℕ → Type 0) (v : ℕ) (rest0 fall0 : ℤ) (k : ℕ) : Type 0 where
  pub W : ℕ
  pub rest : ℤ
  pub share : ℤ
  pub law : Law p On v k W rest share
  pub later : (rest0 *ℤ neg_ℤ share) ≤ℤ (rest *ℤ fall0)

-- each multiplier that has to be at least 0 grows with the force, or is later
abbrev pub AreLater : Givens → (ℕ → Type 0) → (ℕ → Bool) → ℕ → Point → ℤ → ℤ → Type 0
AreLater p On exact v b rest0 fall0 = (k : ℕ) → k < p.s → exact k ≡ false → (pos 0 ≤ℤ b.m k) ⊎ IsLater p On v rest0 fall0 k

later-sign : (p : Givens) (On : ℕ → Type 0) (v k : ℕ) (e : Point) (rest0 fall0 : ℤ) → IsState p On (With On v) e → pos 0 ≤ℤ e.q → pos 0 <ℤ fall0 → e.m v *ℤ fall0 ≡ e.q *ℤ rest0
    → IsLater p On v rest0 fall0 k → pos 0 ≤ℤ e.m k
later-sign p On v k e rest0 fall0 st hq hf force h =
    not-below-of h.W (e.m k) h.law.above
    (not-below-of (nat_abs fall0) (pos h.W *ℤ e.m k) (omega (arith, ints, hf))
    (subst (λ f. pos 0 ≤ℤ (f *ℤ (pos h.W *ℤ e.m k))) (whole fall0 hf)
    (arrange e.q rest0 fall0 (e.m v) h.rest h.share (pos h.W *ℤ e.m k) (h.law.law e st) force
    (times-not-below e.q (h.rest *ℤ fall0 -ℤ rest0 *ℤ neg_ℤ h.share) hq (left (rest0 *ℤ neg_ℤ h.share) (h.rest *ℤ fall0) h.later)))))
  where
    whole : (z : ℤ) → pos 0 <ℤ z → z ≡ pos (nat_abs z)
    whole z h = omega (arith, ints, h)

    left : (u w : ℤ) → u ≤ℤ w → pos 0 ≤ℤ (w -ℤ u)
    left u w h = omega (arith, ints, h)

    ring1 : (q r f m s : ℤ) → f *ℤ (q *ℤ r +ℤ m *ℤ s) ≡ q *ℤ (r *ℤ f) +ℤ (m *ℤ f) *ℤ s
    ring1 q r f m s = rw (dif_of q, dif_of r, dif_of f, dif_of m, dif_of s) (simp difs (dif_same _ _ _ _ (omega arith)))

    ring2 : (q r f r0 s : ℤ) → q *ℤ (r *ℤ f) +ℤ (q *ℤ r0) *ℤ s ≡ q *ℤ (r *ℤ f -ℤ r0 *ℤ neg_ℤ s)
    ring2 q r f r0 s = rw (dif_of q, dif_of r, dif_of f, dif_of r0, dif_of s) (simp difs (dif_same _ _ _ _ (omega arith)))

    arrange : (q r0 f m r s z : ℤ) → z ≡ q *ℤ r +ℤ m *ℤ s → m *ℤ f ≡ q *ℤ r0 → pos 0 ≤ℤ (q *ℤ (r *ℤ f -ℤ r0 *ℤ neg_ℤ s)) → pos 0 ≤ℤ (f *ℤ z)
    arrange q r0 f m r s z ez em h =
        subst (λ t. pos 0 ≤ℤ t) (sym (ap (λ t. f *ℤ t) ez ∙ (ring1 q r f m s ∙ (ap (λ t. q *ℤ (r *ℤ f) +ℤ t *ℤ s) em ∙ ring2 q r f r0 s)))) h

q-is : (c t Q : ℕ) (q q' : ℤ) → q ≡ pos Q → q' ≡ pos 0 → pos c *ℤ q +ℤ pos t *ℤ q' ≡ pos (c * Q)
q-is c t Q q q' e f = let z = *ℤ-zero (pos t) in rw (e, f) (omega (arith, ints, z))

sum-not-below : (c t : ℕ) (u w : ℤ) → pos 0 ≤ℤ u → pos 0 ≤ℤ w → pos 0 ≤ℤ (pos c *ℤ u +ℤ pos t *ℤ w)
sum-not-below c t u w h g =
    let a = times-not-below (pos c) u (omega (arith, ints)) h in
    let b = times-not-below (pos t) w (omega (arith, ints)) g in
    omega (arith, ints, a, b)

-- the signs after a slide as far as the force rest0 / fall0
signs-after : (p : Givens) (On : ℕ → Type 0) (exact : ℕ → Bool) (v : ℕ) (a b : Point) (c t Q : ℕ) (rest0 fall0 : ℤ) → SignsAreRight p exact a → a.q ≡ pos Q → IsState p On (With On v) a → IsDirection p On v b
    → pos 0 <ℤ fall0 → (mix (pos c) a (pos t) b).m v *ℤ fall0 ≡ (mix (pos c) a (pos t) b).q *ℤ rest0 → AreLater p On exact v b rest0 fall0 → SignsAreRight p exact (mix (pos c) a (pos t) b)
signs-after p On exact v a b c t Q rest0 fall0 signs over st dir hf force later k below loose = by_case (later k below loose)
  where
    by_case : (pos 0 ≤ℤ b.m k) ⊎ IsLater p On v rest0 fall0 k → pos 0 ≤ℤ (pos c *ℤ a.m k +ℤ pos t *ℤ b.m k)
    by_case (inl up) = sum-not-below c t (a.m k) (b.m k) (signs k below loose) up
    by_case (inr l) = later-sign p On v k (mix (pos c) a (pos t) b) rest0 fall0 (mix-state p On (With On v) (pos c) (pos t) a b st dir.state)
        (subst (λ z. pos 0 ≤ℤ z) (sym (q-is c t Q a.q b.q over dir.still)) (omega (arith, ints))) hf force l

-- ---- a multiplier falls to 0 first

-- the gap stays open as long: its force is later, or nothing moves
abbrev pub StaysOpen : Givens → (ℕ → Type 0) → ℕ → Point → ℤ → ℤ → Type 0
StaysOpen p On v b rest0 fall0 = (lack p b v ≡ pos 0) ⊎ ((D : ℕ) × (rest : ℤ) × (fall : ℤ) × GapLaw p On v D rest fall × ((rest0 *ℤ fall) <ℤ (rest *ℤ fall0)))

gap-after : (p : Givens) (On : ℕ → Type 0) (v : ℕ) (a b : Point) (c t Q : ℕ) (rest0 fall0 : ℤ) → a.q ≡ pos Q → 0 < c → 0 < Q → IsState p On (With On v) a → IsDirection p On v b
    → pos 0 <ℤ lack p a v → pos 0 <ℤ fall0 → (mix (pos c) a (pos t) b).m v *ℤ fall0 ≡ (mix (pos c) a (pos t) b).q *ℤ rest0 → StaysOpen p On v b rest0 fall0 → pos 0 <ℤ lack p (mix (pos c) a (pos t) b) v
gap-after p On v a b c t Q rest0 fall0 over hc hQ st dir missing hf force stays = by_case stays
  where
    mixed : (c t q q' g u w y z : ℤ) → (c *ℤ q +ℤ t *ℤ q') *ℤ g -ℤ ((c *ℤ u +ℤ t *ℤ y) -ℤ (c *ℤ w +ℤ t *ℤ z)) ≡ c *ℤ (q *ℤ g -ℤ (u -ℤ w)) +ℤ t *ℤ (q' *ℤ g -ℤ (y -ℤ z))
    mixed c t q q' g u w y z = rw (dif_of c, dif_of t, dif_of q, dif_of q', dif_of g, dif_of u, dif_of w, dif_of y, dif_of z) (simp difs (dif_same _ _ _ _ (omega arith)))

    still : (x u w : ℤ) (t : ℕ) → x ≡ u +ℤ pos t *ℤ w → w ≡ pos 0 → x ≡ u
    still x u w t e f = let z = ap (λ s. pos t *ℤ s) f ∙ *ℤ-zero (pos t) in omega (arith, ints, e, z)

    whole : (z : ℤ) → pos 0 <ℤ z → z ≡ pos (nat_abs z)
    whole z h = omega (arith, ints, h)

    left : (u w : ℤ) → u <ℤ w → pos 0 <ℤ (w -ℤ u)
    left u w h = omega (arith, ints, h)

    ring1 : (q r f m s : ℤ) → f *ℤ (q *ℤ r -ℤ m *ℤ s) ≡ q *ℤ (r *ℤ f) -ℤ (m *ℤ f) *ℤ s
    ring1 q r f m s = rw (dif_of q, dif_of r, dif_of f, dif_of m, dif_of s) (simp difs (dif_same _ _ _ _ (omega arith)))

    ring2 : (q r f r0 s : ℤ) → q *ℤ (r *ℤ f) -ℤ (q *ℤ r0) *ℤ s ≡ q *ℤ (r *ℤ f -ℤ r0 *ℤ s)
    ring2 q r f r0 s = rw (dif_of q, dif_of r, dif_of f, dif_of r0, dif_of s) (simp difs (dif_same _ _ _ _ (omega arith)))

    arrange : (q r0 f m r s z : ℤ) → z ≡ q *ℤ r -ℤ m *ℤ s → m *ℤ f ≡ q *ℤ r0 → pos 0 <ℤ (q *ℤ (r *ℤ f -ℤ r0 *ℤ s)) → pos 0 <ℤ (f *ℤ z)
    arrange q r0 f m r s z ez em h =
        subst (λ t. pos 0 <ℤ t) (sym (ap (λ t. f *ℤ t) ez ∙ (ring1 q r f m s ∙ (ap (λ t. q *ℤ (r *ℤ f) -ℤ t *ℤ s) em ∙ ring2 q r f r0 s)))) h

    fine : (c Q : ℕ) → 0 < c → 0 < Q → pos 0 <ℤ pos (c * Q)
    fine c Q h g = times-above (pos c) (pos Q) (omega (arith, ints, h)) (omega (arith, ints, g))

    by_case : (lack p b v ≡ pos 0) ⊎ ((D : ℕ) × (rest : ℤ) × (fall : ℤ) × GapLaw p On v D rest fall × ((rest0 *ℤ fall) <ℤ (rest *ℤ fall0))) → pos 0 <ℤ lack p (mix (pos c) a (pos t) b) v
    by_case (inl e) =
        subst (λ z. pos 0 <ℤ z) (sym (still _ (pos c *ℤ lack p a v) (lack p b v) t (mixed (pos c) (pos t) a.q b.q (p.g v) (a.x (p.r v)) (a.x (p.l v)) (b.x (p.r v)) (b.x (p.l v))) e))
        (times-above (pos c) (lack p a v) (omega (arith, ints, hc)) missing)
    by_case (inr w) =
        above-of w.0 (lack p (mix (pos c) a (pos t) b) v) w.3.above
        (above-of (nat_abs fall0) (pos w.0 *ℤ lack p (mix (pos c) a (pos t) b) v) (omega (arith, ints, hf))
        (subst (λ f. pos 0 <ℤ (f *ℤ (pos w.0 *ℤ lack p (mix (pos c) a (pos t) b) v))) (whole fall0 hf)
        (arrange (mix (pos c) a (pos t) b).q rest0 fall0 ((mix (pos c) a (pos t) b).m v) w.1 w.2 (pos w.0 *ℤ lack p (mix (pos c) a (pos t) b) v)
        (w.3.law (mix (pos c) a (pos t) b) (mix-state p On (With On v) (pos c) (pos t) a b st dir.state)) force
        (times-above (mix (pos c) a (pos t) b).q (w.1 *ℤ fall0 -ℤ rest0 *ℤ w.2) (subst (λ z. pos 0 <ℤ z) (sym (q-is c t Q a.q b.q over dir.still)) (fine c Q hc hQ)) (left (rest0 *ℤ w.2) (w.1 *ℤ fall0) w.4)))))

-- the separation k falls to 0 before all others and before the gap is closed: it is dropped
pub fall-step : (p : Givens) (w : ℕ → ℕ) (exact : ℕ → Bool) (On : ℕ → Type 0) (v k : ℕ) (bound : ℤ) (F : ℕ) (a b : Point) (Q W : ℕ) (rest share : ℤ)
    → Weighs p w → EndsBelow p → v < p.s → k < p.s → k ≢ v → exact k ≡ false
    → InClosing p exact On v bound F a Q → IsDirection p On v b → Law p On v k W rest share → share <ℤ pos 0
    → AreLater p On exact v b rest (neg_ℤ share) → StaysOpen p On v b rest (neg_ℤ share)
    → NextClosing p exact (Without On k) v bound F
fall-step p w exact On v k bound F a b Q W rest share weighs ends below among differ loose h dir law falls later stays = record {
  point = mix (pos c) a (pos t) b;
  Q = c * Q;
  closing = drop p exact On v k bound F (mix (pos c) a (pos t) b) (c * Q) differ none
      (slide p w exact On v bound F a b Q c t weighs ends below fine h dir.state dir.still (not_below (b.m v) dir.up)
      (signs-after p On exact v a b c t Q rest (neg_ℤ share) h.signs h.over h.state dir turned force later)
      (gap-after p On v a b c t Q rest (neg_ℤ share) h.over fine h.above h.state dir h.missing turned force stays));
}
  where
    c : ℕ
    c = nat_abs (b.m k)

    t : ℕ
    t = nat_abs (a.m k)

    not_below : (u : ℤ) → pos 0 <ℤ u → pos 0 ≤ℤ u
    not_below u h = omega (arith, ints, h)

    turned : pos 0 <ℤ neg_ℤ share
    turned = omega (arith, ints, falls)

    down : b.m k <ℤ pos 0
    down = below-of W (b.m k) law.above (subst (λ z. z <ℤ pos 0) (sym (law.law b dir.state ∙ zero_q b.q rest (b.m v *ℤ share) dir.still)) (times-below (b.m v) share dir.up falls))
      where
        zero_q : (q r z : ℤ) → q ≡ pos 0 → q *ℤ r +ℤ z ≡ z
        zero_q q r z e = let n = ap (λ s. s *ℤ r) e ∙ (*ℤ_comm (pos 0) r ∙ *ℤ-zero r) in omega (arith, ints, n)

    fine : 0 < nat_abs (b.m k)
    fine = size (b.m k) down
      where
        size : (z : ℤ) → z <ℤ pos 0 → 0 < nat_abs z
        size z h = omega (arith, ints, h)

    none : pos (nat_abs (b.m k)) *ℤ a.m k +ℤ pos (nat_abs (a.m k)) *ℤ b.m k ≡ pos 0
    none = gone (a.m k) (b.m k) (h.signs k among loose) down
      where
        gone : (x y : ℤ) → pos 0 ≤ℤ x → y <ℤ pos 0 → pos (nat_abs y) *ℤ x +ℤ pos (nat_abs x) *ℤ y ≡ pos 0
        gone (pos n) (negsuc m) h g = omega (arith, ints)
        gone (negsuc n) y h g = absurd (omega (arith, ints, h))
        gone (pos n) (pos m) h g = absurd (omega (arith, ints, g))

    force : (mix (pos (nat_abs (b.m k))) a (pos (nat_abs (a.m k))) b).m v *ℤ neg_ℤ share ≡ (mix (pos (nat_abs (b.m k))) a (pos (nat_abs (a.m k))) b).q *ℤ rest
    force = from_law (pos W) ((mix (pos (nat_abs (b.m k))) a (pos (nat_abs (a.m k))) b).m k) (mix (pos (nat_abs (b.m k))) a (pos (nat_abs (a.m k))) b).q rest ((mix (pos (nat_abs (b.m k))) a (pos (nat_abs (a.m k))) b).m v) share none
        (law.law (mix (pos (nat_abs (b.m k))) a (pos (nat_abs (a.m k))) b) (mix-state p On (With On v) (pos (nat_abs (b.m k))) (pos (nat_abs (a.m k))) a b h.state dir.state))
      where
        neg_times : (m s : ℤ) → m *ℤ neg_ℤ s ≡ neg_ℤ (m *ℤ s)
        neg_times m s = rw (dif_of m, dif_of s) (simp difs (dif_same _ _ _ _ (omega arith)))

        from_law : (W z q r m s : ℤ) → z ≡ pos 0 → W *ℤ z ≡ q *ℤ r +ℤ m *ℤ s → m *ℤ neg_ℤ s ≡ q *ℤ r
        from_law W z q r m s e l =
            let n = ap (λ t. W *ℤ t) e ∙ *ℤ-zero W in
            let k = neg_times m s in
            omega (arith, ints, n, k, l)

-- the gap is closed before a multiplier falls to 0, or at one force with it: the separation becomes active
pub close-step : (p : Givens) (w : ℕ → ℕ) (exact : ℕ → Bool) (On : ℕ → Type 0) (v : ℕ) (bound : ℤ) (F : ℕ) (a b : Point) (Q D : ℕ) (rest fall : ℤ)
    → Weighs p w → EndsBelow p → v < p.s → 0 < F
    → InClosing p exact On v bound F a Q → IsDirection p On v b → GapLaw p On v D rest fall
    → AreLater p On exact v b rest fall
    → NextRest p exact On v bound F
close-step p w exact On v bound F a b Q D rest fall weighs ends below large h dir law later = record {
  point = mix (pos c) a (pos t) b;
  Q = c * Q;
  closed = close p w exact On v bound F a b Q c t weighs ends below fine large h dir.state dir.still
      (signs-after p On exact v a b c t Q rest fall h.signs h.over h.state dir law.down force later) none;
}
  where
    c : ℕ
    c = nat_abs (lack p b v)

    t : ℕ
    t = nat_abs (lack p a v)

    down : lack p b v <ℤ pos 0
    down = below-of D (lack p b v) law.above (subst (λ z. z <ℤ pos 0) (sym (law.law b dir.state)) (less b.q rest (b.m v *ℤ fall) dir.still (times-above (b.m v) fall dir.up law.down)))
      where
        less : (q r z : ℤ) → q ≡ pos 0 → pos 0 <ℤ z → (q *ℤ r -ℤ z) <ℤ pos 0
        less q r z e h = let n = ap (λ s. s *ℤ r) e ∙ (*ℤ_comm (pos 0) r ∙ *ℤ-zero r) in omega (arith, ints, n, h)

    fine : 0 < nat_abs (lack p b v)
    fine = size (lack p b v) down
      where
        size : (z : ℤ) → z <ℤ pos 0 → 0 < nat_abs z
        size z h = omega (arith, ints, h)

    mixed : (c t q q' g u w y z : ℤ) → (c *ℤ q +ℤ t *ℤ q') *ℤ g -ℤ ((c *ℤ u +ℤ t *ℤ y) -ℤ (c *ℤ w +ℤ t *ℤ z)) ≡ c *ℤ (q *ℤ g -ℤ (u -ℤ w)) +ℤ t *ℤ (q' *ℤ g -ℤ (y -ℤ z))
    mixed c t q q' g u w y z = rw (dif_of c, dif_of t, dif_of q, dif_of q', dif_of g, dif_of u, dif_of w, dif_of y, dif_of z) (simp difs (dif_same _ _ _ _ (omega arith)))

    none : lack p (mix (pos (nat_abs (lack p b v))) a (pos (nat_abs (lack p a v))) b) v ≡ pos 0
    none = mixed (pos (nat_abs (lack p b v))) (pos (nat_abs (lack p a v))) a.q b.q (p.g v) (a.x (p.r v)) (a.x (p.l v)) (b.x (p.r v)) (b.x (p.l v)) ∙ gone (lack p a v) (lack p b v) h.missing down
      where
        gone : (x y : ℤ) → pos 0 <ℤ x → y <ℤ pos 0 → pos (nat_abs y) *ℤ x +ℤ pos (nat_abs x) *ℤ y ≡ pos 0
        gone (pos n) (negsuc m) h g = omega (arith, ints)
        gone (negsuc n) y h g = absurd (omega (arith, ints, h))
        gone (pos n) (pos m) h g = absurd (omega (arith, ints, g))

    force : (mix (pos (nat_abs (lack p b v))) a (pos (nat_abs (lack p a v))) b).m v *ℤ fall ≡ (mix (pos (nat_abs (lack p b v))) a (pos (nat_abs (lack p a v))) b).q *ℤ rest
    force = from_law (pos D) (lack p (mix (pos (nat_abs (lack p b v))) a (pos (nat_abs (lack p a v))) b) v) (mix (pos (nat_abs (lack p b v))) a (pos (nat_abs (lack p a v))) b).q rest ((mix (pos (nat_abs (lack p b v))) a (pos (nat_abs (lack p a v))) b).m v) fall none
        (law.law (mix (pos (nat_abs (lack p b v))) a (pos (nat_abs (lack p a v))) b) (mix-state p On (With On v) (pos (nat_abs (lack p b v))) (pos (nat_abs (lack p a v))) a b h.state dir.state))
      where
        from_law : (D z q r m s : ℤ) → z ≡ pos 0 → D *ℤ z ≡ q *ℤ r -ℤ m *ℤ s → m *ℤ s ≡ q *ℤ r
        from_law D z q r m s e l = let n = ap (λ t. D *ℤ t) e ∙ *ℤ-zero D in omega (arith, ints, n, l)
