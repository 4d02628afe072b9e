-- Every list of active separations has a state at rest, but for the signs of the multipliers.
use Rattle.std.proofs.Common.{◌≡◌, ◌≢◌, ℕ, ◌*◌, ◌<◌, ℤ, pos, ◌+ℤ◌, ◌-ℤ◌, ◌*ℤ◌, ◌<ℤ◌, nat_abs, List, [], ◌∷◌, arith, refl, sym, ap, ◌∙◌, subst, Bool, true, false, ◌⊎◌, inl, inr, if◌then◌else◌, eqb, eqb-true}
use Rattle.std.specs.List.{AllByRecursion}
use Rattle.std.proofs.lemmas.Bool.{eqb-false}
use Rattle.std.proofs.lemmas.Int.{ints}
use lib.IntN.{*ℤ-zero, *ℤ_comm}
use Rattle.solver_law.specs.Step.{Step}
use Rattle.solver_law.specs.State.{Givens, Point, IsState, mix}
use Rattle.solver_law.specs.Forest.{Joins, IsForest, With, Without}
use Rattle.solver_law.specs.Cost.{lack}
use Rattle.solver_law.proofs.Ring.{dif_of, dif_pos, difs, dif_same}
use Rattle.solver_law.proofs.Cut.{EndsBelow}
use Rattle.solver_law.proofs.State.{mix-state}
use Rattle.solver_law.proofs.Flow.{net-zero}
use Rattle.solver_law.proofs.Forest.{joins-more}
use Rattle.solver_law.proofs.Stops.{Weighs, begin-state, join-state}
use Rattle.solver_law.proofs.Response.{IsJoined, AreBlocks, answering, response, feed, count_in, weight_in}
use Rattle.block_sums.specs.Solving.{Active}
use Rattle.vpsc_solve.proofs.Lists.{here-or-later, here, later}
use Rattle.vpsc_solve.proofs.Blocks.{label, label-joined, label-ends, labelled, labelled-each, count-labelled, count-one, count-none, weight-labelled}

-- a state of these separations, at rest but for the signs of its multipliers
pub record HasState (p : Givens) (On : ℕ → Type 0) : Type 0 where
  pub point : Point
  pub Q : ℕ
  pub above : 0 < Q
  pub over : point.q ≡ pos Q
  pub state : IsState p On On point

-- ---- one separation more, between two blocks

-- the label of a variable among the separations of a list
abbrev at : Givens → List ℕ → ℕ → ℕ
at p rest i = label p.l p.r rest i

-- the block of a variable
abbrev block_at : Givens → List ℕ → ℕ → List ℕ
block_at p rest i = labelled (at p rest) (at p rest i) p.n

abbrev AreBelow : Givens → List ℕ → Type 0
AreBelow p rest = (k : ℕ) → Active rest k → k < p.s

joined-below : (p : Givens) (rest : List ℕ) (a b : ℕ) → AreBelow p rest → Joins p.l p.r (Active rest) a b → IsJoined p (Active rest) a b
joined-below p rest a b below h = record { steps = h.steps; leads = h.leads; on = h.on; below = go h.steps h.on }
  where
    go : (ts : List Step) → AllByRecursion (λ t. Active rest t.sep) ts → AllByRecursion (λ t. t.sep < p.s) ts
    go [] all = tt
    go (t ∷ ts) all = (below t.sep all.0, go ts all.1)

two-blocks : (p : Givens) (rest : List ℕ) (v : ℕ) → EndsBelow p → AreBelow p rest → AreBlocks p (Active rest) v (block_at p rest (p.l v)) (block_at p rest (p.r v))
two-blocks p rest v ends below = record {
  from_left = reached (p.l v);
  from_right = reached (p.r v);
  flat_left = flat (p.l v);
  flat_right = flat (p.r v);
}
  where
    reached : (a : ℕ) → AllByRecursion (λ i. IsJoined p (Active rest) a i) (block_at p rest a)
    reached a = labelled-each (λ i. IsJoined p (Active rest) a i) (at p rest) (at p rest a) p.n (λ i b e. joined-below p rest a i below (label-joined p.l p.r rest a i (sym e)))

    flat : (a k : ℕ) → k < p.s → Active rest k → count_in (block_at p rest a) (p.r k) ≡ count_in (block_at p rest a) (p.l k)
    flat a k b on =
        count-labelled (at p rest) (at p rest a) p.n (p.r k) (ends k b).1
        ∙ (ap (λ t. if eqb t (at p rest a) then pos 1 else pos 0) (sym (label-ends p.l p.r rest k on)) ∙ sym (count-labelled (at p rest) (at p rest a) p.n (p.l k) (ends k b).0))

-- the direction b closes the gap that a leaves
lack-closed : (c g q xr xl yr yl t : ℤ) → t ≡ q *ℤ g -ℤ (xr -ℤ xl) → yr -ℤ yl ≡ c → (c *ℤ q +ℤ t *ℤ pos 0) *ℤ g -ℤ ((c *ℤ xr +ℤ t *ℤ yr) -ℤ (c *ℤ xl +ℤ t *ℤ yl)) ≡ pos 0
lack-closed c g q xr xl yr yl t e f = apart c g q xr xl yr yl t ∙ (ap (λ u. c *ℤ u -ℤ t *ℤ (yr -ℤ yl)) (sym e) ∙ (ap (λ u. c *ℤ t -ℤ t *ℤ u) f ∙ none c t))
  where
    apart : (c g q xr xl yr yl t : ℤ) → (c *ℤ q +ℤ t *ℤ pos 0) *ℤ g -ℤ ((c *ℤ xr +ℤ t *ℤ yr) -ℤ (c *ℤ xl +ℤ t *ℤ yl)) ≡ c *ℤ (q *ℤ g -ℤ (xr -ℤ xl)) -ℤ t *ℤ (yr -ℤ yl)
    apart c g q xr xl yr yl t = ap (λ z. (c *ℤ q +ℤ z) *ℤ g -ℤ ((c *ℤ xr +ℤ t *ℤ yr) -ℤ (c *ℤ xl +ℤ t *ℤ yl))) (*ℤ-zero t) ∙ (ap (λ z. z *ℤ g -ℤ ((c *ℤ xr +ℤ t *ℤ yr) -ℤ (c *ℤ xl +ℤ t *ℤ yl))) (plain (c *ℤ q)) ∙ ring c g q xr xl yr yl t)
      where
        plain : (u : ℤ) → u +ℤ pos 0 ≡ u
        plain u = omega (arith, ints)

        ring : (c g q xr xl yr yl t : ℤ) → (c *ℤ q) *ℤ g -ℤ ((c *ℤ xr +ℤ t *ℤ yr) -ℤ (c *ℤ xl +ℤ t *ℤ yl)) ≡ c *ℤ (q *ℤ g -ℤ (xr -ℤ xl)) -ℤ t *ℤ (yr -ℤ yl)
        ring c g q xr xl yr yl t = rw (dif_of c, dif_of g, dif_of q, dif_of xr, dif_of xl, dif_of yr, dif_of yl, dif_of t) (simp difs (dif_same _ _ _ _ (omega arith)))

    none : (c t : ℤ) → c *ℤ t -ℤ t *ℤ c ≡ pos 0
    none c t = let e = *ℤ_comm c t in omega (arith, ints, e)

-- the right block moves by the weight of the left one, and the left one back by that of the right one
moved-apart : (wl wr rr rl lr ll : ℤ) → rr ≡ pos 1 → rl ≡ pos 0 → lr ≡ pos 0 → ll ≡ pos 1 → (wl *ℤ rr -ℤ wr *ℤ lr) -ℤ (wl *ℤ rl -ℤ wr *ℤ ll) ≡ wl +ℤ wr
moved-apart wl wr rr rl lr ll a b c e = rw (a, b, c, e) (ring wl wr)
  where
    ring : (wl wr : ℤ) → (wl *ℤ pos 1 -ℤ wr *ℤ pos 0) -ℤ (wl *ℤ pos 0 -ℤ wr *ℤ pos 1) ≡ wl +ℤ wr
    ring wl wr = rw (dif_of wl, dif_of wr, dif_pos 1, dif_pos 0) (simp difs (dif_same _ _ _ _ (omega arith)))

state-between : (p : Givens) (w : ℕ → ℕ) (rest : List ℕ) (v : ℕ) → Weighs p w → EndsBelow p → v < p.s → AreBelow p rest → at p rest (p.l v) ≢ at p rest (p.r v) → HasState p (Active rest) → HasState p (With (Active rest) v)
state-between p w rest v weighs ends among below apart h = record {
  point = point;
  Q = c * h.Q;
  above = product-above c h.Q (size (wl +ℤ wr) heavy) h.above;
  over = over c h.Q h.point.q (lack p h.point v) h.over;
  state = join-state p (Active rest) v point closed
      (mix-state p (Active rest) (With (Active rest) v) (pos c) (lack p h.point v) h.point b (begin-state p (Active rest) v h.point h.state)
      (response p (Active rest) (With (Active rest) v) v left right among (inr refl) (λ k on. inl on) two));
}
  where
    left : List ℕ
    left = block_at p rest (p.l v)

    right : List ℕ
    right = block_at p rest (p.r v)

    wl : ℤ
    wl = weight_in p.w left

    wr : ℤ
    wr = weight_in p.w right

    two : AreBlocks p (Active rest) v left right
    two = two-blocks p rest v ends below

    b : Point
    b = answering p v left right (feed p (Active rest) (p.l v) left two.from_left).m (feed p (Active rest) (p.r v) right two.from_right).m

    weighty : (i : ℕ) → i < p.n → pos 0 <ℤ p.w i
    weighty i d = subst (λ z. pos 0 <ℤ z) (sym (weighs.whole i)) (let a = weighs.above i d in omega (arith, ints, a))

    heavy : pos 0 <ℤ (wl +ℤ wr)
    heavy = both wl wr (weight-labelled p.w (at p rest) (at p rest (p.l v)) p.n (p.l v) weighty (ends v among).0 refl) (weight-labelled p.w (at p rest) (at p rest (p.r v)) p.n (p.r v) weighty (ends v among).1 refl)
      where
        both : (u w : ℤ) → pos 0 <ℤ u → pos 0 <ℤ w → pos 0 <ℤ (u +ℤ w)
        both u w h g = omega (arith, ints, h, g)

    size : (z : ℤ) → pos 0 <ℤ z → 0 < nat_abs z
    size z h = omega (arith, ints, h)

    whole : (z : ℤ) → pos 0 <ℤ z → z ≡ pos (nat_abs z)
    whole z h = omega (arith, ints, h)

    c : ℕ
    c = nat_abs (wl +ℤ wr)

    point : Point
    point = mix (pos c) h.point (lack p h.point v) b

    product-above : (c Q : ℕ) → 0 < c → 0 < Q → 0 < c * Q
    product-above c Q hc hQ = grind arith

    over : (c Q : ℕ) (q t : ℤ) → q ≡ pos Q → pos c *ℤ q +ℤ t *ℤ pos 0 ≡ pos (c * Q)
    over c Q q t e = ap (λ z. pos c *ℤ q +ℤ z) (*ℤ-zero t) ∙ (plain (pos c *ℤ q) ∙ ap (λ z. pos c *ℤ z) e)
      where
        plain : (u : ℤ) → u +ℤ pos 0 ≡ u
        plain u = omega (arith, ints)

    closed : lack p point v ≡ pos 0
    closed = lack-closed (pos c) (p.g v) h.point.q (h.point.x (p.r v)) (h.point.x (p.l v)) (b.x (p.r v)) (b.x (p.l v)) (lack p h.point v) refl
        (moved-apart wl wr (count_in right (p.r v)) (count_in right (p.l v)) (count_in left (p.r v)) (count_in left (p.l v))
        (count-one (at p rest) (at p rest (p.r v)) p.n (p.r v) (ends v among).1 refl)
        (count-none (at p rest) (at p rest (p.r v)) p.n (p.l v) (ends v among).0 apart)
        (count-none (at p rest) (at p rest (p.l v)) p.n (p.r v) (ends v among).1 (λ e. apart (sym e)))
        (count-one (at p rest) (at p rest (p.l v)) p.n (p.l v) (ends v among).0 refl)
        ∙ whole (wl +ℤ wr) heavy)

-- ---- the law

-- the same separations
state-same : (p : Givens) (On On' : ℕ → Type 0) → ((k : ℕ) → On k → On' k) → ((k : ℕ) → On' k → On k) → HasState p On → HasState p On'
state-same p On On' to back h = record {
  point = h.point;
  Q = h.Q;
  above = h.above;
  over = h.over;
  state = record { tight = λ k b on. h.state.tight k b (back k on); within = λ k b. up k (h.state.within k b); level = h.state.level };
}
  where
    up : (k : ℕ) → (h.point.m k ≡ pos 0) ⊎ On k → (h.point.m k ≡ pos 0) ⊎ On' k
    up k (inl e) = inl e
    up k (inr on) = inr (to k on)

-- each variable at its desired place
state-none : (p : Givens) → HasState p (Active [])
state-none p = record {
  point = record { q = pos 1; x = λ i. p.d i; m = λ k. pos 0 };
  Q = 1;
  above = omega arith;
  over = refl;
  state = record {
    tight = λ k b on. absurd (let c = on.1 in omega (arith, c));
    within = λ k b. inl refl;
    level = λ i b. still (p.w i) (p.d i) ∙ sym (net-zero p.s p.l p.r i);
  };
}
  where
    gone : (d : ℤ) → d -ℤ pos 1 *ℤ d ≡ pos 0
    gone d = rw (dif_of d, dif_pos 1, dif_pos 0) (simp difs (dif_same _ _ _ _ (omega arith)))

    still : (w d : ℤ) → (pos 2 *ℤ w) *ℤ (d -ℤ pos 1 *ℤ d) ≡ pos 0
    still w d = ap (λ t. (pos 2 *ℤ w) *ℤ t) (gone d) ∙ *ℤ-zero (pos 2 *ℤ w)

contains-or-not : (xs : List ℕ) (k : ℕ) → Active xs k ⊎ (Active xs k → ⊥)
contains-or-not [] k = inr (λ w. absurd (let b = w.1 in omega (arith, b)))
contains-or-not (x ∷ xs) k = by_case (eqb x k) refl (contains-or-not xs k)
  where
    neither : (Active xs k → ⊥) → x ≢ k → (x ≡ k) ⊎ Active xs k → ⊥
    neither out ne (inl e) = ne e
    neither out ne (inr w) = out w

    by_case : (b : Bool) → eqb x k ≡ b → Active xs k ⊎ (Active xs k → ⊥) → Active (x ∷ xs) k ⊎ (Active (x ∷ xs) k → ⊥)
    by_case true q any = inl (here x xs k (eqb-true x k q))
    by_case false q (inl w) = inl (later x xs k w)
    by_case false q (inr out) = inr (λ w. neither out (eqb-false x k q) (here-or-later x xs k w))

pub has-state : (p : Givens) (w : ℕ → ℕ) (xs : List ℕ) → Weighs p w → EndsBelow p → AreBelow p xs → IsForest p.l p.r (Active xs) → HasState p (Active xs)
has-state p w [] weighs ends below forest = state-none p
has-state p w (v ∷ rest) weighs ends below forest =
    by_case (contains-or-not rest v) (has-state p w rest weighs ends (λ k on. below k (later v rest k on))
    (λ k on chain. forest k (later v rest k on) (joins-more p.l p.r (Without (Active rest) k) (Without (Active (v ∷ rest)) k) (p.l k) (p.r k) (λ j w. (later v rest j w.0, w.1)) chain)))
  where
    back : (k : ℕ) → (v ≡ k) ⊎ Active rest k → With (Active rest) v k
    back k (inl e) = inr (sym e)
    back k (inr w) = inl w

    to : (k : ℕ) → With (Active rest) v k → Active (v ∷ rest) k
    to k (inl w) = later v rest k w
    to k (inr e) = here v rest k (sym e)

    again : Active rest v → (k : ℕ) → (v ≡ k) ⊎ Active rest k → Active rest k
    again on k (inl e) = subst (λ j. Active rest j) e on
    again on k (inr w) = w

    apart : (Active rest v → ⊥) → at p rest (p.l v) ≢ at p rest (p.r v)
    apart out e = forest v (here v rest v refl) (joins-more p.l p.r (Active rest) (Without (Active (v ∷ rest)) v) (p.l v) (p.r v)
        (λ j w. (later v rest j w, λ q. out (subst (λ i. Active rest i) q w))) (label-joined p.l p.r rest (p.l v) (p.r v) e))

    by_case : Active rest v ⊎ (Active rest v → ⊥) → HasState p (Active rest) → HasState p (Active (v ∷ rest))
    by_case (inl on) h = state-same p (Active rest) (Active (v ∷ rest)) (λ k w. later v rest k w) (λ k w. again on k (here-or-later v rest k w)) h
    by_case (inr out) h = state-same p (With (Active rest) v) (Active (v ∷ rest)) to (λ k w. back k (here-or-later v rest k w))
        (state-between p w rest v weighs ends (below v (here v rest v refl)) (λ k on. below k (later v rest k on)) (apart out) h)
