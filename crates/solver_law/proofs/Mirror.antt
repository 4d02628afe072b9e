-- An exact separation whose ends stand too far apart is closed as its mirror image: from right to left, with the gap and the multiplier negated.
use Rattle.std.proofs.Common.{◌≡◌, ℕ, ◌<◌, ℤ, pos, ◌-ℤ◌, ◌*ℤ◌, ◌≤ℤ◌, neg_ℤ, arith, refl, sym, ◌∙◌, ap, Bool, true, false, if◌then◌else◌, ◌⊎◌, inl, inr, eqb, eqb-true, subst, List, [], ◌∷◌}
use Rattle.std.proofs.lemmas.Int.{ints}
use Rattle.std.specs.List.{AllByRecursion}
use borrow.Author.Tests.{eq-eqb}
use Rattle.solver_law.specs.Step.{Step}
use Rattle.solver_law.specs.Forest.{Joins, Leads, finish, Without, IsForest}
use Rattle.solver_law.specs.Closing.{AtRest}
use Rattle.solver_law.specs.Cost.{cost, lack}
use Rattle.solver_law.proofs.Ring.{dif_of, difs, dif_same}
use Rattle.solver_law.proofs.Sums.{put_at, sum_to, sum-same}
use Rattle.solver_law.proofs.Net.{net}
use Rattle.solver_law.proofs.State.{Givens, Point, IsState}
use Rattle.solver_law.proofs.Forest.{joins-self, joins-step, joins-then, joins-back}

-- the second givens are the first with v turned round
pub record IsMirror (v : ℕ) (p p' : Givens) : Type 0 where
  pub variables : p'.n ≡ p.n
  pub separations : p'.s ≡ p.s
  pub weight : (i : ℕ) → p'.w i ≡ p.w i
  pub desired : (i : ℕ) → p'.d i ≡ p.d i
  pub left : (k : ℕ) → p'.l k ≡ (if eqb v k then p.r k else p.l k)
  pub right : (k : ℕ) → p'.r k ≡ (if eqb v k then p.l k else p.r k)
  pub gap : (k : ℕ) → p'.g k ≡ (if eqb v k then neg_ℤ (p.g k) else p.g k)

abbrev pub turned : ℕ → Point → Point
turned v a = record { q = a.q; x = a.x; m = λ k. if eqb v k then neg_ℤ (a.m k) else a.m k }

neg_neg : (g : ℤ) → g ≡ neg_ℤ (neg_ℤ g)
neg_neg g = omega (arith, ints)

-- turned round twice
pub mirror-back : (v : ℕ) (p p' : Givens) → IsMirror v p p' → IsMirror v p' p
mirror-back v p p' h = record {
  variables = sym h.variables;
  separations = sym h.separations;
  weight = λ i. sym (h.weight i);
  desired = λ i. sym (h.desired i);
  left = λ k. ends (eqb v k) (p.l k) (p.r k) (p'.l k) (p'.r k) (h.left k) (h.right k);
  right = λ k. ends' (eqb v k) (p.l k) (p.r k) (p'.l k) (p'.r k) (h.left k) (h.right k);
  gap = λ k. gaps (eqb v k) (p.g k) (p'.g k) (h.gap k);
}
  where
    ends : (b : Bool) (l r l' r' : ℕ) → l' ≡ (if b then r else l) → r' ≡ (if b then l else r) → l ≡ (if b then r' else l')
    ends true l r l' r' e f = sym f
    ends false l r l' r' e f = sym e

    ends' : (b : Bool) (l r l' r' : ℕ) → l' ≡ (if b then r else l) → r' ≡ (if b then l else r) → r ≡ (if b then l' else r')
    ends' true l r l' r' e f = sym e
    ends' false l r l' r' e f = sym f

    gaps : (b : Bool) (g g' : ℤ) → g' ≡ (if b then neg_ℤ g else g) → g ≡ (if b then neg_ℤ g' else g')
    gaps true g g' e = neg_neg g ∙ ap neg_ℤ (sym e)
    gaps false g g' e = sym e

ap2 : {A B C : Type 0} (f : A → B → C) {a a' : A} {b b' : B} → a ≡ a' → b ≡ b' → f a b ≡ f a' b'
ap2 f e g = cc

pub mirror-state : (v : ℕ) (p p' : Givens) (On Pushed : ℕ → Type 0) (a : Point) → IsMirror v p p' → IsState p On Pushed a → IsState p' On Pushed (turned v a)
mirror-state v p p' On Pushed a m h = record {
  tight = λ k b on. ap2 (λ i j. a.x i -ℤ a.x j) (m.right k) (m.left k)
      ∙ (flipped (eqb v k) (a.x (p.r k)) (a.x (p.l k)) a.q (p.g k) (λ j. a.x j) (p.r k) (p.l k) refl refl (h.tight k (subst (λ s. k < s) m.separations b) on) ∙ ap (λ g. a.q *ℤ g) (sym (m.gap k)));
  within = λ k b. kept (eqb v k) (a.m k) (Pushed k) (h.within k (subst (λ s. k < s) m.separations b));
  level = λ i b. ap2 (λ w d. (pos 2 *ℤ w) *ℤ (a.x i -ℤ a.q *ℤ d)) (m.weight i) (m.desired i)
      ∙ (h.level i (subst (λ n. i < n) m.variables b) ∙ (sum-same p.s _ _ (λ k below. term (eqb v k) (p.r k) (p.l k) (a.m k) i
      ∙ ap2 (λ r l. put_at r (if eqb v k then neg_ℤ (a.m k) else a.m k) i -ℤ put_at l (if eqb v k then neg_ℤ (a.m k) else a.m k) i) (sym (m.right k)) (sym (m.left k)))
      ∙ ap (λ s. net s p'.l p'.r (turned v a).m i) (sym m.separations)));
}
  where
    flip_ring : (xr xl q g : ℤ) → xr -ℤ xl ≡ q *ℤ g → xl -ℤ xr ≡ q *ℤ neg_ℤ g
    flip_ring xr xl q g e = let k = neg_times q g in omega (arith, ints, e, k)
      where
        neg_times : (q g : ℤ) → q *ℤ neg_ℤ g ≡ neg_ℤ (q *ℤ g)
        neg_times q g = rw (dif_of q, dif_of g) (simp difs (dif_same _ _ _ _ (omega arith)))

    flipped : (b : Bool) (xr xl q g : ℤ) (x : ℕ → ℤ) (r l : ℕ) → x r ≡ xr → x l ≡ xl → xr -ℤ xl ≡ q *ℤ g
        → x (if b then l else r) -ℤ x (if b then r else l) ≡ q *ℤ (if b then neg_ℤ g else g)
    flipped true xr xl q g x r l er el e = rw (er, el) (flip_ring xr xl q g e)
    flipped false xr xl q g x r l er el e = rw (er, el) e

    kept : (b : Bool) (m : ℤ) (T : Type 0) → (m ≡ pos 0) ⊎ T → ((if b then neg_ℤ m else m) ≡ pos 0) ⊎ T
    kept b m T (inr h) = inr h
    kept true m T (inl e) = inl (ap neg_ℤ e)
    kept false m T (inl e) = inl e

    put_neg : (j : ℕ) (m : ℤ) (i : ℕ) → put_at j (neg_ℤ m) i ≡ neg_ℤ (put_at j m i)
    put_neg j m i = by_case (eqb j i)
      where
        by_case : (b : Bool) → (if b then neg_ℤ m else pos 0) ≡ neg_ℤ (if b then m else pos 0)
        by_case true = refl
        by_case false = refl

    term : (b : Bool) (r l : ℕ) (m : ℤ) (i : ℕ) → put_at r m i -ℤ put_at l m i ≡ put_at (if b then l else r) (if b then neg_ℤ m else m) i -ℤ put_at (if b then r else l) (if b then neg_ℤ m else m) i
    term false r l m i = refl
    term true r l m i =
        let e = put_neg r m i in
        let f = put_neg l m i in
        rw (e, f) (omega (arith, ints))

-- at rest, where v is exact: its multiplier may have either sign
pub mirror-rest : (v : ℕ) (p p' : Givens) (exact exact' : ℕ → Bool) (On : ℕ → Type 0) (a : Point) (Q : ℕ) → IsMirror v p p' → ((k : ℕ) → exact' k ≡ exact k) → exact v ≡ true → AtRest p exact On a Q → AtRest p' exact' On (turned v a) Q
mirror-rest v p p' exact exact' On a Q m same strict h = record {
  above = h.above;
  over = h.over;
  state = mirror-state v p p' On On a m h.state;
  signs = λ k b loose. sign k (subst (λ s. k < s) m.separations b) (sym (same k) ∙ loose) (eqb v k) refl;
}
  where
    sign : (k : ℕ) → k < p.s → exact k ≡ false → (b : Bool) → eqb v k ≡ b → pos 0 ≤ℤ (if b then neg_ℤ (a.m k) else a.m k)
    sign k below loose false q = h.signs k below loose
    sign k below loose true q = absurd (clash (sym (subst (λ i. exact i ≡ true) (eqb-true v k q) strict) ∙ loose))
      where
        clash : true ≡ false → ⊥
        clash e = cc

pub mirror-cost : (v : ℕ) (p p' : Givens) (a : Point) → IsMirror v p p' → cost p' (turned v a) ≡ cost p a
mirror-cost v p p' a m =
    ap (λ n. sum_to n (λ i. p'.w i *ℤ ((a.x i -ℤ a.q *ℤ p'.d i) *ℤ (a.x i -ℤ a.q *ℤ p'.d i)))) m.variables
    ∙ sum-same p.n _ _ (λ i b. ap2 (λ w d. w *ℤ ((a.x i -ℤ a.q *ℤ d) *ℤ (a.x i -ℤ a.q *ℤ d))) (m.weight i) (m.desired i))

pub mirror-lack : (v : ℕ) (p p' : Givens) (a : Point) → IsMirror v p p' → lack p' (turned v a) v ≡ neg_ℤ (lack p a v)
mirror-lack v p p' a m =
    at (eqb v v) (eq-eqb v v refl) (m.left v) (m.right v) (m.gap v)
  where
    ring : (q g u w : ℤ) → q *ℤ neg_ℤ g -ℤ (u -ℤ w) ≡ neg_ℤ (q *ℤ g -ℤ (w -ℤ u))
    ring q g u w = rw (dif_of q, dif_of g, dif_of u, dif_of w) (simp difs (dif_same _ _ _ _ (omega arith)))

    at : (b : Bool) → b ≡ true → p'.l v ≡ (if b then p.r v else p.l v) → p'.r v ≡ (if b then p.l v else p.r v) → p'.g v ≡ (if b then neg_ℤ (p.g v) else p.g v)
        → a.q *ℤ p'.g v -ℤ (a.x (p'.r v) -ℤ a.x (p'.l v)) ≡ neg_ℤ (a.q *ℤ p.g v -ℤ (a.x (p.r v) -ℤ a.x (p.l v)))
    at false e el er eg = absurd (clash e)
      where
        clash : false ≡ true → ⊥
        clash e = cc
    at true e el er eg = rw (el, er, eg) (ring a.q (p.g v) (a.x (p.l v)) (a.x (p.r v)))

-- ---- chains are walked the other way

at-ends : (P : ℕ → ℕ → Type 0) (a a' b b' : ℕ) → a ≡ a' → b ≡ b' → P a b → P a' b'
at-ends P a a' b b' e f h = subst (λ j. P a' j) f (subst (λ i. P i b) e h)

one-step : (l r l' r' : ℕ → ℕ) (On : ℕ → Type 0) (k : ℕ) (along turn : Bool) → On k → l' k ≡ (if turn then r k else l k) → r' k ≡ (if turn then l k else r k)
    → Joins l' r' On (if along then l k else r k) (if along then r k else l k)
one-step l r l' r' On k true false on el er = at-ends (Joins l' r' On) (l' k) (l k) (r' k) (r k) el er (joins-step l' r' On (record { sep = k; along = true }) (r' k) on (joins-self (r' k)))
one-step l r l' r' On k false false on el er = at-ends (Joins l' r' On) (r' k) (r k) (l' k) (l k) er el (joins-step l' r' On (record { sep = k; along = false }) (l' k) on (joins-self (l' k)))
one-step l r l' r' On k true true on el er = at-ends (Joins l' r' On) (r' k) (l k) (l' k) (r k) er el (joins-step l' r' On (record { sep = k; along = false }) (l' k) on (joins-self (l' k)))
one-step l r l' r' On k false true on el er = at-ends (Joins l' r' On) (l' k) (r k) (r' k) (l k) el er (joins-step l' r' On (record { sep = k; along = true }) (r' k) on (joins-self (r' k)))

mirror-joins : (v : ℕ) (p p' : Givens) (On : ℕ → Type 0) (a b : ℕ) → IsMirror v p p' → Joins p.l p.r On a b → Joins p'.l p'.r On a b
mirror-joins v p p' On a b m h = go h.steps a h.leads h.on
  where
    go : (ts : List Step) (a : ℕ) → Leads p.l p.r ts a b → AllByRecursion (λ t. On t.sep) ts → Joins p'.l p'.r On a b
    go [] a leads on = subst (λ i. Joins p'.l p'.r On a i) leads (joins-self a)
    go (t ∷ ts) a leads on =
        joins-then p'.l p'.r On a (finish p.l p.r t) b
        (subst (λ i. Joins p'.l p'.r On i (finish p.l p.r t)) leads.0 (one-step p.l p.r p'.l p'.r On t.sep t.along (eqb v t.sep) on.0 (m.left t.sep) (m.right t.sep)))
        (go ts (finish p.l p.r t) leads.1 on.1)

-- a forest stays one
pub mirror-forest : (v : ℕ) (p p' : Givens) (On : ℕ → Type 0) → IsMirror v p p' → IsForest p.l p.r On → IsForest p'.l p'.r On
mirror-forest v p p' On m forest k on chain = by_case (eqb v k) (m.left k) (m.right k) (mirror-joins v p' p (Without On k) (p'.l k) (p'.r k) (mirror-back v p p' m) chain)
  where
    by_case : (c : Bool) → p'.l k ≡ (if c then p.r k else p.l k) → p'.r k ≡ (if c then p.l k else p.r k) → Joins p.l p.r (Without On k) (p'.l k) (p'.r k) → ⊥
    by_case false el er j = forest k on (at-ends (Joins p.l p.r (Without On k)) (p'.l k) (p.l k) (p'.r k) (p.r k) el er j)
    by_case true el er j = forest k on (joins-back p.l p.r (Without On k) (p.r k) (p.l k) (at-ends (Joins p.l p.r (Without On k)) (p'.l k) (p.r k) (p'.r k) (p.l k) el er j))
