-- What the sums of a block say of the places and multipliers at rest.
use Rattle.std.proofs.Common.{◌≡◌, ℕ, suc, ◌+◌, ◌*◌, ◌<◌, ◌≤◌, ◌^◌, ℤ, pos, ◌+ℤ◌, ◌-ℤ◌, ◌*ℤ◌, ◌<ℤ◌, neg_ℤ, nat_abs, List, [], ◌∷◌, length, get_or, map, arith, refl, sym, ◌∙◌, ap, subst, Bool, true, false, not, inr, All}
use Rattle.std.proofs.lemmas.Int.{ints}
use Rattle.std.proofs.lemmas.List.{get_or_default}
use Rattle.units.specs.declared.geometry.Sep.{Sep}
use Rattle.units.specs.Problem.{Problem}
use Rattle.units.specs.Problem as stated
use Rattle.frac128.specs.Fraction.{Fraction, pos-nat_abs}
use Rattle.frac128.proofs.Ring.{dif_of, dif_pos, difs, dif_same, times_assoc}
use Rattle.multiplier_check.proofs.Over.{cancel}
use Rattle.block_sums.specs.declared.legs.Leg.{Leg}
use Rattle.units.specs.Separation.{separation_at}
use Rattle.block_sums.specs.Ends.{end_of}
use Rattle.block_sums.specs.Legs.{no_leg, leg_at, variable_at, IsTree, IsReached, IsBlockTree}
use Rattle.block_sums.specs.Loads.{load_at, sum_of, weight_of, moment_of}
use Rattle.block_sums.specs.Solving.{Active, IsActive, IsSweep, TellsRest, signed}
use Rattle.block_sums.proofs.Gathering.{root-carries}
use Rattle.block_sums.proofs.Products.{abs-product}
use Rattle.block_sums.proofs.Rooted.{IsVia, only-vias}
use Rattle.block_certificate.specs.Values.{IsPlace, IsWholeWith, IsMultiplier, place_of_leg, multiplier_of_leg, IsOfLeg, IsOfVariable}

-- ---- a multiplier is whole where the places of its block are

whole : (W : ℕ) (S o w M x m : ℤ) (Q D : ℕ) (y : ℤ) (along : Bool) → 0 < W → 0 < Q
    → pos W *ℤ x ≡ pos Q *ℤ (S +ℤ pos W *ℤ o) → pos W *ℤ m ≡ pos Q *ℤ signed along (pos 2 *ℤ (S *ℤ w -ℤ pos W *ℤ M))
    → x *ℤ pos D ≡ y *ℤ pos Q → (n : ℤ) × (m *ℤ pos D ≡ n *ℤ pos Q)
whole W S o w M x m Q D y along above fine at_x at_m at_y = (signed along (pos 2 *ℤ ((y -ℤ o *ℤ pos D) *ℤ w -ℤ M *ℤ pos D)), cancel W (m *ℤ pos D) _ above (by_way along at_m))
  where
    swap_ends : (a b c : ℤ) → (a *ℤ b) *ℤ c ≡ (c *ℤ b) *ℤ a
    swap_ends a b c = rw (dif_of a, dif_of b, dif_of c) (simp difs (dif_same _ _ _ _ (omega arith)))

    turn : (a b c : ℤ) → (a *ℤ b) *ℤ c ≡ (b *ℤ c) *ℤ a
    turn a b c = rw (dif_of a, dif_of b, dif_of c) (simp difs (dif_same _ _ _ _ (omega arith)))

    -- the place over D
    over_d : pos W *ℤ y ≡ (S +ℤ pos W *ℤ o) *ℤ pos D
    over_d = cancel Q (pos W *ℤ y) ((S +ℤ pos W *ℤ o) *ℤ pos D) fine
        (times_assoc (pos W) y (pos Q) ∙ (ap (λ t. pos W *ℤ t) (sym at_y) ∙ (sym (times_assoc (pos W) x (pos D)) ∙ (ap (λ t. t *ℤ pos D) at_x ∙ turn (pos Q) (S +ℤ pos W *ℤ o) (pos D)))))

    sum_over : S *ℤ pos D ≡ pos W *ℤ (y -ℤ o *ℤ pos D)
    sum_over = parts S (pos W) o (pos D) y over_d
      where
        out : (S W o D : ℤ) → (S +ℤ W *ℤ o) *ℤ D ≡ S *ℤ D +ℤ W *ℤ (o *ℤ D)
        out S W o D = rw (dif_of S, dif_of W, dif_of o, dif_of D) (simp difs (dif_same _ _ _ _ (omega arith)))

        less : (W y t : ℤ) → W *ℤ (y -ℤ t) ≡ W *ℤ y -ℤ W *ℤ t
        less W y t = rw (dif_of W, dif_of y, dif_of t) (simp difs (dif_same _ _ _ _ (omega arith)))

        parts : (S W o D y : ℤ) → W *ℤ y ≡ (S +ℤ W *ℤ o) *ℤ D → S *ℤ D ≡ W *ℤ (y -ℤ o *ℤ D)
        parts S W o D y e =
            let a = out S W o D in
            let b = less W y (o *ℤ D) in
            omega (arith, ints, a, b, e)

    grouped : (Q S w W M D : ℤ) → (Q *ℤ (pos 2 *ℤ (S *ℤ w -ℤ W *ℤ M))) *ℤ D ≡ Q *ℤ (pos 2 *ℤ ((S *ℤ D) *ℤ w -ℤ W *ℤ (M *ℤ D)))
    grouped Q S w W M D = rw (dif_of Q, dif_of S, dif_of w, dif_of W, dif_of M, dif_of D, dif_pos 2) (simp difs (dif_same _ _ _ _ (omega arith)))

    freed : (Q W z w t : ℤ) → Q *ℤ (pos 2 *ℤ ((W *ℤ z) *ℤ w -ℤ W *ℤ t)) ≡ ((pos 2 *ℤ (z *ℤ w -ℤ t)) *ℤ Q) *ℤ W
    freed Q W z w t = rw (dif_of Q, dif_of W, dif_of z, dif_of w, dif_of t, dif_pos 2) (simp difs (dif_same _ _ _ _ (omega arith)))

    plain : (pos Q *ℤ (pos 2 *ℤ (S *ℤ w -ℤ pos W *ℤ M))) *ℤ pos D ≡ ((pos 2 *ℤ ((y -ℤ o *ℤ pos D) *ℤ w -ℤ M *ℤ pos D)) *ℤ pos Q) *ℤ pos W
    plain = grouped (pos Q) S w (pos W) M (pos D)
        ∙ (ap (λ t. pos Q *ℤ (pos 2 *ℤ (t *ℤ w -ℤ pos W *ℤ (M *ℤ pos D)))) sum_over ∙ freed (pos Q) (pos W) (y -ℤ o *ℤ pos D) w (M *ℤ pos D))

    minus_in : (q z d : ℤ) → (q *ℤ neg_ℤ z) *ℤ d ≡ neg_ℤ ((q *ℤ z) *ℤ d)
    minus_in q z d = rw (dif_of q, dif_of z, dif_of d) (simp difs (dif_same _ _ _ _ (omega arith)))

    by_way : (al : Bool) → pos W *ℤ m ≡ pos Q *ℤ signed al (pos 2 *ℤ (S *ℤ w -ℤ pos W *ℤ M))
        → (m *ℤ pos D) *ℤ pos W ≡ (signed al (pos 2 *ℤ ((y -ℤ o *ℤ pos D) *ℤ w -ℤ M *ℤ pos D)) *ℤ pos Q) *ℤ pos W
    by_way true e = swap_back m (pos D) (pos W) ∙ (ap (λ t. t *ℤ pos D) e ∙ plain)
      where
        swap_back : (m d w : ℤ) → (m *ℤ d) *ℤ w ≡ (w *ℤ m) *ℤ d
        swap_back m d w = rw (dif_of m, dif_of d, dif_of w) (simp difs (dif_same _ _ _ _ (omega arith)))
    by_way false e = swap_back m (pos D) (pos W) ∙ (ap (λ t. t *ℤ pos D) e ∙ (minus_in (pos Q) (pos 2 *ℤ (S *ℤ w -ℤ pos W *ℤ M)) (pos D) ∙ (ap neg_ℤ plain ∙ sym (minus_out (pos 2 *ℤ ((y -ℤ o *ℤ pos D) *ℤ w -ℤ M *ℤ pos D)) (pos Q) (pos W)))))
      where
        swap_back : (m d w : ℤ) → (m *ℤ d) *ℤ w ≡ (w *ℤ m) *ℤ d
        swap_back m d w = rw (dif_of m, dif_of d, dif_of w) (simp difs (dif_same _ _ _ _ (omega arith)))

        minus_out : (z q w : ℤ) → (neg_ℤ z *ℤ q) *ℤ w ≡ neg_ℤ ((z *ℤ q) *ℤ w)
        minus_out z q w = rw (dif_of z, dif_of q, dif_of w) (simp difs (dif_same _ _ _ _ (omega arith)))

-- ---- how far a place lies from 0

-- the weight of the variables of the legs
weigh : Problem → List Leg → ℕ
weigh p [] = 0
weigh p (l ∷ ls) = get_or p.weights l.variable 0 + weigh p ls

sum-weights : (p : Problem) (legs : List Leg) → sum_of (map (weight_of p) legs) ≡ pos (weigh p legs)
unfolding weigh
sum-weights p [] = refl
sum-weights p (l ∷ ls) = ap (λ t. pos (get_or p.weights l.variable 0) +ℤ t) (sum-weights p ls)

-- each variable wants the root within 259,000,000 of 0, so all together do
sum-moments : (p : Problem) (legs : List Leg) → ((j : ℕ) → j < length legs → nat_abs (get_or p.desired (variable_at legs j) (pos 0) -ℤ (leg_at legs j).offset) ≤ 259000000)
    → nat_abs (sum_of (map (moment_of p) legs)) ≤ 259000000 * weigh p legs
unfolding weigh
sum-moments p [] near = omega arith
sum-moments p (l ∷ ls) near =
    let here = abs-product (get_or p.desired l.variable (pos 0) -ℤ l.offset) (pos (get_or p.weights l.variable 0)) 259000000 (get_or p.weights l.variable 0) (near 0 (omega arith)) (same (get_or p.weights l.variable 0)) in
    let rest = sum-moments p ls (λ j b. near (suc j) (omega (arith, b))) in
    both (moment_of p l) (sum_of (map (moment_of p) ls)) (get_or p.weights l.variable 0) (weigh p ls) here rest
  where
    same : (n : ℕ) → n ≤ n
    same n = omega arith

    both : (a b : ℤ) (m n : ℕ) → nat_abs a ≤ 259000000 * m → nat_abs b ≤ 259000000 * n → nat_abs (a +ℤ b) ≤ 259000000 * (m + n)
    both a b m n h k = omega (arith, ints, h, k)

length-map'' : (f : Leg → ℤ) (legs : List Leg) → length (map f legs) ≡ length legs
length-map'' f [] = refl
length-map'' f (l ∷ ls) = ap suc (length-map'' f ls)

-- the sum of the moments lies as near to 0
pub mean-near : (p : Problem) (active : List ℕ) (root : ℕ) (legs : List Leg) (weights moments : List ℤ) → stated.IsBounded p → IsSweep p active root legs weights moments
    → All (λ leg. leg.variable < length p.desired) legs → length legs ≤ 258
    → nat_abs (load_at moments 0) ≤ 259000000 * nat_abs (load_at weights 0)
mean-near p active root legs weights moments bounded h within short =
    let w = root-carries legs (map (weight_of p) legs) weights h.tree.tree.some (length-map'' (weight_of p) legs) h.tree.tree.sooner h.by_weight ∙ sum-weights p legs in
    let m = root-carries legs (map (moment_of p) legs) moments h.tree.tree.some (length-map'' (moment_of p) legs) h.tree.tree.sooner h.by_moment in
    let e = sum-moments p legs (λ j b. wish (get_or p.desired (variable_at legs j) (pos 0)) (leg_at legs j).offset j (bounded.near (variable_at legs j) (pos 0) (within j no_leg b)) (h.tree.tree.near j b) (under j (length legs) b short)) in
    joined (load_at moments 0) (load_at weights 0) (sum_of (map (moment_of p) legs)) (weigh p legs) m w e
  where
    under : (j n : ℕ) → j < n → n ≤ 258 → j ≤ 257
    under j n b h = omega arith

    wish : (d o : ℤ) (j : ℕ) → nat_abs d ≤ 2000000 → nat_abs o ≤ 1000000 * j → j ≤ 257 → nat_abs (d -ℤ o) ≤ 259000000
    wish d o j h k b = omega (arith, ints, h, k, b)

    joined : (m w s : ℤ) (u : ℕ) → m ≡ s → w ≡ pos u → nat_abs s ≤ 259000000 * u → nat_abs m ≤ 259000000 * nat_abs w
    joined m w s u e f h = subst (λ t. nat_abs m ≤ 259000000 * nat_abs t) (sym f) (subst (λ t. nat_abs t ≤ 259000000 * u) (sym e) h)

place-near : (m w o : ℤ) (j : ℕ) → nat_abs m ≤ 259000000 * nat_abs w → nat_abs o ≤ 1000000 * j → j ≤ 257 → nat_abs (m +ℤ w *ℤ o) ≤ 2 ^ 31 * nat_abs w
place-near m w o j h k b =
    let t = abs-product w o (nat_abs w) 257000000 (same (nat_abs w)) (flat (nat_abs o) j k b) in
    total m (w *ℤ o) (nat_abs w) h t
  where
    same : (n : ℕ) → n ≤ n
    same n = omega arith

    flat : (o j : ℕ) → o ≤ 1000000 * j → j ≤ 257 → o ≤ 257000000
    flat o j k b = omega arith

    total : (m t : ℤ) (w : ℕ) → nat_abs m ≤ 259000000 * w → nat_abs t ≤ w * 257000000 → nat_abs (m +ℤ t) ≤ 2 ^ 31 * w
    total m t w h k = omega (arith, ints, h, k)

-- ---- the fractions of a leg

-- what a swept block is known to be
pub record IsSwept (p : Problem) (active : List ℕ) (root : ℕ) (legs : List Leg) (weights moments : List ℤ) : Type 0 where
  pub bounded : stated.IsBounded p
  pub forest : IsActive p active
  pub sums : IsSweep p active root legs weights moments
  pub within : All (λ leg. leg.variable < length p.desired) legs
  pub short : length legs ≤ 258
  pub heavy : pos 0 <ℤ load_at weights 0
  pub tells : TellsRest p active legs weights moments

size-above : (w : ℤ) → pos 0 <ℤ w → 0 < nat_abs w
size-above w h = omega (arith, ints, h)

pub leg-place : (p : Problem) (active : List ℕ) (root : ℕ) (legs : List Leg) (weights moments : List ℤ) → IsSwept p active root legs weights moments
    → (j : ℕ) → j < length legs → IsPlace p active (variable_at legs j) (place_of_leg legs weights moments j)
leg-place p active root legs weights moments h j b = record {
  above = size-above (load_at weights 0) h.heavy;
  near = place-near (load_at moments 0) (load_at weights 0) (leg_at legs j).offset j (mean-near p active root legs weights moments h.bounded h.sums h.within h.short) (h.sums.tree.tree.near j b) (under j (length legs) b h.short);
  is = λ a rest. ap (λ t. t *ℤ a.x (variable_at legs j)) (pos-nat_abs (load_at weights 0) h.heavy) ∙ h.tells.places j b a rest;
}
  where
    under : (j n : ℕ) → j < n → n ≤ 258 → j ≤ 257
    under j n b h = omega arith

-- the multiplier of a leg is whole where the place of a variable of the block is
whole-with : (p : Problem) (active : List ℕ) (root : ℕ) (legs : List Leg) (weights moments : List ℤ) → IsSwept p active root legs weights moments
    → (j c : ℕ) → 0 < j → j < length legs → c < length legs → IsWholeWith p active (leg_at legs j).sep (variable_at legs c)
whole-with p active root legs weights moments h j c above b d a Q fine over rest D y e =
    let w = load_at weights 0 in
    let size = pos-nat_abs w h.heavy in
    whole (nat_abs w) (load_at moments 0) (leg_at legs c).offset (load_at weights j) (load_at moments j) (a.x (variable_at legs c)) (a.m (leg_at legs j).sep) Q D y (leg_at legs j).along
    (size-above w h.heavy) fine
    (at_w w (nat_abs w) (a.x (variable_at legs c)) a.q Q (λ t. load_at moments 0 +ℤ t *ℤ (leg_at legs c).offset) size over (h.tells.places c d a rest))
    (at_w w (nat_abs w) (a.m (leg_at legs j).sep) a.q Q (λ t. signed (leg_at legs j).along (pos 2 *ℤ (load_at moments 0 *ℤ load_at weights j -ℤ t *ℤ load_at moments j))) size over (h.tells.multipliers j above b a rest))
    e
  where
    at_w : (w : ℤ) (n : ℕ) (x q : ℤ) (Q : ℕ) (f : ℤ → ℤ) → pos n ≡ w → q ≡ pos Q → w *ℤ x ≡ q *ℤ f w → pos n *ℤ x ≡ pos Q *ℤ f (pos n)
    at_w w n x q Q f e k h = subst (λ t. t *ℤ x ≡ pos Q *ℤ f t) (sym e) (subst (λ t. w *ℤ x ≡ t *ℤ f w) k h)

-- the ends of the separation of a leg are its variable and that of its parent
ends-of-leg : (p : Problem) (active : List ℕ) (root : ℕ) (legs : List Leg) → IsBlockTree p.separations active root legs → (j : ℕ) → 0 < j → j < length legs
    → IsReached legs (separation_at p.separations (leg_at legs j).sep).left × IsReached legs (separation_at p.separations (leg_at legs j).sep).right
ends-of-leg p active root legs h j above b =
    by_way (separation_at p.separations (leg_at legs j).sep) (leg_at legs j).along (record { number = (leg_at legs j).parent; among = sooner (leg_at legs j).parent j (length legs) (h.tree.sooner j above b) b; is = sym (h.tree.leads j above b).from })
    (record { number = j; among = b; is = sym (h.tree.leads j above b).to })
  where
    sooner : (i j n : ℕ) → i < j → j < n → i < n
    sooner i j n a b = omega arith

    by_way : (s : Sep) (al : Bool) → IsReached legs (end_of s (not al)) → IsReached legs (end_of s al) → IsReached legs s.left × IsReached legs s.right
    by_way s true from to = (from, to)
    by_way s false from to = (to, from)

pub leg-multiplier : (p : Problem) (active : List ℕ) (root : ℕ) (legs : List Leg) (weights moments : List ℤ) → IsSwept p active root legs weights moments
    → (j : ℕ) → 0 < j → j < length legs → IsMultiplier p active (leg_at legs j).sep (multiplier_of_leg legs weights moments j)
leg-multiplier p active root legs weights moments h j above b =
    let ends = ends-of-leg p active root legs h.sums.tree j above b in
    record {
      above = size-above (load_at weights 0) h.heavy;
      is = λ a rest. ap (λ t. t *ℤ a.m (leg_at legs j).sep) (pos-nat_abs (load_at weights 0) h.heavy) ∙ h.tells.multipliers j above b a rest;
      left = subst (λ i. IsWholeWith p active (leg_at legs j).sep i) ends.0.is (whole-with p active root legs weights moments h j ends.0.number above b ends.0.among);
      right = subst (λ i. IsWholeWith p active (leg_at legs j).sep i) ends.1.is (whole-with p active root legs weights moments h j ends.1.number above b ends.1.among);
    }

-- the offsets of a tree of at most 258 legs
pub offsets-near : (seps : List Sep) (active : List ℕ) (root : ℕ) (legs : List Leg) → IsTree seps active root legs → length legs ≤ 258 → All (λ leg. nat_abs leg.offset ≤ 257000000) legs
offsets-near seps active root legs h short k d b = subst (λ (l : Leg). nat_abs l.offset ≤ 257000000) (get_or_default legs k no_leg d b) (flat (nat_abs (leg_at legs k).offset) k (length legs) (h.near k b) b short)
  where
    flat : (o k n : ℕ) → o ≤ 1000000 * k → k < n → n ≤ 258 → o ≤ 257000000
    flat o k n a b c = omega arith

-- ---- by variable and by separation

pub of-variable : (p : Problem) (active : List ℕ) (root : ℕ) (legs : List Leg) (weights moments : List ℤ) → IsSwept p active root legs weights moments
    → (i : ℕ) (f : Fraction) → IsOfVariable legs weights moments i f → IsPlace p active i f
of-variable p active root legs weights moments h i f w =
    subst (λ g. IsPlace p active i g) (sym w.value) (subst (λ v. IsPlace p active v (place_of_leg legs weights moments w.number)) w.reaches (leg-place p active root legs weights moments h w.number w.among))

pub of-leg : (p : Problem) (active : List ℕ) (root : ℕ) (legs : List Leg) (weights moments : List ℤ) → IsSwept p active root legs weights moments
    → (k : ℕ) (f : Fraction) → IsOfLeg legs weights moments k f → IsMultiplier p active k f
of-leg p active root legs weights moments h k f w =
    subst (λ g. IsMultiplier p active k g) (sym w.value) (subst (λ s. IsMultiplier p active s (multiplier_of_leg legs weights moments w.number)) w.over (leg-multiplier p active root legs weights moments h w.number w.above w.among))

-- an active separation whose left end is in the block is that of a leg
pub left-in-block : (p : Problem) (active : List ℕ) (root : ℕ) (legs : List Leg) (weights moments : List ℤ) → IsSwept p active root legs weights moments
    → (k : ℕ) → Active active k → IsReached legs (separation_at p.separations k).left → IsVia legs k
left-in-block p active root legs weights moments h k on w = only-vias p active root legs h.forest h.sums.tree k on w.number w.among (inr (sym w.is))
