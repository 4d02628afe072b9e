-- The loop over closings ends: over one common denominator the cost of the places is a whole number, and it rises.
use Rattle.std.proofs.Common.{◌≡◌, ℕ, zero, suc, ◌-◌, ◌*◌, ◌/◌, ◌<◌, ◌≤◌, ℤ, pos, negsuc, ◌-ℤ◌, ◌*ℤ◌, ◌<ℤ◌, ◌≤ℤ◌, nat_abs, List, length, slice_index_or, arith, sym, ap, ◌∙◌}
use Rattle.std.proofs.lemmas.Int.{ints}
use Rattle.std.proofs.Math.Nat.{mul-div_cancel_left}
use Rattle.std.specs.Prelude.{slice_index}
use Rattle.units.specs.Problem.{Problem}
use Rattle.units.specs.Problem as stated
use Rattle.solver_law.specs.State.{sum_to, Point}
use Rattle.solver_law.specs.Cost.{cost}
use Rattle.solver_law.proofs.Ring.{dif_of, difs, dif_same}
use Rattle.solver_law.proofs.Sums.{sum-same, sum-scale}
use Rattle.solver_law.proofs.Factorial.{factorial, factorial-above, Divides, divides-factorial}
use Rattle.solver_law.proofs.Measure.{rises, falls, cost-below}
use Rattle.block_sums.specs.Solving.{givens_of, IsActive}
use Rattle.block_sums.specs.Rest.{IsRest}
use Rattle.block_sums.proofs.Products.{abs-product}
use Rattle.vpsc_solve.specs.declared.places.Place.{Place}
use Rattle.vpsc_solve.specs.Places.{place_at, IsSmallPlace, ArePlaced}
use Rattle.vpsc_solve.specs.Stops.{HasClosed}
use Rattle.vpsc_solve.proofs.Standing.{place-law, small-place}

-- a denominator of all places: each weight of a block divides it
unfoldable pub common : ℕ
common = factorial 258000

common-above : 0 < common
unfolding common
common-above = factorial-above 258000

divides-common : (d : ℕ) → 0 < d → d ≤ 258000 → Divides d common
unfolding common
divides-common d above below = divides-factorial 258000 d above below

-- how far a place is from a desired one, over the common denominator
abbrev pub away : ℕ → Place → ℤ → ℤ
away F place desired = pos (F / nat_abs place.den) *ℤ place.num -ℤ pos F *ℤ desired

-- the cost of places over F squared
abbrev pub cost_over : ℕ → Problem → List Place → ℤ
cost_over F p places = sum_to (length p.desired) (λ i. pos (slice_index p.weights i) *ℤ (away F (place_at places i) (slice_index_or p.desired i (pos 0)) *ℤ away F (place_at places i) (slice_index_or p.desired i (pos 0))))

-- what it never reaches
abbrev pub cost_most : ℕ → Problem → ℤ
cost_most F p = sum_to (length p.desired) (λ i. pos (slice_index p.weights i) *ℤ pos ((F * 133128002000000) * (F * 133128002000000)))

-- what is left
abbrev pub left_over : Problem → List Place → ℕ
left_over p places = nat_abs (cost_most common p) - nat_abs (cost_over common p places)

quotient : (d F : ℕ) → 0 < d → Divides d F → d * (F / d) ≡ F
quotient d F above h = ap (λ t. d * t) (ap (λ f. f / d) (sym h.product) ∙ mul-div_cancel_left h.other above) ∙ h.product

-- the way over F is F times that over q
away-law : (F q c den num x desired : ℤ) → den *ℤ c ≡ F → den *ℤ x ≡ q *ℤ num → q *ℤ (c *ℤ num -ℤ F *ℤ desired) ≡ F *ℤ (x -ℤ q *ℤ desired)
away-law F q c den num x desired ef ex =
    out q c num F desired ∙ (ap (λ t. c *ℤ t -ℤ q *ℤ (F *ℤ desired)) (sym ex) ∙ (turn c den x q F desired ∙ (ap (λ t. t *ℤ x -ℤ q *ℤ (F *ℤ desired)) ef ∙ inn F x q desired)))
  where
    out : (q c num F desired : ℤ) → q *ℤ (c *ℤ num -ℤ F *ℤ desired) ≡ c *ℤ (q *ℤ num) -ℤ q *ℤ (F *ℤ desired)
    out q c num F desired = rw (dif_of q, dif_of c, dif_of num, dif_of F, dif_of desired) (simp difs (dif_same _ _ _ _ (omega arith)))

    turn : (c den x q F desired : ℤ) → c *ℤ (den *ℤ x) -ℤ q *ℤ (F *ℤ desired) ≡ (den *ℤ c) *ℤ x -ℤ q *ℤ (F *ℤ desired)
    turn c den x q F desired = rw (dif_of c, dif_of den, dif_of x, dif_of q, dif_of F, dif_of desired) (simp difs (dif_same _ _ _ _ (omega arith)))

    inn : (F x q desired : ℤ) → F *ℤ x -ℤ q *ℤ (F *ℤ desired) ≡ F *ℤ (x -ℤ q *ℤ desired)
    inn F x q desired = rw (dif_of F, dif_of x, dif_of q, dif_of desired) (simp difs (dif_same _ _ _ _ (omega arith)))

whole : (z : ℤ) → pos 0 <ℤ z → z ≡ pos (nat_abs z)
whole z h = omega (arith, ints, h)

size : (z : ℤ) → pos 0 <ℤ z → 0 < nat_abs z
size z h = omega (arith, ints, h)

-- the weight of its block goes into F
den-law : (F : ℕ) (place : Place) → IsSmallPlace place → Divides (nat_abs place.den) F → place.den *ℤ pos (F / nat_abs place.den) ≡ pos F
den-law F place small h = ap (λ d. d *ℤ pos (F / nat_abs place.den)) (whole place.den small.above) ∙ ap pos (quotient (nat_abs place.den) F (size place.den small.above) h)

square-law : (q F w u y : ℤ) → q *ℤ u ≡ F *ℤ y → (q *ℤ q) *ℤ (w *ℤ (u *ℤ u)) ≡ (F *ℤ F) *ℤ (w *ℤ (y *ℤ y))
square-law q F w u y e = out q w u ∙ (ap (λ t. w *ℤ (t *ℤ t)) e ∙ sym (out F w y))
  where
    out : (q w u : ℤ) → (q *ℤ q) *ℤ (w *ℤ (u *ℤ u)) ≡ w *ℤ ((q *ℤ u) *ℤ (q *ℤ u))
    out q w u = rw (dif_of q, dif_of w, dif_of u) (simp difs (dif_same _ _ _ _ (omega arith)))

-- ---- all places

cost-over-law : (F : ℕ) (p : Problem) (active : List ℕ) (places : List Place) (point : Point) (Q : ℕ) → ((d : ℕ) → 0 < d → d ≤ 258000 → Divides d F) → IsActive p active → ArePlaced p active places → IsRest p active point Q
    → (pos Q *ℤ pos Q) *ℤ cost_over F p places ≡ (pos F *ℤ pos F) *ℤ cost (givens_of p) point
cost-over-law F p active places point Q divides forest h rest =
    sym (sum-scale (length p.desired) (pos Q *ℤ pos Q) (λ i. pos (slice_index p.weights i) *ℤ (away F (place_at places i) (slice_index_or p.desired i (pos 0)) *ℤ away F (place_at places i) (slice_index_or p.desired i (pos 0)))))
    ∙ (sum-same (length p.desired) _ _ (λ i b. term i b)
    ∙ sum-scale (length p.desired) (pos F *ℤ pos F) (λ i. (givens_of p).w i *ℤ ((point.x i -ℤ point.q *ℤ (givens_of p).d i) *ℤ (point.x i -ℤ point.q *ℤ (givens_of p).d i))))
  where
    term : (i : ℕ) → i < length p.desired → (pos Q *ℤ pos Q) *ℤ (pos (slice_index p.weights i) *ℤ (away F (place_at places i) (slice_index_or p.desired i (pos 0)) *ℤ away F (place_at places i) (slice_index_or p.desired i (pos 0))))
        ≡ (pos F *ℤ pos F) *ℤ ((givens_of p).w i *ℤ ((point.x i -ℤ point.q *ℤ (givens_of p).d i) *ℤ (point.x i -ℤ point.q *ℤ (givens_of p).d i)))
    term i b =
        let place = place_at places i in
        let small = small-place p active i place (h.each i b) in
        let d = slice_index_or p.desired i (pos 0) in
        square-law (pos Q) (pos F) (pos (slice_index p.weights i)) (away F place d) (point.x i -ℤ point.q *ℤ d)
        (away-law (pos F) (pos Q) (pos (F / nat_abs place.den)) place.den place.num (point.x i) d (den-law F place small (divides (nat_abs place.den) (size place.den small.above) small.weight))
        (place-law p active i place point forest (h.each i b) rest.state ∙ ap (λ q. q *ℤ place.num) rest.over)
        ∙ ap (λ q. pos F *ℤ (point.x i -ℤ q *ℤ d)) (sym rest.over))

-- a sum of squares is not below 0
not-below : (n : ℕ) (w : ℕ → ℕ) (u : ℕ → ℤ) → pos 0 ≤ℤ sum_to n (λ i. pos (w i) *ℤ (u i *ℤ u i))
not-below zero w u = omega (arith, ints)
not-below (suc n) w u =
    let here = term (w 0) (u 0) in
    let rest = not-below n (λ i. w (suc i)) (λ i. u (suc i)) in
    omega (arith, ints, here, rest)
  where
    term : (w : ℕ) (z : ℤ) → pos 0 ≤ℤ (pos w *ℤ (z *ℤ z))
    term w (pos n) = omega (arith, ints)
    term w (negsuc n) = omega (arith, ints)

cost-over-whole : (F : ℕ) (p : Problem) (places : List Place) → pos (nat_abs (cost_over F p places)) ≡ cost_over F p places
cost-over-whole F p places = back (cost_over F p places) (not-below (length p.desired) (λ i. slice_index p.weights i) (λ i. away F (place_at places i) (slice_index_or p.desired i (pos 0))))
  where
    back : (z : ℤ) → pos 0 ≤ℤ z → pos (nat_abs z) ≡ z
    back z h = omega (arith, ints, h)

quotient-below : (d F : ℕ) → 0 < d → Divides d F → F / d ≤ F
quotient-below d F above h = let e = quotient d F above h in plain d (F / d) F above e
  where
    plain : (d c F : ℕ) → 0 < d → d * c ≡ F → c ≤ F
    plain zero c F above e = absurd (omega (arith, above))
    plain (suc d) c F above e = omega (arith, e)

away-below : (F : ℕ) (place : Place) (desired : ℤ) → IsSmallPlace place → Divides (nat_abs place.den) F → nat_abs desired ≤ 2000000 → nat_abs (away F place desired) ≤ F * 133128002000000
away-below F place desired small h near =
    both (pos (F / nat_abs place.den) *ℤ place.num) (pos F *ℤ desired) F
    (abs-product (pos (F / nat_abs place.den)) place.num F 133128000000000 (quotient-below (nat_abs place.den) F (size place.den small.above) h) small.near)
    (abs-product (pos F) desired F 2000000 (self F) near)
  where
    self : (F : ℕ) → F ≤ F
    self F = omega arith

    both : (u v : ℤ) (F : ℕ) → nat_abs u ≤ F * 133128000000000 → nat_abs v ≤ F * 2000000 → nat_abs (u -ℤ v) ≤ F * 133128002000000
    both u v F h g = omega (arith, ints, h, g)

cost-over-most : (F : ℕ) (p : Problem) (active : List ℕ) (places : List Place) → stated.IsBounded p → ((d : ℕ) → 0 < d → d ≤ 258000 → Divides d F) → ArePlaced p active places → nat_abs (cost_over F p places) ≤ nat_abs (cost_most F p)
cost-over-most F p active places bounded divides h =
    sizes (cost_over F p places) (cost_most F p) (not-below (length p.desired) (λ i. slice_index p.weights i) (λ i. away F (place_at places i) (slice_index_or p.desired i (pos 0))))
    (cost-below (length p.desired) (λ i. slice_index p.weights i) (λ i. away F (place_at places i) (slice_index_or p.desired i (pos 0))) (F * 133128002000000) (λ i b.
    let small = small-place p active i (place_at places i) (h.each i b) in
    away-below F (place_at places i) (slice_index_or p.desired i (pos 0)) small (divides (nat_abs (place_at places i).den) (size (place_at places i).den small.above) small.weight) (bounded.near i (pos 0) b)))
  where
    sizes : (u v : ℤ) → pos 0 ≤ℤ u → u ≤ℤ v → nat_abs u ≤ nat_abs v
    sizes u v h g = omega (arith, ints, h, g)

products : (Q F : ℕ) (a b : ℤ) → (pos Q *ℤ pos Q) *ℤ a ≡ (pos F *ℤ pos F) *ℤ b → pos (Q * Q) *ℤ a ≡ pos (F * F) *ℤ b
products Q F a b e = e

-- the cost of the places is that at rest
pub same-cost : (p : Problem) (active : List ℕ) (places : List Place) (point : Point) (Q : ℕ) → IsActive p active → ArePlaced p active places → IsRest p active point Q
    → pos (Q * Q) *ℤ pos (nat_abs (cost_over common p places)) ≡ pos (common * common) *ℤ cost (givens_of p) point
same-cost p active places point Q forest h rest =
    ap (λ c. pos (Q * Q) *ℤ c) (cost-over-whole common p places) ∙ products Q common (cost_over common p places) (cost (givens_of p) point) (cost-over-law common p active places point Q divides-common forest h rest)

pub common-large : 0 < common
common-large = common-above

-- after a closing less is left
pub less-left : (p : Problem) (new : List ℕ) (before places : List Place) → stated.IsBounded p → IsActive p new → ArePlaced p new places → HasClosed p new (pos (nat_abs (cost_over common p before))) common
    → left_over p places < left_over p before
less-left p new before places bounded forest h closed =
    falls (nat_abs (cost_most common p)) (nat_abs (cost_over common p before)) (nat_abs (cost_over common p places))
    (rises closed.Q common (nat_abs (cost_over common p before)) (nat_abs (cost_over common p places)) (cost (givens_of p) closed.point) closed.rest.above (same-cost p new places closed.point closed.Q forest h closed.rest) closed.larger)
    (cost-over-most common p new places bounded divides-common h)
