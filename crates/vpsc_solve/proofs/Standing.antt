-- What the places of the variables say of a state at rest.
use Rattle.std.proofs.Common.{◌≡◌, ℕ, ◌*◌, ◌<◌, ◌≤◌, ℤ, pos, neg_ℤ, ◌+ℤ◌, ◌-ℤ◌, ◌*ℤ◌, ◌<ℤ◌, ◌≤ℤ◌, nat_abs, List, length, arith, sym, ap, ◌∙◌, Bool, true, false, None, Some, MatchBool, subst}
use Rattle.std.specs.List.{All}
use Rattle.std.proofs.lemmas.Int.{ints}
use Rattle.std.proofs.lemmas.List.{get_or_default}
use Rattle.units.specs.Problem.{Problem, IsSeparation}
use Rattle.units.specs.Problem as stated
use Rattle.solver_law.specs.State.{Point}
use Rattle.solver_law.specs.Cost.{cost, lack}
use Rattle.solver_law.proofs.Ring.{dif_of, difs, dif_same}
use Rattle.solver_law.proofs.Signs.{not-below-of, above-of, times-above, times-not-below}
use Rattle.units.specs.Separation.{no_separation, separation_at}
use Rattle.block_sums.specs.Legs.{leg_at}
use Rattle.block_sums.specs.Loads.{load_at}
use Rattle.block_sums.specs.Solving.{givens_of, IsActive, IsResting}
use Rattle.block_sums.specs.Rest.{exact_of, IsRest, HasRest, IsSolved}
use Rattle.block_sums.proofs.Products.{abs-product}
use Rattle.block_sums.proofs.Telling.{telling-rest}
use Rattle.vpsc_solve.specs.declared.places.Place.{Place}
use Rattle.vpsc_solve.specs.declared.violations.Violation.{Violation}
use Rattle.vpsc_solve.specs.Places.{no_place, place_at, IsSmallPlace, IsPlaced, ArePlaced, wanted, actual, IsBrokenAt}
use Rattle.vpsc_solve.specs.Stops.{IsViolation}

ap2 : {A B C : Type 0} (f : A → B → C) {a a' : A} {b b' : B} → a ≡ a' → b ≡ b' → f a b ≡ f a' b'
ap2 f e g = cc

-- ---- one variable

pub place-law : (p : Problem) (active : List ℕ) (i : ℕ) (place : Place) (a : Point) → IsActive p active → IsPlaced p active i place → IsResting p active a → place.den *ℤ a.x i ≡ a.q *ℤ place.num
place-law p active i place a forest h st =
    ap2 (λ d j. d *ℤ a.x j) h.stands.den (sym h.is)
    ∙ ((telling-rest p active h.root h.legs h.weights h.moments forest h.within h.sums).places h.number h.among a st ∙ ap (λ n. a.q *ℤ n) (sym h.stands.num))

pub small-place : (p : Problem) (active : List ℕ) (i : ℕ) (place : Place) → IsPlaced p active i place → IsSmallPlace place
small-place p active i place h = record {
  above = subst (λ d. pos 0 <ℤ d) (sym h.stands.den) h.heavy;
  weight = subst (λ d. nat_abs d ≤ 258000) (sym h.stands.den) (h.bounded.weight 0);
  near = subst (λ n. nat_abs n ≤ 133128000000000) (sym h.stands.num)
      (added (load_at h.moments 0) (load_at h.weights 0 *ℤ (leg_at h.legs h.number).offset) (h.bounded.moment 0)
      (abs-product (load_at h.weights 0) (leg_at h.legs h.number).offset 258000 257000000 (h.bounded.weight 0) (let n = h.sums.tree.tree.near h.number h.among in omega (arith, n, h.among, h.bounded.short))));
}
  where
    added : (m n : ℤ) → nat_abs m ≤ 66822000000000 → nat_abs n ≤ 258000 * 257000000 → nat_abs (m +ℤ n) ≤ 133128000000000
    added m n h g = omega (arith, ints, h, g)

pub all-small : (p : Problem) (active : List ℕ) (places : List Place) → ArePlaced p active places → All IsSmallPlace places
all-small p active places h k d b =
    subst IsSmallPlace (get_or_default places k no_place d b) (small-place p active k (place_at places k) (h.each k (subst (λ n. k < n) h.as_long b)))

-- ---- one separation

-- what is missing, times both denominators, is how much the wanted place is ahead
lack-law : (q g dl dr nl nr xl xr : ℤ) → dl *ℤ xl ≡ q *ℤ nl → dr *ℤ xr ≡ q *ℤ nr → (dl *ℤ dr) *ℤ (q *ℤ g -ℤ (xr -ℤ xl)) ≡ q *ℤ ((nl +ℤ g *ℤ dl) *ℤ dr -ℤ nr *ℤ dl)
lack-law q g dl dr nl nr xl xr el er =
    split q g dl dr xl xr ∙ (ap2 (λ u w. (q *ℤ ((g *ℤ dl) *ℤ dr) +ℤ u *ℤ dr) -ℤ w *ℤ dl) el er ∙ merge q g dl dr nl nr)
  where
    split : (q g dl dr xl xr : ℤ) → (dl *ℤ dr) *ℤ (q *ℤ g -ℤ (xr -ℤ xl)) ≡ (q *ℤ ((g *ℤ dl) *ℤ dr) +ℤ (dl *ℤ xl) *ℤ dr) -ℤ (dr *ℤ xr) *ℤ dl
    split q g dl dr xl xr = rw (dif_of q, dif_of g, dif_of dl, dif_of dr, dif_of xl, dif_of xr) (simp difs (dif_same _ _ _ _ (omega arith)))

    merge : (q g dl dr nl nr : ℤ) → (q *ℤ ((g *ℤ dl) *ℤ dr) +ℤ (q *ℤ nl) *ℤ dr) -ℤ (q *ℤ nr) *ℤ dl ≡ q *ℤ ((nl +ℤ g *ℤ dl) *ℤ dr -ℤ nr *ℤ dl)
    merge q g dl dr nl nr = rw (dif_of q, dif_of g, dif_of dl, dif_of dr, dif_of nl, dif_of nr) (simp difs (dif_same _ _ _ _ (omega arith)))

-- the signs of both are the same
pub record SameSign (l z : ℤ) : Type 0 where
  pub above : pos 0 <ℤ z → pos 0 <ℤ l
  pub below : z <ℤ pos 0 → l <ℤ pos 0
  pub no_more : z ≤ℤ pos 0 → l ≤ℤ pos 0
  pub none : z ≡ pos 0 → l ≡ pos 0

same-sign : (d l q z : ℤ) → pos 0 <ℤ d → pos 0 <ℤ q → d *ℤ l ≡ q *ℤ z → SameSign l z
same-sign d l q z hd hq e = record {
  above = λ h. above-of (nat_abs d) l (size d hd) (subst (λ t. pos 0 <ℤ t) (sym (ap (λ t. t *ℤ l) (sym (whole d hd)) ∙ e)) (times-above q z hq h));
  below = λ h. turn-lt l (above-of (nat_abs d) (neg_ℤ l) (size d hd) (subst (λ t. pos 0 <ℤ t) (sym negated) (times-above q (neg_ℤ z) hq (up z h))));
  no_more = λ h. low h;
  none = λ h. both l (low (weak z h)) (not-below-of (nat_abs d) l (size d hd) (subst (λ t. pos 0 ≤ℤ t) (sym (ap (λ t. t *ℤ l) (sym (whole d hd)) ∙ e)) (times-not-below q z (weaker q hq) (weak' z h))));
}
  where
    size : (z : ℤ) → pos 0 <ℤ z → 0 < nat_abs z
    size z h = omega (arith, ints, h)

    whole : (z : ℤ) → pos 0 <ℤ z → z ≡ pos (nat_abs z)
    whole z h = omega (arith, ints, h)

    weaker : (z : ℤ) → pos 0 <ℤ z → pos 0 ≤ℤ z
    weaker z h = omega (arith, ints, h)

    weak : (z : ℤ) → z ≡ pos 0 → z ≤ℤ pos 0
    weak z h = omega (arith, ints, h)

    weak' : (z : ℤ) → z ≡ pos 0 → pos 0 ≤ℤ z
    weak' z h = omega (arith, ints, h)

    up : (z : ℤ) → z <ℤ pos 0 → pos 0 <ℤ neg_ℤ z
    up z h = omega (arith, ints, h)

    up-le : (z : ℤ) → z ≤ℤ pos 0 → pos 0 ≤ℤ neg_ℤ z
    up-le z h = omega (arith, ints, h)

    turn-lt : (z : ℤ) → pos 0 <ℤ neg_ℤ z → z <ℤ pos 0
    turn-lt z h = omega (arith, ints, h)

    turn-le : (z : ℤ) → pos 0 ≤ℤ neg_ℤ z → z ≤ℤ pos 0
    turn-le z h = omega (arith, ints, h)

    both : (z : ℤ) → z ≤ℤ pos 0 → pos 0 ≤ℤ z → z ≡ pos 0
    both z h g = omega (arith, ints, h, g)

    neg_times : (d l : ℤ) → d *ℤ neg_ℤ l ≡ neg_ℤ (d *ℤ l)
    neg_times d l = rw (dif_of d, dif_of l) (simp difs (dif_same _ _ _ _ (omega arith)))

    negated : pos (nat_abs d) *ℤ neg_ℤ l ≡ q *ℤ neg_ℤ z
    negated = ap (λ t. t *ℤ neg_ℤ l) (sym (whole d hd)) ∙ (neg_times d l ∙ (ap neg_ℤ e ∙ sym (neg_times q z)))

    low : z ≤ℤ pos 0 → l ≤ℤ pos 0
    low h = turn-le l (not-below-of (nat_abs d) (neg_ℤ l) (size d hd) (subst (λ t. pos 0 ≤ℤ t) (sym negated) (times-not-below q (neg_ℤ z) (weaker q hq) (up-le z h))))

-- what is missing at a separation has the sign of the wanted place less the actual one
pub sign-of-lack : (p : Problem) (active : List ℕ) (places : List Place) (point : Point) (Q k : ℕ) → stated.IsBounded p → IsActive p active → ArePlaced p active places → IsRest p active point Q → k < length p.separations
    → SameSign (lack (givens_of p) point k)
    (wanted (separation_at p.separations k) (place_at places (separation_at p.separations k).left) (place_at places (separation_at p.separations k).right)
    -ℤ actual (place_at places (separation_at p.separations k).left) (place_at places (separation_at p.separations k).right))
sign-of-lack p active places point Q k bounded forest h rest b =
    let sep = separation_at p.separations k in
    let sound = bounded.sound k no_separation b in
    let left = place_at places sep.left in
    let right = place_at places sep.right in
    let hl = h.each sep.left sound.left in
    let hr = h.each sep.right sound.right in
    same-sign (left.den *ℤ right.den) (lack (givens_of p) point k) point.q (wanted sep left right -ℤ actual left right)
    (times-above left.den right.den (small-place p active sep.left left hl).above (small-place p active sep.right right hr).above)
    (subst (λ q. pos 0 <ℤ q) (sym rest.over) (whole Q rest.above))
    (lack-law point.q sep.gap left.den right.den left.num right.num (point.x sep.left) (point.x sep.right) (place-law p active sep.left left point forest hl rest.state) (place-law p active sep.right right point forest hr rest.state))
  where
    whole : (Q : ℕ) → 0 < Q → pos 0 <ℤ pos Q
    whole Q h = omega (arith, ints, h)

-- the first broken separation is violated at rest
pub broken-violates : (p : Problem) (active : List ℕ) (places : List Place) (v : Violation) (bound : ℤ) (F : ℕ) → stated.IsBounded p → IsActive p active → ArePlaced p active places → v.sep < length p.separations
    → IsBrokenAt p places v.sep (Some v.above) → (rest : HasRest p active) → pos (rest.Q * rest.Q) *ℤ bound ≡ pos (F * F) *ℤ cost (givens_of p) rest.point → IsViolation p active v.sep v.above bound F
broken-violates p active places v bound F bounded forest h below broken rest same = record {
  point = rest.point;
  Q = rest.Q;
  rest = rest.rest;
  missing = by_case v.above broken;
  same = same;
}
  where
    ahead : (w a : ℤ) → a <ℤ w → pos 0 <ℤ (w -ℤ a)
    ahead w a h = omega (arith, ints, h)

    behind : (w a : ℤ) → w <ℤ a → (w -ℤ a) <ℤ pos 0
    behind w a h = omega (arith, ints, h)

    by_case : (b : Bool) → IsBrokenAt p places v.sep (Some b) → MatchBool b ((exact_of p v.sep ≡ true) × (lack (givens_of p) rest.point v.sep <ℤ pos 0)) (pos 0 <ℤ lack (givens_of p) rest.point v.sep)
    by_case false t = (sign-of-lack p active places rest.point rest.Q v.sep bounded forest h rest.rest below).above (ahead _ _ t)
    by_case true t = (t.0, (sign-of-lack p active places rest.point rest.Q v.sep bounded forest h rest.rest below).below (behind _ _ t.1))

-- where no separation is broken, the active list solves the problem
pub unbroken-solved : (p : Problem) (active : List ℕ) (places : List Place) → stated.IsBounded p → IsActive p active → ArePlaced p active places → ((k : ℕ) → k < length p.separations → IsBrokenAt p places k None) → HasRest p active → IsSolved p active
unbroken-solved p active places bounded forest h unbroken rest = record {
  point = rest.point;
  Q = rest.Q;
  rest = rest.rest;
  kept = λ k b. kept (exact_of p k) _ _ _ (sign-of-lack p active places rest.point rest.Q k bounded forest h rest.rest b) (unbroken k b);
}
  where
    kept : (b : Bool) (l w a : ℤ) → SameSign l (w -ℤ a) → MatchBool b (w ≡ a) (w ≤ℤ a) → MatchBool b (l ≡ pos 0) (l ≤ℤ pos 0)
    kept true l w a s e = s.none (gone w a e)
      where
        gone : (w a : ℤ) → w ≡ a → w -ℤ a ≡ pos 0
        gone w a e = omega (arith, ints, e)
    kept false l w a s e = s.no_more (low w a e)
      where
        low : (w a : ℤ) → w ≤ℤ a → (w -ℤ a) ≤ℤ pos 0
        low w a e = omega (arith, ints, e)
