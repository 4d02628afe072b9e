-- A state at rest in which every separation is satisfied makes a certificate.
use Rattle.std.proofs.Common.{◌≡◌, ℕ, suc, ◌*◌, ◌<◌, ℤ, pos, ◌+ℤ◌, ◌-ℤ◌, ◌*ℤ◌, ◌≤ℤ◌, List, [], ◌∷◌, length, get_or, arith, refl, sym, ◌∙◌, ap, subst, Bool, true, false, MatchBool, ◌⊎◌, inl, inr, All}
use Rattle.std.specs.List.{AllByRecursion}
use Rattle.std.specs.Bool.{OnFalse}
use Rattle.std.proofs.lemmas.Int.{ints}
use Rattle.std.proofs.lemmas.List.{get_or_default}
use Rattle.std.proofs.lemmas.List.Elements.{recursion_from_All}
use lib.IntN.{*ℤ_comm}
use Rattle.units.specs.declared.geometry.Sep.{Sep}
use Rattle.units.specs.Problem.{Problem, IsSeparation}
use Rattle.units.specs.Problem as stated
use Rattle.units.specs.Separation.{place_of, Satisfies}
use Rattle.frac128.specs.Fraction.{Fraction, whole, minus, minus_whole, IsLowest}
use Rattle.frac128.proofs.Ring.{dif_of, difs, dif_same}
use Rattle.solver_law.specs.State.{put_at, net, Point}
use Rattle.multiplier_check.specs.declared.certificate.Certificate.{Certificate}
use Rattle.multiplier_check.specs.Placement.{common_denominator, numerators_over, placement_of}
use Rattle.multiplier_check.specs.Certificate.{fraction_at, gradient, arriving, leaving, IsBalanced, IsSigned, IsComplementary, DividesBothEnds, IsNear, IsCertificate}
use Rattle.multiplier_check.specs.Check.{touching}
use Rattle.multiplier_check.proofs.Over.{IsOver, IsOver-numerator_over, HasDen, AreOver, over_common, over_at, at_from_all, over_sum, length-numerators_over, over_multiple, over_less, over_minus, same_from_over, same_value, cancel, dens, den_at}
use Rattle.multiplier_check.proofs.Slacks.{room, sign_ge, sign_zero, keeps_from_room}
use Rattle.multiplier_check.proofs.Zips.{zip_from_index}
use Rattle.units.specs.Separation.{no_separation, separation_at}
use Rattle.block_sums.specs.Solving.{Active}
use Rattle.block_sums.specs.Rest.{IsRest, IsKept}
use Rattle.block_certificate.proofs.LowestTerms.{lowest-divides}

-- the fractions of a certificate are the places and the multipliers of a state over Q, in lowest terms, and of the right form
pub record HasValues (problem : Problem) (point : Point) (Q : ℕ) (certificate : Certificate) : Type 0 where
  pub places_as_long : length certificate.places ≡ length problem.desired
  pub multipliers_as_long : length certificate.multipliers ≡ length problem.separations
  pub places_lowest : All IsLowest certificate.places
  pub multipliers_lowest : All IsLowest certificate.multipliers
  pub near : All IsNear certificate.places
  pub places : (i : ℕ) → i < length problem.desired → IsOver Q (fraction_at certificate.places i) (point.x i)
  pub multipliers : (k : ℕ) → k < length problem.separations → IsOver Q (fraction_at certificate.multipliers k) (point.m k)
  pub divides : (k : ℕ) → k < length problem.separations
      → DividesBothEnds certificate.places (separation_at problem.separations k) (fraction_at certificate.multipliers k)

-- ---- one separation, over the product of the denominators

-- how much further than its gap a separation stands apart, over both denominators
room-is : (fs : List Fraction) (s : Sep) (Q : ℕ) (xl xr : ℤ) → AllByRecursion HasDen fs → IsOver Q (fraction_at fs s.left) xl → IsOver Q (fraction_at fs s.right) xr
    → room (numerators_over (common_denominator fs) fs) (common_denominator fs) s *ℤ pos Q ≡ ((xr -ℤ xl) -ℤ pos Q *ℤ s.gap) *ℤ pos (common_denominator fs)
room-is fs s Q xl xr d hl hr =
    let C = common_denominator fs in
    let l = same_value C Q (fraction_at fs s.left) (place_of (numerators_over C fs) s.left) xl (den_at fs s.left d) (over_at fs C s.left (over_common fs)) hl in
    let r = same_value C Q (fraction_at fs s.right) (place_of (numerators_over C fs) s.right) xr (den_at fs s.right d) (over_at fs C s.right (over_common fs)) hr in
    parts (place_of (numerators_over C fs) s.right) (place_of (numerators_over C fs) s.left) s.gap (pos C) (pos Q) xr xl r l
  where
    out : (r l g c q : ℤ) → ((r -ℤ l) -ℤ g *ℤ c) *ℤ q ≡ (r *ℤ q -ℤ l *ℤ q) -ℤ (q *ℤ g) *ℤ c
    out r l g c q = rw (dif_of r, dif_of l, dif_of g, dif_of c, dif_of q) (simp difs (dif_same _ _ _ _ (omega arith)))

    inn : (xr xl g c q : ℤ) → (xr *ℤ c -ℤ xl *ℤ c) -ℤ (q *ℤ g) *ℤ c ≡ ((xr -ℤ xl) -ℤ q *ℤ g) *ℤ c
    inn xr xl g c q = rw (dif_of xr, dif_of xl, dif_of g, dif_of c, dif_of q) (simp difs (dif_same _ _ _ _ (omega arith)))

    parts : (r l g c q xr xl : ℤ) → r *ℤ q ≡ xr *ℤ c → l *ℤ q ≡ xl *ℤ c → ((r -ℤ l) -ℤ g *ℤ c) *ℤ q ≡ ((xr -ℤ xl) -ℤ q *ℤ g) *ℤ c
    parts r l g c q xr xl e f = out r l g c q ∙ (ap (λ t. (t -ℤ l *ℤ q) -ℤ (q *ℤ g) *ℤ c) e ∙ (ap (λ t. (xr *ℤ c -ℤ t) -ℤ (q *ℤ g) *ℤ c) f ∙ inn xr xl g c q))

satisfies : (fs : List Fraction) (s : Sep) (Q : ℕ) (xl xr : ℤ) → 0 < Q → AllByRecursion HasDen fs → IsOver Q (fraction_at fs s.left) xl → IsOver Q (fraction_at fs s.right) xr
    → (exact : Bool) → MatchBool exact ((pos Q *ℤ s.gap) -ℤ (xr -ℤ xl) ≡ pos 0) (((pos Q *ℤ s.gap) -ℤ (xr -ℤ xl)) ≤ℤ pos 0)
    → MatchBool exact ((place_of (numerators_over (common_denominator fs) fs) s.right -ℤ place_of (numerators_over (common_denominator fs) fs) s.left) ≡ (pos (common_denominator fs) *ℤ s.gap))
    ((pos (common_denominator fs) *ℤ s.gap) ≤ℤ (place_of (numerators_over (common_denominator fs) fs) s.right -ℤ place_of (numerators_over (common_denominator fs) fs) s.left))
satisfies fs s Q xl xr above d hl hr true h =
    keeps_from_room (numerators_over (common_denominator fs) fs) (common_denominator fs) s true
    (sign_zero Q (common_denominator fs) (room (numerators_over (common_denominator fs) fs) (common_denominator fs) s) ((xr -ℤ xl) -ℤ pos Q *ℤ s.gap) above (room-is fs s Q xl xr d hl hr) (turned (pos Q *ℤ s.gap) (xr -ℤ xl) h))
  where
    turned : (g x : ℤ) → g -ℤ x ≡ pos 0 → x -ℤ g ≡ pos 0
    turned g x h = omega (arith, ints)
satisfies fs s Q xl xr above d hl hr false h =
    keeps_from_room (numerators_over (common_denominator fs) fs) (common_denominator fs) s false
    (sign_ge Q (common_denominator fs) (room (numerators_over (common_denominator fs) fs) (common_denominator fs) s) ((xr -ℤ xl) -ℤ pos Q *ℤ s.gap) above (room-is fs s Q xl xr d hl hr) (turned (pos Q *ℤ s.gap) (xr -ℤ xl) h))
  where
    turned : (g x : ℤ) → (g -ℤ x) ≤ℤ pos 0 → pos 0 ≤ℤ (x -ℤ g)
    turned g x h = omega (arith, ints)

-- ---- the balance of one variable

-- the sums of a list of multipliers over q are those of the state
net-is : (ss : List Sep) (ms : List ℤ) (m : ℕ → ℤ) (i : ℕ) → length ms ≡ length ss → ((k : ℕ) → k < length ss → get_or ms k (pos 0) ≡ m k)
    → touching (λ s. s.right) ss ms i -ℤ touching (λ s. s.left) ss ms i ≡ net (length ss) (λ k. (separation_at ss k).left) (λ k. (separation_at ss k).right) m i
net-is [] ms m i as_long same = refl
net-is (s ∷ ss) [] m i as_long same = absurd (omega arith)
net-is (s ∷ ss) (x ∷ xs) m i as_long same =
    let here : x ≡ m 0 = same 0 (omega arith) in
    let right = ap (λ t. put_at s.right t i) here in
    let left = ap (λ t. put_at s.left t i) here in
    let rest = net-is ss xs (λ k. m (suc k)) i (omega arith) (λ k b. same (suc k) (omega (arith, b))) in
    together (put_at s.right x i) (put_at s.left x i) (touching (λ s. s.right) ss xs i) (touching (λ s. s.left) ss xs i) (put_at s.right (m 0) i) (put_at s.left (m 0) i)
    (net (length ss) (λ k. (separation_at ss k).left) (λ k. (separation_at ss k).right) (λ k. m (suc k)) i) right left rest
  where
    together : (a b r l a' b' n : ℤ) → a ≡ a' → b ≡ b' → r -ℤ l ≡ n → (a +ℤ r) -ℤ (b +ℤ l) ≡ (a' -ℤ b') +ℤ n
    together a b r l a' b' n e f h = omega (arith, ints, e, f, h)

-- multipliers in lowest terms that have values over Q are over Q
are-over : (Q : ℕ) (ms : List Fraction) (m : ℕ → ℤ) → AllByRecursion IsLowest ms → ((k : ℕ) → k < length ms → IsOver Q (fraction_at ms k) (m k)) → AreOver Q ms
are-over Q [] m low h = tt
are-over Q (f ∷ fs) m low h =
    (IsOver-numerator_over Q f (inr (lowest-divides f Q (m 0) low.0 (sym (h 0 (omega arith))))), are-over Q fs (λ k. m (suc k)) low.1 (λ k b. h (suc k) (omega (arith, b))))

-- the numerators over Q are the numbers of the state
numerator-is : (Q : ℕ) (ms : List Fraction) (k : ℕ) (m : ℤ) → AllByRecursion HasDen ms → AreOver Q ms → IsOver Q (fraction_at ms k) m → place_of (numerators_over Q ms) k ≡ m
numerator-is Q ms k m d over is = cancel (fraction_at ms k).den (place_of (numerators_over Q ms) k) m (den_at ms k d) (over_at ms Q k over ∙ sym is)

balanced : (p : Problem) (active : List ℕ) (point : Point) (Q : ℕ) (c : Certificate) → IsRest p active point Q → HasValues p point Q c
    → (i : ℕ) → i < length p.desired → IsBalanced p c i
balanced p active point Q c rest v i b =
    let low = recursion_from_All IsLowest c.multipliers v.multipliers_lowest in
    let over : AreOver Q c.multipliers = are-over Q c.multipliers point.m low (λ k h. v.multipliers k (subst (λ n. k < n) v.multipliers_as_long h)) in
    let w = get_or p.weights i 0 in
    let d = get_or p.desired i (pos 0) in
    let u : IsOver Q (gradient p c.places i) (pos (2 * w) *ℤ (point.x i -ℤ d *ℤ pos Q)) = over_multiple Q (2 * w) (minus_whole (fraction_at c.places i) d) _ (over_less Q (fraction_at c.places i) d (point.x i) (v.places i b)) in
    let e = over_minus Q (arriving p.separations c.multipliers i) (leaving p.separations c.multipliers i) _ _
    (over_sum Q (λ s. s.right) p.separations c.multipliers i (at_from_all Q (λ s. s.right) i p.separations c.multipliers over))
    (over_sum Q (λ s. s.left) p.separations c.multipliers i (at_from_all Q (λ s. s.left) i p.separations c.multipliers over)) in
    let sums = net-is p.separations (numerators_over Q c.multipliers) point.m i (length-numerators_over Q c.multipliers ∙ v.multipliers_as_long)
    (λ k h. numerator-is Q c.multipliers k (point.m k) (dens c.multipliers low) over (v.multipliers k h)) in
    same_from_over Q (gradient p c.places i) (minus (arriving p.separations c.multipliers i) (leaving p.separations c.multipliers i))
    (pos (2 * w) *ℤ (point.x i -ℤ d *ℤ pos Q)) rest.above
    (subst (λ t. IsOver Q (minus (arriving p.separations c.multipliers i) (leaving p.separations c.multipliers i)) t)
    (sums ∙ (sym (rest.state.level i b) ∙ turned (pos 2 *ℤ pos w) (point.x i) point.q d Q rest.over)) e)
    u
  where
    turned : (u x q d : ℤ) (Q : ℕ) → q ≡ pos Q → u *ℤ (x -ℤ q *ℤ d) ≡ u *ℤ (x -ℤ d *ℤ pos Q)
    turned u x q d Q e = ap (λ t. u *ℤ (x -ℤ t *ℤ d)) e ∙ ap (λ t. u *ℤ (x -ℤ t)) (*ℤ_comm (pos Q) d)

-- ---- the rules of one separation

-- the ends of a separation are variables
ends : (p : Problem) → stated.IsBounded p → (k : ℕ) → k < length p.separations → IsSeparation (length p.desired) (separation_at p.separations k)
ends p bounded k b = bounded.sound k no_separation b

kept-at : (p : Problem) (point : Point) (Q : ℕ) (c : Certificate) → stated.IsBounded p → 0 < Q → point.q ≡ pos Q → HasValues p point Q c
    → (k : ℕ) → k < length p.separations → IsKept p point k → Satisfies (placement_of c.places).places (placement_of c.places).denominator (separation_at p.separations k)
kept-at p point Q c bounded above over v k b kept =
    let s = separation_at p.separations k in
    let e = ends p bounded k b in
    satisfies c.places s Q (point.x s.left) (point.x s.right) above (dens c.places (recursion_from_All IsLowest c.places v.places_lowest)) (v.places s.left e.left) (v.places s.right e.right) s.exact
    (subst (λ q. MatchBool s.exact ((q *ℤ s.gap) -ℤ (point.x s.right -ℤ point.x s.left) ≡ pos 0) (((q *ℤ s.gap) -ℤ (point.x s.right -ℤ point.x s.left)) ≤ℤ pos 0)) over kept)

signed-at : (p : Problem) (active : List ℕ) (point : Point) (Q : ℕ) (c : Certificate) → IsRest p active point Q → HasValues p point Q c
    → (k : ℕ) → k < length p.separations → IsSigned (separation_at p.separations k) (fraction_at c.multipliers k)
signed-at p active point Q c rest v k b = by_case (separation_at p.separations k).exact refl
  where
    by_case : (exact : Bool) → (separation_at p.separations k).exact ≡ exact → OnFalse exact (pos 0 ≤ℤ (fraction_at c.multipliers k).num)
    by_case true e = tt
    by_case false e = sign_ge Q (fraction_at c.multipliers k).den (fraction_at c.multipliers k).num (point.m k) rest.above (sym (v.multipliers k b)) (rest.signs k b e)

complementary-at : (p : Problem) (active : List ℕ) (point : Point) (Q : ℕ) (c : Certificate) → stated.IsBounded p → IsRest p active point Q → HasValues p point Q c
    → (k : ℕ) → k < length p.separations → IsComplementary (placement_of c.places) (separation_at p.separations k) (fraction_at c.multipliers k)
complementary-at p active point Q c bounded rest v k b = by_case (rest.state.within k b)
  where
    level : (x g : ℤ) → x ≡ g → g -ℤ x ≡ pos 0
    level x g e = omega (arith, ints, e)

    by_case : (point.m k ≡ pos 0) ⊎ Active active k → IsComplementary (placement_of c.places) (separation_at p.separations k) (fraction_at c.multipliers k)
    by_case (inl e) = inl (sign_zero Q (fraction_at c.multipliers k).den (fraction_at c.multipliers k).num (point.m k) rest.above (sym (v.multipliers k b)) e)
    by_case (inr on) =
        let s = separation_at p.separations k in
        let e = ends p bounded k b in
        inr (satisfies c.places s Q (point.x s.left) (point.x s.right) rest.above (dens c.places (recursion_from_All IsLowest c.places v.places_lowest)) (v.places s.left e.left) (v.places s.right e.right) true
        (level (point.x s.right -ℤ point.x s.left) (pos Q *ℤ s.gap) (rest.state.tight k b on ∙ ap (λ q. q *ℤ s.gap) rest.over)))

-- the six rules
pub certifies : (p : Problem) (active : List ℕ) (point : Point) (Q : ℕ) (c : Certificate) → stated.IsBounded p → IsRest p active point Q
    → ((k : ℕ) → k < length p.separations → IsKept p point k) → HasValues p point Q c → IsCertificate p c
certifies p active point Q c bounded rest kept v = record {
  form = record {
    places_as_long = v.places_as_long;
    multipliers_as_long = v.multipliers_as_long;
    places_lowest = v.places_lowest;
    multipliers_lowest = v.multipliers_lowest;
    near = v.near;
  };
  primal = λ k d b. subst (λ s. Satisfies (placement_of c.places).places (placement_of c.places).denominator s) (get_or_default p.separations k no_separation d b)
      (kept-at p point Q c bounded rest.above rest.over v k b (kept k b));
  stationarity = λ i b. balanced p active point Q c rest v i b;
  dual = zip_from_index IsSigned p.separations c.multipliers no_separation (whole (pos 0)) v.multipliers_as_long (λ k b. signed-at p active point Q c rest v k b);
  slackness = zip_from_index (IsComplementary (placement_of c.places)) p.separations c.multipliers no_separation (whole (pos 0)) v.multipliers_as_long
      (λ k b. complementary-at p active point Q c bounded rest v k b);
  denominators = zip_from_index (DividesBothEnds c.places) p.separations c.multipliers no_separation (whole (pos 0)) v.multipliers_as_long v.divides;
}
