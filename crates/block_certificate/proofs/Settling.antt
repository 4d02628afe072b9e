-- One block after another is settled, and the fractions are brought into lowest terms.
use Rattle.std.proofs.Common.{◌≡◌, ◌≢◌, ℕ, zero, suc, ◌+◌, ◌*◌, ◌<◌, ◌≤◌, ◌^◌, ℤ, pos, ◌*ℤ◌, nat_abs, List, [], ◌∷◌, length, get_or, set, length-set, length-append, take, ◌++◌, replicate, negsuc, arith, refl, sym, ◌∙◌, ap, subst, Bool, true, false, eqb, eqb-true, ◌⊎◌, inl, inr, Result, Ok, Err, IfOk}
use Rattle.std.specs.declared.alloc.AllocError.{AllocError}
use Rattle.std.specs.Int.{◌∣◌}
use Rattle.std.proofs.lemmas.Int.{ints}
use Rattle.std.proofs.lemmas.Bool.{eqb-false, false≢true}
use Rattle.std.proofs.lemmas.List.{get_or_default, get_or-set_same, get_or-set_other, take_more}
use Rattle.std.proofs.Math.Nat.{mul-le-mul_right}
use lib.IntN.{*ℤ-zero}
use Rattle.units.specs.Problem.{Problem}
use Rattle.units.specs.Problem as stated
use Rattle.frac128.specs.Fraction.{Fraction, whole, ◌≈◌, IsLowest}
use Rattle.frac128.proofs.Ring.{dif_of, difs, dif_same}
use Rattle.multiplier_check.specs.declared.certificate.Certificate.{Certificate}
use Rattle.multiplier_check.specs.Certificate.{fraction_at, IsNear, DividesBothEnds, IsCertificate}
use Rattle.multiplier_check.proofs.Over.{IsOver, cancel}
use Rattle.multiplier_check.proofs.Slacks.{sign_zero}
use Rattle.std.proofs.lemmas.List.{length-replicate}
use Rattle.solver_law.specs.State.{Point}
use Rattle.block_sums.specs.declared.legs.Leg.{Leg}
use Rattle.units.specs.Separation.{no_separation, separation_at}
use Rattle.block_sums.specs.Legs.{leg_at, variable_at}
use Rattle.block_sums.specs.Solving.{Active, IsResting}
use Rattle.block_sums.proofs.Rooted.{IsVia}
use Rattle.block_sums.specs.Rest.{IsRest, IsSolved}
use Rattle.block_certificate.specs.Values.{IsPlace, IsWholeWith, IsMultiplier, place_of_leg, multiplier_of_leg, IsOfLeg, IsOfVariable, AreWritten, ArePlaced, AreSettled, is_placed, IsReduced, AreReduced}
use Rattle.block_certificate.proofs.LowestTerms.{lowest-divides}
use Rattle.block_certificate.proofs.Certifying.{HasValues, certifies}
use Rattle.block_certificate.proofs.Resting.{IsSwept, of-variable, of-leg, left-in-block}

-- ---- one write

-- what a write leaves at a place
set-cases : {A : Type 0} (xs : List A) (k i : ℕ) (v d : A) → k < length xs
    → ((i ≡ k) × (get_or (set xs k v) i d ≡ v)) ⊎ ((i ≢ k) × (get_or (set xs k v) i d ≡ get_or xs i d))
set-cases xs k i v d b = by_case (eqb i k) refl
  where
    by_case : (t : Bool) → eqb i k ≡ t → ((i ≡ k) × (get_or (set xs k v) i d ≡ v)) ⊎ ((i ≢ k) × (get_or (set xs k v) i d ≡ get_or xs i d))
    by_case true e = inl (eqb-true i k e, subst (λ n. get_or (set xs k v) n d ≡ v) (sym (eqb-true i k e)) (get_or-set_same xs k v d b))
    by_case false e = inr (eqb-false i k e, get_or-set_other xs k i v d (eqb-false i k e))

below-or : (i j : ℕ) → i < j + 1 → (i ≡ j) ⊎ (i < j)
below-or i j h = by_case (eqb i j) refl
  where
    by_case : (t : Bool) → eqb i j ≡ t → (i ≡ j) ⊎ (i < j)
    by_case true e = inl (eqb-true i j e)
    by_case false e = let ne = eqb-false i j e in inr (omega arith)

leg-again : (legs : List Leg) (weights moments : List ℤ) (k : ℕ) (f g : Fraction) → g ≡ f → IsOfLeg legs weights moments k f → IsOfLeg legs weights moments k g
leg-again legs weights moments k f g e w = subst (λ t. IsOfLeg legs weights moments k t) (sym e) w

-- the multiplier of one leg more is written
pub written-more : (legs : List Leg) (weights moments : List ℤ) (j : ℕ) (old now new : List Fraction) → 0 < j → j < length legs → (leg_at legs j).sep < length old
    → AreWritten legs weights moments j old now → new ≡ set now (leg_at legs j).sep (multiplier_of_leg legs weights moments j) → AreWritten legs weights moments (j + 1) old new
written-more legs weights moments j old now new above b room h e =
    subst (λ t. AreWritten legs weights moments (j + 1) old t) (sym e) (record {
      as_long = length-set now (leg_at legs j).sep (multiplier_of_leg legs weights moments j) ∙ h.as_long;
      kept = λ i. kept i (at i);
      written = λ i a c. later i a (below-or i j c) (at (leg_at legs i).sep);
    })
  where
    at : (i : ℕ) → ((i ≡ (leg_at legs j).sep) × (fraction_at (set now (leg_at legs j).sep (multiplier_of_leg legs weights moments j)) i ≡ multiplier_of_leg legs weights moments j))
        ⊎ ((i ≢ (leg_at legs j).sep) × (fraction_at (set now (leg_at legs j).sep (multiplier_of_leg legs weights moments j)) i ≡ fraction_at now i))
    at i = set-cases now (leg_at legs j).sep i (multiplier_of_leg legs weights moments j) (whole (pos 0)) (subst (λ n. (leg_at legs j).sep < n) (sym h.as_long) room)

    kept : (i : ℕ) → ((i ≡ (leg_at legs j).sep) × (fraction_at (set now (leg_at legs j).sep (multiplier_of_leg legs weights moments j)) i ≡ multiplier_of_leg legs weights moments j))
        ⊎ ((i ≢ (leg_at legs j).sep) × (fraction_at (set now (leg_at legs j).sep (multiplier_of_leg legs weights moments j)) i ≡ fraction_at now i))
        → (fraction_at (set now (leg_at legs j).sep (multiplier_of_leg legs weights moments j)) i ≡ fraction_at old i)
        ⊎ IsOfLeg legs weights moments i (fraction_at (set now (leg_at legs j).sep (multiplier_of_leg legs weights moments j)) i)
    kept i (inl w) = inr (record { number = j; above = above; among = b; over = sym w.0; value = w.1 })
    kept i (inr w) = before (h.kept i)
      where
        before : (fraction_at now i ≡ fraction_at old i) ⊎ IsOfLeg legs weights moments i (fraction_at now i)
            → (fraction_at (set now (leg_at legs j).sep (multiplier_of_leg legs weights moments j)) i ≡ fraction_at old i)
            ⊎ IsOfLeg legs weights moments i (fraction_at (set now (leg_at legs j).sep (multiplier_of_leg legs weights moments j)) i)
        before (inl q) = inl (w.1 ∙ q)
        before (inr l) = inr (leg-again legs weights moments i (fraction_at now i) _ w.1 l)

    later : (i : ℕ) → 0 < i → (i ≡ j) ⊎ (i < j)
        → (((leg_at legs i).sep ≡ (leg_at legs j).sep) × (fraction_at (set now (leg_at legs j).sep (multiplier_of_leg legs weights moments j)) (leg_at legs i).sep ≡ multiplier_of_leg legs weights moments j))
        ⊎ (((leg_at legs i).sep ≢ (leg_at legs j).sep) × (fraction_at (set now (leg_at legs j).sep (multiplier_of_leg legs weights moments j)) (leg_at legs i).sep ≡ fraction_at now (leg_at legs i).sep))
        → IsOfLeg legs weights moments (leg_at legs i).sep (fraction_at (set now (leg_at legs j).sep (multiplier_of_leg legs weights moments j)) (leg_at legs i).sep)
    later i a c (inl w) = record { number = j; above = above; among = b; over = sym w.0; value = w.1 }
    later i a (inl q) (inr w) = absurd (w.0 (ap (λ n. (leg_at legs n).sep) q))
    later i a (inr c) (inr w) = leg-again legs weights moments (leg_at legs i).sep (fraction_at now (leg_at legs i).sep) _ w.1 (h.written i a c)

pub written-none : (legs : List Leg) (weights moments : List ℤ) (old : List Fraction) → AreWritten legs weights moments 1 old old
written-none legs weights moments old = record { as_long = refl; kept = λ k. inl refl; written = λ j a b. absurd (omega (arith, a, b)) }

-- the place of one leg more is written
pub placed-more : (legs : List Leg) (weights moments : List ℤ) (j : ℕ) (old now new : List Fraction) (before meanwhile after : List Bool) → j < length legs
    → variable_at legs j < length old → variable_at legs j < length before
    → ArePlaced legs weights moments j old now before meanwhile → new ≡ set now (variable_at legs j) (place_of_leg legs weights moments j) → after ≡ set meanwhile (variable_at legs j) true
    → ArePlaced legs weights moments (j + 1) old new before after
placed-more legs weights moments j old now new before meanwhile after b room space h e f =
    subst (λ t. ArePlaced legs weights moments (j + 1) old t before after) (sym e) (subst (λ t. ArePlaced legs weights moments (j + 1) old (set now (variable_at legs j) (place_of_leg legs weights moments j)) before t) (sym f) (record {
      as_long = length-set now (variable_at legs j) (place_of_leg legs weights moments j) ∙ h.as_long;
      as_many = length-set meanwhile (variable_at legs j) true ∙ h.as_many;
      kept = λ i. kept i (set-cases now (variable_at legs j) i (place_of_leg legs weights moments j) (whole (pos 0)) (subst (λ n. variable_at legs j < n) (sym h.as_long) room)) (mark i);
      written = λ i c. later i (below-or i j c) (mark (variable_at legs i));
    }))
  where
    mark : (i : ℕ) → ((i ≡ variable_at legs j) × (is_placed (set meanwhile (variable_at legs j) true) i ≡ true)) ⊎ ((i ≢ variable_at legs j) × (is_placed (set meanwhile (variable_at legs j) true) i ≡ is_placed meanwhile i))
    mark i = set-cases meanwhile (variable_at legs j) i true false (subst (λ n. variable_at legs j < n) (sym h.as_many) space)

    kept : (i : ℕ) → ((i ≡ variable_at legs j) × (fraction_at (set now (variable_at legs j) (place_of_leg legs weights moments j)) i ≡ place_of_leg legs weights moments j))
        ⊎ ((i ≢ variable_at legs j) × (fraction_at (set now (variable_at legs j) (place_of_leg legs weights moments j)) i ≡ fraction_at now i))
        → ((i ≡ variable_at legs j) × (is_placed (set meanwhile (variable_at legs j) true) i ≡ true)) ⊎ ((i ≢ variable_at legs j) × (is_placed (set meanwhile (variable_at legs j) true) i ≡ is_placed meanwhile i))
        → ((fraction_at (set now (variable_at legs j) (place_of_leg legs weights moments j)) i ≡ fraction_at old i) × (is_placed (set meanwhile (variable_at legs j) true) i ≡ is_placed before i))
        ⊎ IsOfVariable legs weights moments i (fraction_at (set now (variable_at legs j) (place_of_leg legs weights moments j)) i)
    kept i (inl w) m = inr (record { number = j; among = b; reaches = sym w.0; value = w.1 })
    kept i (inr w) (inl m) = absurd (w.0 m.0)
    kept i (inr w) (inr m) = earlier (h.kept i)
      where
        earlier : ((fraction_at now i ≡ fraction_at old i) × (is_placed meanwhile i ≡ is_placed before i)) ⊎ IsOfVariable legs weights moments i (fraction_at now i)
            → ((fraction_at (set now (variable_at legs j) (place_of_leg legs weights moments j)) i ≡ fraction_at old i) × (is_placed (set meanwhile (variable_at legs j) true) i ≡ is_placed before i))
            ⊎ IsOfVariable legs weights moments i (fraction_at (set now (variable_at legs j) (place_of_leg legs weights moments j)) i)
        earlier (inl q) = inl (w.1 ∙ q.0, m.1 ∙ q.1)
        earlier (inr l) = inr (subst (λ t. IsOfVariable legs weights moments i t) (sym w.1) l)

    later : (i : ℕ) → (i ≡ j) ⊎ (i < j)
        → ((variable_at legs i ≡ variable_at legs j) × (is_placed (set meanwhile (variable_at legs j) true) (variable_at legs i) ≡ true))
        ⊎ ((variable_at legs i ≢ variable_at legs j) × (is_placed (set meanwhile (variable_at legs j) true) (variable_at legs i) ≡ is_placed meanwhile (variable_at legs i)))
        → is_placed (set meanwhile (variable_at legs j) true) (variable_at legs i) ≡ true
    later i c (inl w) = w.1
    later i (inl q) (inr w) = absurd (w.0 (ap (λ n. variable_at legs n) q))
    later i (inr c) (inr w) = w.1 ∙ h.written i c

pub placed-none : (legs : List Leg) (weights moments : List ℤ) (old : List Fraction) (before : List Bool) → ArePlaced legs weights moments 0 old old before before
placed-none legs weights moments old before = record { as_long = refl; as_many = refl; kept = λ i. inl (refl, refl); written = λ j b. absurd (omega (arith, b)) }

-- ---- one block

-- the block of the next variable is settled
pub settles : (p : Problem) (active : List ℕ) (count : ℕ) (legs : List Leg) (weights moments : List ℤ) (places places' multipliers multipliers' : List Fraction) (placed placed' : List Bool)
    → IsSwept p active count legs weights moments → AreSettled p active count places multipliers placed
    → AreWritten legs weights moments (length legs) multipliers multipliers' → ArePlaced legs weights moments (length legs) places places' placed placed'
    → AreSettled p active (count + 1) places' multipliers' placed'
settles p active count legs weights moments places places' multipliers multipliers' placed placed' swept h m x = record {
  places_as_long = x.as_long ∙ h.places_as_long;
  multipliers_as_long = m.as_long ∙ h.multipliers_as_long;
  placed_as_long = x.as_many ∙ h.placed_as_long;
  all = λ i b. all i (below-or i count b);
  known = λ i on. known i on (x.kept i);
  quiet = λ k. quiet k (m.kept k);
  loud = λ k on there. loud k on there (m.kept k) (x.kept (separation_at p.separations k).left);
}
  where
    still : (i : ℕ) → is_placed placed i ≡ true → is_placed placed' i ≡ true
    still i on = by_case (x.kept i)
      where
        by_case : ((fraction_at places' i ≡ fraction_at places i) × (is_placed placed' i ≡ is_placed placed i)) ⊎ IsOfVariable legs weights moments i (fraction_at places' i) → is_placed placed' i ≡ true
        by_case (inl q) = q.1 ∙ on
        by_case (inr w) = subst (λ v. is_placed placed' v ≡ true) w.reaches (x.written w.number w.among)

    all : (i : ℕ) → (i ≡ count) ⊎ (i < count) → is_placed placed' i ≡ true
    all i (inl e) = subst (λ v. is_placed placed' v ≡ true) (swept.sums.tree.tree.first ∙ sym e) (x.written 0 swept.sums.tree.tree.some)
    all i (inr b) = still i (h.all i b)

    known : (i : ℕ) → is_placed placed' i ≡ true
        → ((fraction_at places' i ≡ fraction_at places i) × (is_placed placed' i ≡ is_placed placed i)) ⊎ IsOfVariable legs weights moments i (fraction_at places' i)
        → IsPlace p active i (fraction_at places' i)
    known i on (inl q) = subst (λ f. IsPlace p active i f) (sym q.0) (h.known i (sym q.1 ∙ on))
    known i on (inr w) = of-variable p active count legs weights moments swept i (fraction_at places' i) w

    quiet : (k : ℕ) → (fraction_at multipliers' k ≡ fraction_at multipliers k) ⊎ IsOfLeg legs weights moments k (fraction_at multipliers' k)
        → (fraction_at multipliers' k ≡ whole (pos 0)) ⊎ IsMultiplier p active k (fraction_at multipliers' k)
    quiet k (inl e) = subst (λ f. (f ≡ whole (pos 0)) ⊎ IsMultiplier p active k f) (sym e) (h.quiet k)
    quiet k (inr w) = inr (of-leg p active count legs weights moments swept k (fraction_at multipliers' k) w)

    via : (k : ℕ) → IsVia legs k → IsMultiplier p active k (fraction_at multipliers' k)
    via k w = of-leg p active count legs weights moments swept k (fraction_at multipliers' k)
        (subst (λ s. IsOfLeg legs weights moments s (fraction_at multipliers' s)) w.2 (m.written (suc w.0) (omega arith) w.1))

    loud : (k : ℕ) → Active active k → is_placed placed' (separation_at p.separations k).left ≡ true
        → (fraction_at multipliers' k ≡ fraction_at multipliers k) ⊎ IsOfLeg legs weights moments k (fraction_at multipliers' k)
        → ((fraction_at places' (separation_at p.separations k).left ≡ fraction_at places (separation_at p.separations k).left) × (is_placed placed' (separation_at p.separations k).left ≡ is_placed placed (separation_at p.separations k).left))
        ⊎ IsOfVariable legs weights moments (separation_at p.separations k).left (fraction_at places' (separation_at p.separations k).left)
        → IsMultiplier p active k (fraction_at multipliers' k)
    loud k on there (inr w) x = of-leg p active count legs weights moments swept k (fraction_at multipliers' k) w
    loud k on there (inl e) (inl q) = subst (λ f. IsMultiplier p active k f) (sym e) (h.loud k on (sym q.1 ∙ there))
    loud k on there (inl e) (inr w) = via k (left-in-block p active count legs weights moments swept k on (record { number = w.number; among = w.among; is = w.reaches }))

-- the variable was settled with an earlier block
pub settled-before : (p : Problem) (active : List ℕ) (count : ℕ) (places multipliers : List Fraction) (placed : List Bool)
    → AreSettled p active count places multipliers placed → is_placed placed count ≡ true → AreSettled p active (count + 1) places multipliers placed
settled-before p active count places multipliers placed h on = record {
  places_as_long = h.places_as_long;
  multipliers_as_long = h.multipliers_as_long;
  placed_as_long = h.placed_as_long;
  all = λ i b. all i (below-or i count b);
  known = h.known;
  quiet = h.quiet;
  loud = h.loud;
}
  where
    all : (i : ℕ) → (i ≡ count) ⊎ (i < count) → is_placed placed i ≡ true
    all i (inl e) = subst (λ v. is_placed placed v ≡ true) (sym e) on
    all i (inr b) = h.all i b

replicate-at : {A : Type 0} (n i : ℕ) (a d : A) → (get_or (replicate n a) i d ≡ a) ⊎ (get_or (replicate n a) i d ≡ d)
replicate-at zero i a d = inr refl
replicate-at (suc n) zero a d = inl refl
replicate-at (suc n) (suc i) a d = replicate-at n i a d

-- nothing is settled yet
pub settled-none : (p : Problem) (active : List ℕ) (places multipliers : List Fraction) (placed : List Bool)
    → places ≡ replicate (length p.desired) (whole (pos 0)) → multipliers ≡ replicate (length p.separations) (whole (pos 0)) → placed ≡ replicate (length p.desired) false
    → AreSettled p active 0 places multipliers placed
settled-none p active places multipliers placed e f g = record {
  places_as_long = ap length e ∙ length-replicate (length p.desired) (whole (pos 0));
  multipliers_as_long = ap length f ∙ length-replicate (length p.separations) (whole (pos 0));
  placed_as_long = ap length g ∙ length-replicate (length p.desired) false;
  all = λ i b. absurd (omega (arith, b));
  known = λ i on. absurd (false≢true (sym (none i) ∙ on));
  quiet = λ k. inl (ap (λ t. fraction_at t k) f ∙ zero_at k (replicate-at (length p.separations) k (whole (pos 0)) (whole (pos 0))));
  loud = λ k on there. absurd (false≢true (sym (none (separation_at p.separations k).left) ∙ there));
}
  where
    zero_at : (k : ℕ) → (fraction_at (replicate (length p.separations) (whole (pos 0))) k ≡ whole (pos 0)) ⊎ (fraction_at (replicate (length p.separations) (whole (pos 0))) k ≡ whole (pos 0))
        → fraction_at (replicate (length p.separations) (whole (pos 0))) k ≡ whole (pos 0)
    zero_at k (inl e) = e
    zero_at k (inr e) = e

    none : (i : ℕ) → is_placed placed i ≡ false
    none i = ap (λ t. is_placed t i) g ∙ by_case (replicate-at (length p.desired) i false false)
      where
        by_case : (get_or (replicate (length p.desired) false) i false ≡ false) ⊎ (get_or (replicate (length p.desired) false) i false ≡ false) → get_or (replicate (length p.desired) false) i false ≡ false
        by_case (inl e) = e
        by_case (inr e) = e

-- ---- lowest terms

-- a value over Q stays one in lowest terms
reduced-over : (f g : Fraction) (x q : ℤ) (Q : ℕ) → 0 < f.den → q ≡ pos Q → pos f.den *ℤ x ≡ q *ℤ f.num → g ≈ f → IsOver Q g x
reduced-over f g x q Q above over is same =
    cancel f.den (x *ℤ pos g.den) (g.num *ℤ pos Q) above
    (turn x (pos g.den) (pos f.den) ∙ (ap (λ t. t *ℤ pos g.den) (is ∙ ap (λ t. t *ℤ f.num) over)
    ∙ (turn' (pos Q) f.num (pos g.den) ∙ (ap (λ t. t *ℤ pos Q) (sym same) ∙ turn'' g.num (pos f.den) (pos Q)))))
  where
    turn : (x g f : ℤ) → (x *ℤ g) *ℤ f ≡ (f *ℤ x) *ℤ g
    turn x g f = rw (dif_of x, dif_of g, dif_of f) (simp difs (dif_same _ _ _ _ (omega arith)))

    turn' : (q n g : ℤ) → (q *ℤ n) *ℤ g ≡ (n *ℤ g) *ℤ q
    turn' q n g = rw (dif_of q, dif_of n, dif_of g) (simp difs (dif_same _ _ _ _ (omega arith)))

    turn'' : (n f q : ℤ) → (n *ℤ f) *ℤ q ≡ (n *ℤ q) *ℤ f
    turn'' n f q = rw (dif_of n, dif_of f, dif_of q) (simp difs (dif_same _ _ _ _ (omega arith)))

abs-times : (a : ℤ) (n : ℕ) → nat_abs (a *ℤ pos n) ≡ nat_abs a * n
abs-times (pos a) n = refl
abs-times (negsuc a) n = omega (arith, ints)

-- what is near stays near
reduced-near : (f g : Fraction) → 0 < f.den → nat_abs f.num ≤ 2 ^ 31 * f.den → g ≈ f → IsNear g
reduced-near f g above near same = smaller (nat_abs g.num) (2 ^ 31 * g.den) f.den above (crossed (nat_abs g.num) (nat_abs f.num) f.den g.den (2 ^ 31) (sym (abs-times g.num f.den) ∙ ap nat_abs same ∙ abs-times f.num g.den) near)
  where
    crossed : (n m f g k : ℕ) → n * f ≡ m * g → m ≤ k * f → n * f ≤ k * g * f
    crossed n m f g k e h = let t = mul-le-mul_right g h in omega (arith, e, t)

    smaller : (a b d : ℕ) → 0 < d → a * d ≤ b * d → a ≤ b
    smaller a b d above h = grind (arith)

-- the denominator of a multiplier divides that of a place where the multiplier is whole with the place
divides-at : (p : Problem) (active : List ℕ) (k i : ℕ) (a : Point) (Q : ℕ) (m x : Fraction) → 0 < Q → a.q ≡ pos Q → IsResting p active a → IsWholeWith p active k i
    → IsLowest m → IsOver Q m (a.m k) → IsOver Q x (a.x i) → m.den ∣ x.den
divides-at p active k i a Q m x above over rest with_it low at_m at_x =
    let w = with_it a Q above over rest x.den x.num at_x in
    lowest-divides m x.den w.0 low (cancel Q (m.num *ℤ pos x.den) (w.0 *ℤ pos m.den) above
    (turn m.num (pos x.den) (pos Q) ∙ (ap (λ t. t *ℤ pos x.den) (sym at_m) ∙ (turn (a.m k) (pos m.den) (pos x.den) ∙ (ap (λ t. t *ℤ pos m.den) w.1 ∙ turn w.0 (pos Q) (pos m.den))))))
  where
    turn : (a b c : ℤ) → (a *ℤ b) *ℤ c ≡ (a *ℤ c) *ℤ b
    turn a b c = rw (dif_of a, dif_of b, dif_of c) (simp difs (dif_same _ _ _ _ (omega arith)))

pub reduced-push : (fs now : List Fraction) (i : ℕ) (f g : Fraction) (new : List Fraction) → i < length fs → f ≡ fraction_at fs i → g ≈ f → IsLowest g → AreReduced (take i fs) now → new ≡ now ++ g ∷ [] → AreReduced (take (i + 1) fs) new
reduced-push fs now i f g new b e same low h is =
    subst (λ t. AreReduced t new) (sym (take_more fs i (whole (pos 0)) b)) (subst (λ t. AreReduced (take i fs ++ fraction_at fs i ∷ []) t) (sym is)
    (more (take i fs) now (fraction_at fs i) g (subst (λ t. g ≈ t) e same) low h))
  where
    at : (xs ys : List Fraction) (f g : Fraction) (k : ℕ) → length ys ≡ length xs → g ≈ f → IsLowest g → ((i : ℕ) → i < length xs → IsReduced (fraction_at xs i) (fraction_at ys i)) → k < length (xs ++ f ∷ [])
        → IsReduced (fraction_at (xs ++ f ∷ []) k) (fraction_at (ys ++ g ∷ []) k)
    at [] [] f g zero l same low h b = record { same = same; lowest = low }
    at [] [] f g (suc k) l same low h b = absurd (omega (arith, b))
    at [] (y ∷ ys) f g k l same low h b = absurd (omega (arith, l))
    at (x ∷ xs) [] f g k l same low h b = absurd (omega (arith, l))
    at (x ∷ xs) (y ∷ ys) f g zero l same low h b = h 0 (omega arith)
    at (x ∷ xs) (y ∷ ys) f g (suc k) l same low h b = at xs ys f g k (omega (arith, l)) same low (λ i c. h (suc i) (omega (arith, c))) (omega (arith, b))

    more : (xs ys : List Fraction) (f g : Fraction) → g ≈ f → IsLowest g → AreReduced xs ys → AreReduced (xs ++ f ∷ []) (ys ++ g ∷ [])
    more xs ys f g same low h = record {
      as_long = length-append ys (g ∷ []) ∙ (ap (λ n. n + 1) h.as_long ∙ sym (length-append xs (f ∷ [])));
      each = λ k b. at xs ys f g k h.as_long same low h.each b;
    }

-- ---- the certificate

-- all variables are settled: the fractions in lowest terms are those of any state at rest
pub values : (p : Problem) (active : List ℕ) (places multipliers places' multipliers' : List Fraction) (placed : List Bool) (a : Point) (Q : ℕ) → stated.IsBounded p
    → IsRest p active a Q → AreSettled p active (length p.desired) places multipliers placed → AreReduced places places' → AreReduced multipliers multipliers'
    → HasValues p a Q (record { places = places'; multipliers = multipliers' })
values p active places multipliers places' multipliers' placed a Q bounded rest h x m = record {
  places_as_long = x.as_long ∙ h.places_as_long;
  multipliers_as_long = m.as_long ∙ h.multipliers_as_long;
  places_lowest = λ i d b. subst (λ f. IsLowest f) (get_or_default places' i (whole (pos 0)) d b) (x.each i (subst (λ n. i < n) x.as_long b)).lowest;
  multipliers_lowest = λ k d b. subst (λ f. IsLowest f) (get_or_default multipliers' k (whole (pos 0)) d b) (m.each k (subst (λ n. k < n) m.as_long b)).lowest;
  near = λ i d b. subst (λ f. IsNear f) (get_or_default places' i (whole (pos 0)) d b) (near i (subst (λ n. i < n) (x.as_long ∙ h.places_as_long) b));
  places = place;
  multipliers = λ k b. multiplier k b (rest.state.within k b);
  divides = λ k b. divides k b (rest.state.within k b);
}
  where
    among : (i : ℕ) → i < length p.desired → i < length places
    among i b = subst (λ n. i < n) (sym h.places_as_long) b

    amid : (k : ℕ) → k < length p.separations → k < length multipliers
    amid k b = subst (λ n. k < n) (sym h.multipliers_as_long) b

    near : (i : ℕ) → i < length p.desired → IsNear (fraction_at places' i)
    near i b = let w = h.known i (h.all i b) in reduced-near (fraction_at places i) (fraction_at places' i) w.above w.near (x.each i (among i b)).same

    place : (i : ℕ) → i < length p.desired → IsOver Q (fraction_at places' i) (a.x i)
    place i b = let w = h.known i (h.all i b) in reduced-over (fraction_at places i) (fraction_at places' i) (a.x i) a.q Q w.above rest.over (w.is a rest.state) (x.each i (among i b)).same

    active-multiplier : (k : ℕ) → k < length p.separations → Active active k → IsMultiplier p active k (fraction_at multipliers k)
    active-multiplier k b on = h.loud k on (h.all (separation_at p.separations k).left (bounded.sound k no_separation b).left)

    right : (k : ℕ) → k < length p.separations → IsMultiplier p active k (fraction_at multipliers k) → IsOver Q (fraction_at multipliers' k) (a.m k)
    right k b w = reduced-over (fraction_at multipliers k) (fraction_at multipliers' k) (a.m k) a.q Q w.above rest.over (w.is a rest.state) (m.each k (amid k b)).same

    none : (k : ℕ) → a.m k ≡ pos 0 → pos 1 *ℤ a.m k ≡ a.q *ℤ pos 0
    none k e = ap (λ t. pos 1 *ℤ t) e ∙ sym (*ℤ-zero a.q)

    multiplier : (k : ℕ) → k < length p.separations → (a.m k ≡ pos 0) ⊎ Active active k → IsOver Q (fraction_at multipliers' k) (a.m k)
    multiplier k b (inr on) = right k b (active-multiplier k b on)
    multiplier k b (inl e) = by_case (h.quiet k)
      where
        by_case : (fraction_at multipliers k ≡ whole (pos 0)) ⊎ IsMultiplier p active k (fraction_at multipliers k) → IsOver Q (fraction_at multipliers' k) (a.m k)
        by_case (inr w) = right k b w
        by_case (inl z) = reduced-over (whole (pos 0)) (fraction_at multipliers' k) (a.m k) a.q Q (omega arith) rest.over (none k e) (subst (λ f. fraction_at multipliers' k ≈ f) z (m.each k (amid k b)).same)

    divides : (k : ℕ) → k < length p.separations → (a.m k ≡ pos 0) ⊎ Active active k → DividesBothEnds places' (separation_at p.separations k) (fraction_at multipliers' k)
    divides k b (inl e) = inl (sign_zero Q (fraction_at multipliers' k).den (fraction_at multipliers' k).num (a.m k) rest.above (sym (multiplier k b (inl e))) e)
    divides k b (inr on) =
        let w = active-multiplier k b on in
        let s = separation_at p.separations k in
        let e = bounded.sound k no_separation b in
        let low = (m.each k (amid k b)).lowest in
        inr (
          divides-at p active k s.left a Q (fraction_at multipliers' k) (fraction_at places' s.left) rest.above rest.over rest.state w.left low (right k b w) (place s.left e.left),
          divides-at p active k s.right a Q (fraction_at multipliers' k) (fraction_at places' s.right) rest.above rest.over rest.state w.right low (right k b w) (place s.right e.right),
        )

-- more than all variables are settled
settled-enough : (p : Problem) (active : List ℕ) (n : ℕ) (places multipliers : List Fraction) (placed : List Bool) → length p.desired ≤ n → AreSettled p active n places multipliers placed → AreSettled p active (length p.desired) places multipliers placed
settled-enough p active n places multipliers placed enough h = record {
  places_as_long = h.places_as_long;
  multipliers_as_long = h.multipliers_as_long;
  placed_as_long = h.placed_as_long;
  all = λ i b. h.all i (under i (length p.desired) n b enough);
  known = h.known;
  quiet = h.quiet;
  loud = h.loud;
}
  where
    under : (i m n : ℕ) → i < m → m ≤ n → i < n
    under i m n a b = omega arith

-- so they are a certificate where some state at rest solves the problem
pub certificate-is : (p : Problem) (active : List ℕ) (n : ℕ) (places multipliers : List Fraction) (placed : List Bool) (result : Result Certificate AllocError) → stated.IsBounded p
    → IsSolved p active → length p.desired ≤ n → AreSettled p active n places multipliers placed → IfOk result (λ c. AreReduced places c.places) → IfOk result (λ c. AreReduced multipliers c.multipliers)
    → IfOk result (IsCertificate p)
certificate-is p active n places multipliers placed (Err e) bounded solved enough h x m = tt
certificate-is p active n places multipliers placed (Ok c) bounded solved enough h x m =
    certifies p active solved.point solved.Q c bounded solved.rest solved.kept
    (values p active places multipliers c.places c.multipliers placed solved.point solved.Q bounded solved.rest (settled-enough p active n places multipliers placed enough h) x m)
