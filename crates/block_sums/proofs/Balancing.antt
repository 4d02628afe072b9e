-- The multiplier that balances a side at the best place of its block.
use Rattle.std.proofs.Common.{◌≡◌, ℕ, ◌<◌, ℤ, pos, ◌+ℤ◌, ◌-ℤ◌, ◌*ℤ◌, List, [], ◌∷◌, map, nat_abs, ◌<ℤ◌, not, ◌==◌, arith, sym, ◌∙◌, ap, subst}
use lib.IntN.{*ℤ-zero, zero-*ℤ}
use Rattle.std.specs.List.{All}
use Rattle.std.proofs.lemmas.List.Elements.{All-filter}
use Rattle.units.specs.Problem.{Problem}
use Rattle.frac128.specs.Fraction.{Fraction, ◌≈◌, IsLowest, pos-nat_abs}
use Rattle.frac128.proofs.Ring.{dif_of, dif_pos, difs, dif_same}
use Rattle.units.specs.Separation.{separation_at}
use Rattle.block_sums.specs.Loads.{sum_of}
use Rattle.block_sums.specs.Blocks.{HasSums, IsPull, without, weight_at, desired_at}

-- what a side exerts, from its weight and its moment
exerted-is : (w d o : ℕ → ℤ) (N D : ℤ) (side : List ℕ)
    → sum_of (map (λ i. (pos 2 *ℤ w i) *ℤ (N +ℤ (o i -ℤ d i) *ℤ D)) side) ≡ pos 2 *ℤ (N *ℤ sum_of (map w side) -ℤ sum_of (map (λ i. (d i -ℤ o i) *ℤ w i) side) *ℤ D)
exerted-is w d o N D [] = nothing N D
  where
    nothing : (N D : ℤ) → pos 0 ≡ pos 2 *ℤ (N *ℤ pos 0 -ℤ pos 0 *ℤ D)
    nothing N D = sym (ap (λ t. pos 2 *ℤ (t -ℤ pos 0 *ℤ D)) (*ℤ-zero N) ∙ ap (λ t. pos 2 *ℤ (pos 0 -ℤ t)) (zero-*ℤ D))
exerted-is w d o N D (i ∷ is) =
    one (w i) (d i) (o i) N D (sum_of (map w is)) (sum_of (map (λ i. (d i -ℤ o i) *ℤ w i) is)) (sum_of (map (λ i. (pos 2 *ℤ w i) *ℤ (N +ℤ (o i -ℤ d i) *ℤ D)) is)) (exerted-is w d o N D is)
  where
    ring : (w d o N D W M : ℤ) → (pos 2 *ℤ w) *ℤ (N +ℤ (o -ℤ d) *ℤ D) +ℤ pos 2 *ℤ (N *ℤ W -ℤ M *ℤ D) ≡ pos 2 *ℤ (N *ℤ (w +ℤ W) -ℤ ((d -ℤ o) *ℤ w +ℤ M) *ℤ D)
    ring w d o N D W M = rw (dif_of w, dif_of d, dif_of o, dif_of N, dif_of D, dif_of W, dif_of M, dif_pos 2) (simp difs (dif_same _ _ _ _ (omega arith)))

    one : (w d o N D W M E : ℤ) → E ≡ pos 2 *ℤ (N *ℤ W -ℤ M *ℤ D) → (pos 2 *ℤ w) *ℤ (N +ℤ (o -ℤ d) *ℤ D) +ℤ E ≡ pos 2 *ℤ (N *ℤ (w +ℤ W) -ℤ ((d -ℤ o) *ℤ w +ℤ M) *ℤ D)
    one w d o N D W M E e = ap (λ t. (pos 2 *ℤ w) *ℤ (N +ℤ (o -ℤ d) *ℤ D) +ℤ t) e ∙ ring w d o N D W M

-- the pull in lowest terms
pub pull-is : (p : Problem) (active : List ℕ) (k : ℕ) (W : ℕ) (S w M : ℤ) (pull : Fraction)
    → HasSums p active (separation_at p.separations k).right (pos W) S → HasSums p (without active k) (separation_at p.separations k).right w M
    → pull ≈ record { num = pos 2 *ℤ (S *ℤ w -ℤ M *ℤ pos W); den = W } → IsLowest pull → IsPull p active k pull
pull-is p active k W S w M pull all side same low = record {
  weight = pos W;
  moment = S;
  sums = all;
  side = side.variables;
  block = side.block;
  offset = side.offset;
  offsets = side.offsets;
  is = same ∙ ap (λ t. t *ℤ pos pull.den) (in_sums ∙ sym (exerted-is (weight_at p) (desired_at p) side.offset S (pos W) side.variables));
  lowest = low;
}
  where
    in_sums : pos 2 *ℤ (S *ℤ w -ℤ M *ℤ pos W) ≡ pos 2 *ℤ (S *ℤ sum_of (map (weight_at p) side.variables) -ℤ sum_of (map (λ i. (desired_at p i -ℤ side.offset i) *ℤ weight_at p i) side.variables) *ℤ pos W)
    in_sums = ap (λ t. pos 2 *ℤ (S *ℤ t -ℤ M *ℤ pos W)) side.weighs ∙ ap (λ t. pos 2 *ℤ (S *ℤ sum_of (map (weight_at p) side.variables) -ℤ t *ℤ pos W)) side.wishes

-- as the program has it
pub pull-of : (p : Problem) (active : List ℕ) (k : ℕ) (weight S w M num : ℤ) (right : ℕ) (rest : List ℕ) (pull whole : Fraction) → pos 0 <ℤ weight → right ≡ (separation_at p.separations k).right → rest ≡ without active k
    → HasSums p active right weight S → HasSums p rest right w M → num ≡ pos 2 *ℤ (S *ℤ w -ℤ M *ℤ weight) → whole ≡ record { num = num; den = nat_abs weight } → pull ≈ whole → IsLowest pull → IsPull p active k pull
pull-of p active k weight S w M num right rest pull whole above end out all side value spelled same low =
    pull-is p active k (nat_abs weight) S w M pull
    (subst (λ t. HasSums p active (separation_at p.separations k).right t S) (sym size) (subst (λ v. HasSums p active v weight S) end all))
    (subst (λ l. HasSums p l (separation_at p.separations k).right w M) out (subst (λ v. HasSums p rest v w M) end side))
    (subst (λ f. pull ≈ f) (spelled ∙ ap (λ t. record { num = t; den = nat_abs weight }) (value ∙ ap (λ t. pos 2 *ℤ (S *ℤ w -ℤ M *ℤ t)) (sym size))) same) low
  where
    size : pos (nat_abs weight) ≡ weight
    size = pos-nat_abs weight above

-- what is left of a list lies below the same number
pub below-rest : (active rest : List ℕ) (k n : ℕ) → rest ≡ without active k → All (λ i. i < n) active → All (λ i. i < n) rest
below-rest active rest k n e h = subst (λ l. All (λ i. i < n) l) (sym e) (All-filter (λ other. not (other == k)) (λ i. i < n) active h)
