-- What the program's choice means for every state.
use Rattle.std.proofs.Common.{◌≡◌, ◌≢◌, ℕ, ◌<◌, ◌≤◌, ℤ, pos, neg_ℤ, ◌+ℤ◌, ◌-ℤ◌, ◌*ℤ◌, ◌<ℤ◌, ◌≤ℤ◌, nat_abs, List, length, arith, refl, sym, ap, ◌∙◌, false, subst, ◌⊎◌, inl, inr, rules, Option, None, Some}
use Rattle.std.specs.List.{All}
use Rattle.std.proofs.lemmas.Int.{ints}
use lib.IntN.{*ℤ-zero}
use Rattle.units.specs.declared.geometry.Sep.{Sep}
use Rattle.units.specs.Problem.{Problem, IsSeparation}
use Rattle.units.specs.Problem as stated
use Rattle.units.specs.Separation.{place_of}
use Rattle.solver_law.specs.Closing.{Holds}
use Rattle.solver_law.specs.State.{Point, IsState}
use Rattle.solver_law.specs.Forest.{With}
use Rattle.solver_law.proofs.Ring.{dif_of, dif_pos, difs, dif_same}
use Rattle.solver_law.proofs.Cut.{EndsBelow}
use Rattle.solver_law.proofs.Progress.{lack}
use Rattle.solver_law.proofs.Stops.{Weighs}
use Rattle.block_sums.specs.declared.legs.Leg.{Leg}
use Rattle.block_sums.specs.declared.stops.Threshold.{Threshold}
use Rattle.units.specs.Separation.{no_separation, separation_at}
use Rattle.block_sums.specs.Legs.{leg_at, IsReached}
use Rattle.block_sums.specs.Loads.{load_at}
use Rattle.block_sums.specs.Solving.{givens_of, Active, IsActive, IsSweep, AreMarks, TellsStates, rest_at, share_at}
use Rattle.block_sums.specs.Stops.{IsFalling, IsSmall, IsNoLater, IsOfLeg, IsFirst, IsClosingForce}
use Rattle.block_sums.proofs.Telling.{left-mark, right-mark}
use Rattle.block_sums.proofs.Soonest.{cross-trans}
use Rattle.block_sums.proofs.Rooted.{IsVia}
use Rattle.vpsc_solve.specs.Stops.{IsUnderWay, IsFeasible, IsStop, IsStopBetween, stop_within}
use Rattle.block_sums.specs.Rest.{exact_of}
use Rattle.std.specs.Prelude.{slice_index}
use Rattle.vpsc_solve.specs.declared.stops.Stop.{Stop}
use Rattle.vpsc_solve.specs.declared.stops.Stop.TheVariants.{Closes, Falls}
use Rattle.vpsc_solve.proofs.Stopping.{Law, GapLaw, IsLater, AreLater, fall-step, close-step}
use Rattle.solver_law.proofs.Signs.{times-above}
use Rattle.vpsc_solve.proofs.Directions.{GoesOn, IsViaOf, turning-goes, parting-goes, reached-on, disjoint}
use Rattle.vpsc_solve.proofs.Choosing.{law-of, all-later, via-or-not, via-later, none-falls}
use Rattle.vpsc_solve.proofs.Escape.{no-escape}

-- what a sweep gives
pub record IsLooked (p : Problem) (active : List ℕ) (v root : ℕ) (legs : List Leg) (weights moments marks : List ℤ) : Type 0 where
  pub sums : IsSweep p active root legs weights moments
  pub marked : AreMarks p v legs marks
  pub tells : TellsStates p active v legs weights moments marks
  pub heavy : pos 0 <ℤ load_at weights 0
  pub within : All (λ leg. leg.variable < length p.desired) legs

-- ---- the gap between two blocks

pub gap-law : (p : Problem) (active : List ℕ) (v : ℕ) (left right : List Leg) (lw lm lk rw_ rm rk : List ℤ) (force : Threshold) → IsSeparation (length p.desired) (separation_at p.separations v)
    → IsLooked p active v (separation_at p.separations v).left left lw lm lk → IsLooked p active v (separation_at p.separations v).right right rw_ rm rk
    → (IsReached left (separation_at p.separations v).right → ⊥) → (IsReached right (separation_at p.separations v).left → ⊥)
    → IsClosingForce (separation_at p.separations v).gap (load_at lw 0) (load_at lm 0) (load_at rw_ 0) (load_at rm 0) force
    → GapLaw (givens_of p) (Active active) v (nat_abs ((pos 2 *ℤ load_at lw 0) *ℤ load_at rw_ 0)) force.rest force.fall
gap-law p active v left right lw lm lk rw_ rm rk force sep hl hr outl outr f = record {
  above = size _ weighty;
  down = subst (λ z. pos 0 <ℤ z) (sym f.fall) (sum-above (load_at lw 0) (load_at rw_ 0) hl.heavy hr.heavy);
  law = λ a st. ap (λ z. z *ℤ lack (givens_of p) a v) (sym (whole _ weighty))
      ∙ (arrange (load_at lw 0) (load_at rw_ 0) (load_at lm 0) (load_at rm 0) ((givens_of p).g v) a.q (a.m v) (a.x ((givens_of p).l v)) (a.x ((givens_of p).r v)) (place-left a st) (place-right a st)
      ∙ both a.q (a.m v) (sym f.rest) (sym f.fall));
}
  where
    size : (z : ℤ) → pos 0 <ℤ z → 0 < nat_abs z
    size z h = omega (arith, ints, h)

    whole : (z : ℤ) → pos 0 <ℤ z → z ≡ pos (nat_abs z)
    whole z h = omega (arith, ints, h)

    sum-above : (u w : ℤ) → pos 0 <ℤ u → pos 0 <ℤ w → pos 0 <ℤ (u +ℤ w)
    sum-above u w h g = omega (arith, ints, h, g)

    weighty : pos 0 <ℤ ((pos 2 *ℤ load_at lw 0) *ℤ load_at rw_ 0)
    weighty = times-above (pos 2 *ℤ load_at lw 0) (load_at rw_ 0) (times-above (pos 2) (load_at lw 0) (omega (arith, ints)) hl.heavy) hr.heavy

    both : (q m : ℤ) {u u' w w' : ℤ} → u ≡ u' → w ≡ w' → q *ℤ u -ℤ m *ℤ w ≡ q *ℤ u' -ℤ m *ℤ w'
    both q m e g = rw (e, g) refl

    root : (W S o q f k : ℤ) (X : ℤ) → (pos 2 *ℤ W) *ℤ X ≡ q *ℤ (pos 2 *ℤ (S +ℤ W *ℤ o)) +ℤ f *ℤ k → o ≡ pos 0 → (pos 2 *ℤ W) *ℤ X ≡ q *ℤ (pos 2 *ℤ S) +ℤ f *ℤ k
    root W S o q f k X e z =
        let n = ap (λ t. W *ℤ t) z ∙ *ℤ-zero W in
        let s : S +ℤ W *ℤ o ≡ S = omega (arith, ints, n) in
        e ∙ ap (λ t. q *ℤ (pos 2 *ℤ t) +ℤ f *ℤ k) s

    place-left : (a : Point) → IsState (givens_of p) (Active active) (With (Active active) v) a → (pos 2 *ℤ load_at lw 0) *ℤ a.x ((givens_of p).l v) ≡ a.q *ℤ (pos 2 *ℤ load_at lm 0) +ℤ a.m v *ℤ neg_ℤ (pos 1)
    place-left a st =
        root (load_at lw 0) (load_at lm 0) (leg_at left 0).offset a.q (a.m v) (neg_ℤ (pos 1)) (a.x ((givens_of p).l v))
        (subst (λ k. (pos 2 *ℤ load_at lw 0) *ℤ a.x ((givens_of p).l v) ≡ a.q *ℤ (pos 2 *ℤ (load_at lm 0 +ℤ load_at lw 0 *ℤ (leg_at left 0).offset)) +ℤ a.m v *ℤ k) (left-mark p active v left lk sep hl.sums.tree hl.marked outl)
        (subst (λ i. (pos 2 *ℤ load_at lw 0) *ℤ a.x i ≡ a.q *ℤ (pos 2 *ℤ (load_at lm 0 +ℤ load_at lw 0 *ℤ (leg_at left 0).offset)) +ℤ a.m v *ℤ load_at lk 0) hl.sums.tree.tree.first (hl.tells.places 0 hl.sums.tree.tree.some a st)))
        hl.sums.tree.tree.home

    place-right : (a : Point) → IsState (givens_of p) (Active active) (With (Active active) v) a → (pos 2 *ℤ load_at rw_ 0) *ℤ a.x ((givens_of p).r v) ≡ a.q *ℤ (pos 2 *ℤ load_at rm 0) +ℤ a.m v *ℤ pos 1
    place-right a st =
        root (load_at rw_ 0) (load_at rm 0) (leg_at right 0).offset a.q (a.m v) (pos 1) (a.x ((givens_of p).r v))
        (subst (λ k. (pos 2 *ℤ load_at rw_ 0) *ℤ a.x ((givens_of p).r v) ≡ a.q *ℤ (pos 2 *ℤ (load_at rm 0 +ℤ load_at rw_ 0 *ℤ (leg_at right 0).offset)) +ℤ a.m v *ℤ k) (right-mark p active v right rk hr.sums.tree hr.marked outr)
        (subst (λ i. (pos 2 *ℤ load_at rw_ 0) *ℤ a.x i ≡ a.q *ℤ (pos 2 *ℤ (load_at rm 0 +ℤ load_at rw_ 0 *ℤ (leg_at right 0).offset)) +ℤ a.m v *ℤ load_at rk 0) hr.sums.tree.tree.first (hr.tells.places 0 hr.sums.tree.tree.some a st)))
        hr.sums.tree.tree.home

    split : (L R g q x y : ℤ) → ((pos 2 *ℤ L) *ℤ R) *ℤ (q *ℤ g -ℤ (y -ℤ x)) ≡ (q *ℤ (pos 2 *ℤ ((g *ℤ L) *ℤ R)) -ℤ L *ℤ ((pos 2 *ℤ R) *ℤ y)) +ℤ R *ℤ ((pos 2 *ℤ L) *ℤ x)
    split L R g q x y = rw (dif_of L, dif_of R, dif_of g, dif_of q, dif_of x, dif_of y, dif_pos 2) (simp difs (dif_same _ _ _ _ (omega arith)))

    merge : (L R S T G q f : ℤ) → (q *ℤ (pos 2 *ℤ G) -ℤ L *ℤ (q *ℤ (pos 2 *ℤ T) +ℤ f)) +ℤ R *ℤ (q *ℤ (pos 2 *ℤ S) +ℤ neg_ℤ f) ≡ q *ℤ (pos 2 *ℤ ((S *ℤ R +ℤ G) -ℤ T *ℤ L)) -ℤ f *ℤ (L +ℤ R)
    merge L R S T G q f = rw (dif_of L, dif_of R, dif_of S, dif_of T, dif_of G, dif_of q, dif_of f, dif_pos 2) (simp difs (dif_same _ _ _ _ (omega arith)))

    times_one : (f : ℤ) → f *ℤ pos 1 ≡ f
    times_one f = rw (dif_of f, dif_pos 1) (simp difs (dif_same _ _ _ _ (omega arith)))

    times_less : (f : ℤ) → f *ℤ neg_ℤ (pos 1) ≡ neg_ℤ f
    times_less f = turned f (pos 1) ∙ ap neg_ℤ (times_one f)
      where
        turned : (f u : ℤ) → f *ℤ neg_ℤ u ≡ neg_ℤ (f *ℤ u)
        turned f u = rw (dif_of f, dif_of u) (simp difs (dif_same _ _ _ _ (omega arith)))

    arrange : (L R S T g q f x y : ℤ) → (pos 2 *ℤ L) *ℤ x ≡ q *ℤ (pos 2 *ℤ S) +ℤ f *ℤ neg_ℤ (pos 1) → (pos 2 *ℤ R) *ℤ y ≡ q *ℤ (pos 2 *ℤ T) +ℤ f *ℤ pos 1
        → ((pos 2 *ℤ L) *ℤ R) *ℤ (q *ℤ g -ℤ (y -ℤ x)) ≡ q *ℤ (pos 2 *ℤ ((S *ℤ R +ℤ (g *ℤ L) *ℤ R) -ℤ T *ℤ L)) -ℤ f *ℤ (L +ℤ R)
    arrange L R S T g q f x y ex ey =
        split L R g q x y ∙ (ap (λ t. (q *ℤ (pos 2 *ℤ ((g *ℤ L) *ℤ R)) -ℤ L *ℤ t) +ℤ R *ℤ ((pos 2 *ℤ L) *ℤ x)) (ey ∙ ap (λ t. q *ℤ (pos 2 *ℤ T) +ℤ t) (times_one f))
        ∙ (ap (λ t. (q *ℤ (pos 2 *ℤ ((g *ℤ L) *ℤ R)) -ℤ L *ℤ (q *ℤ (pos 2 *ℤ T) +ℤ f)) +ℤ R *ℤ t) (ex ∙ ap (λ t. q *ℤ (pos 2 *ℤ S) +ℤ t) (times_less f)) ∙ merge L R S T ((g *ℤ L) *ℤ R) q f))

-- ---- one block

-- what is asked of the problem
pub record IsAsked (p : Problem) (active : List ℕ) (v : ℕ) : Type 0 where
  pub bounded : stated.IsBounded p
  pub forest : IsActive p active
  pub below : v < length p.separations
  pub off : Active active v → ⊥

pub ends-below : (p : Problem) → stated.IsBounded p → EndsBelow (givens_of p)
ends-below p h k b = let s = h.sound k no_separation b in (s.left, s.right)

pub weighs : (p : Problem) → stated.IsBounded p → Weighs (givens_of p) (λ i. slice_index p.weights i)
weighs p h = record { whole = λ i. refl; above = λ i b. one (slice_index p.weights i) (h.weighted i 0 (let e = h.as_long in omega (arith, b, e))).0 }
  where
    one : (n : ℕ) → 1 ≤ n → 0 < n
    one n h = omega (arith, h)

-- the separation of a falling leg
leg-sep : (p : Problem) (active : List ℕ) (v root : ℕ) (legs : List Leg) (weights moments marks : List ℤ) → IsAsked p active v → IsLooked p active v root legs weights moments marks → (j : ℕ) → IsFalling p.separations legs weights marks j
    → Active active (leg_at legs j).sep × ((leg_at legs j).sep < length p.separations) × ((leg_at legs j).sep ≢ v)
leg-sep p active v root legs weights moments marks asked looked j f =
    let on = (looked.sums.tree.tree.leads j f.above f.among).on in
    (on, subst (λ i. i < length p.separations) on.2 (asked.forest.below on.0 (leg_at legs j).sep on.1), λ e. asked.off (subst (λ k. Active active k) e on))

-- within one block the first threshold is dropped
pub stop-within : (p : Problem) (active : List ℕ) (v : ℕ) (legs : List Leg) (weights moments marks : List ℤ) (t : Threshold) → IsAsked p active v → IsLooked p active v (separation_at p.separations v).left legs weights moments marks
    → IsReached legs (separation_at p.separations v).right → IsFirst p.separations legs weights moments marks (length legs) None (Some t) → IsStop p active v (Falls t.sep)
stop-within p active v legs weights moments marks t asked looked there first = by_case first.1
  where
    by_case : (None ≡ Some t) ⊎ IsOfLeg p.separations legs weights moments marks (length legs) t → IsStop p active v (Falls t.sep)
    by_case (inl e) = absurd (search (e, rules))
    by_case (inr leg) =
        let sep = leg-sep p active v (separation_at p.separations v).left legs weights moments marks asked looked leg.number leg.falling in
        let goes = turning-goes p active v legs asked.forest asked.below asked.off looked.sums.tree there in
        let law = law-of p active v (leg_at legs leg.number).sep (load_at weights 0) (rest_at legs weights moments leg.number) (share_at legs weights marks leg.number) looked.heavy (looked.tells.multipliers leg.number leg.falling.above leg.falling.among) in
        subst (λ k. IsStop p active v (Falls k)) (sym leg.threshold.sep) (
          sep.0,
          leg.falling.loose,
          λ bound F way. fall-step (givens_of p) (λ i. slice_index p.weights i) (exact_of p) (Active active) v (leg_at legs leg.number).sep bound F way.point goes.0 way.Q (nat_abs (load_at weights 0))
              (rest_at legs weights moments leg.number) (share_at legs weights marks leg.number) (weighs p asked.bounded) (ends-below p asked.bounded) asked.below sep.1 sep.2 leg.falling.loose way.closing goes.1.direction law leg.falling.falls
              (all-later p active (IsVia legs) v goes.0 (rest_at legs weights moments leg.number) (neg_ℤ (share_at legs weights marks leg.number)) goes.1 (λ k. via-or-not legs k looked.sums.tree.tree.some)
              (via-later p active v legs weights moments marks goes.0 (rest_at legs weights moments leg.number) (neg_ℤ (share_at legs weights marks leg.number)) looked.tells looked.heavy goes.1.direction
              (λ j b f. renamed (neg_ℤ (share_at legs weights marks j)) (rest_at legs weights moments j) leg.threshold.rest leg.threshold.fall (first.2 j b f))))
              (inl goes.3),
        )
      where
        renamed : {r f r' f' : ℤ} (x y : ℤ) → r ≡ r' → f ≡ f' → (r *ℤ x) ≤ℤ (y *ℤ f) → (r' *ℤ x) ≤ℤ (y *ℤ f')
        renamed x y e g h = rw (← e, ← g) h

-- a placement that satisfies the separations, by index
holds-of : (p : Problem) → (h : IsFeasible p) → Holds (givens_of p) (exact_of p) (λ i. place_of h.places i) h.denominator
holds-of p h = record { above = h.above; holds = λ k b. h.satisfied k no_separation b }

-- within one block something falls, where a placement satisfies the separations
pub never-stuck : (p : Problem) (active : List ℕ) (v : ℕ) (legs : List Leg) (weights moments marks : List ℤ) (bound : ℤ) (F : ℕ) → IsAsked p active v → IsLooked p active v (separation_at p.separations v).left legs weights moments marks
    → IsReached legs (separation_at p.separations v).right → IsFirst p.separations legs weights moments marks (length legs) None None → IsFeasible p → IsUnderWay p (Active active) v bound F → ⊥
never-stuck p active v legs weights moments marks bound F asked looked there first feasible way =
    let goes = turning-goes p active v legs asked.forest asked.below asked.off looked.sums.tree there in
    no-escape (givens_of p) (exact_of p) (Active active) v way.point goes.0 way.Q feasible.denominator (λ i. place_of feasible.places i) (ends-below p asked.bounded) asked.below way.closing.over (holds-of p feasible) way.closing.state way.closing.missing
    goes.1.direction.state goes.1.direction.still goes.2 goes.1.direction.up
    (none-falls p active v legs weights moments marks goes.0 looked.tells looked.heavy goes.1 looked.sums.tree.tree.some first.1)

-- ---- two blocks

-- what was looked at on both sides
pub record AreLooked (p : Problem) (active : List ℕ) (v : ℕ) (left : List Leg) (lw lm lk : List ℤ) (right : List Leg) (rw_ rm rk : List ℤ) : Type 0 where
  pub asked : IsAsked p active v
  pub on_left : IsLooked p active v (separation_at p.separations v).left left lw lm lk
  pub on_right : IsLooked p active v (separation_at p.separations v).right right rw_ rm rk
  pub out : IsReached left (separation_at p.separations v).right → ⊥

-- no leg of a block falls before the force
abbrev pub IsBefore : Problem → List Leg → List ℤ → List ℤ → List ℤ → ℤ → ℤ → Type 0
IsBefore p legs weights moments marks rest0 fall0 =
    (j : ℕ) → j < length legs → IsFalling p.separations legs weights marks j → (rest0 *ℤ neg_ℤ (share_at legs weights marks j)) ≤ℤ (rest_at legs weights moments j *ℤ fall0)

side-later : (p : Problem) (active : List ℕ) (v : ℕ) (left : List Leg) (lw lm lk : List ℤ) (right : List Leg) (rw_ rm rk : List ℤ) (b : Point) (rest0 fall0 : ℤ) → AreLooked p active v left lw lm lk right rw_ rm rk
    → GoesOn (givens_of p) (Active active) (IsViaOf left right) v b → IsBefore p left lw lm lk rest0 fall0 → IsBefore p right rw_ rm rk rest0 fall0 → AreLater (givens_of p) (Active active) (exact_of p) v b rest0 fall0
side-later p active v left lw lm lk right rw_ rm rk b rest0 fall0 h goes bl br = all-later p active (IsViaOf left right) v b rest0 fall0 goes (λ k. decide (via-or-not left k h.on_left.sums.tree.tree.some) (via-or-not right k h.on_right.sums.tree.tree.some)) near
  where
    decide : {A B : Type 0} → A ⊎ (A → ⊥) → B ⊎ (B → ⊥) → (A ⊎ B) ⊎ (A ⊎ B → ⊥)
    decide (inl a) any = inl (inl a)
    decide (inr na) (inl b) = inl (inr b)
    decide (inr na) (inr nb) = inr (λ ab. neither na nb ab)
      where
        neither : {A B : Type 0} → (A → ⊥) → (B → ⊥) → A ⊎ B → ⊥
        neither na nb (inl a) = na a
        neither na nb (inr b) = nb b

    near : (k : ℕ) → IsViaOf left right k → exact_of p k ≡ false → (pos 0 ≤ℤ b.m k) ⊎ IsLater (givens_of p) (Active active) v rest0 fall0 k
    near k (inl w) loose = via-later p active v left lw lm lk b rest0 fall0 h.on_left.tells h.on_left.heavy goes.direction bl k w loose
    near k (inr w) loose = via-later p active v right rw_ rm rk b rest0 fall0 h.on_right.tells h.on_right.heavy goes.direction br k w loose

far-apart : (p : Problem) (active : List ℕ) (v : ℕ) (left : List Leg) (lw lm lk : List ℤ) (right : List Leg) (rw_ rm rk : List ℤ) → AreLooked p active v left lw lm lk right rw_ rm rk → IsReached right (separation_at p.separations v).left → ⊥
far-apart p active v left lw lm lk right rw_ rm rk h r =
    disjoint p active (separation_at p.separations v).left (separation_at p.separations v).right left right h.asked.forest h.on_left.sums.tree h.on_right.sums.tree h.out (separation_at p.separations v).left
    (record { number = 0; among = h.on_left.sums.tree.tree.some; is = h.on_left.sums.tree.tree.first }) r

goes-apart : (p : Problem) (active : List ℕ) (v : ℕ) (left : List Leg) (lw lm lk : List ℤ) (right : List Leg) (rw_ rm rk : List ℤ) → AreLooked p active v left lw lm lk right rw_ rm rk → (b : Point) × GoesOn (givens_of p) (Active active) (IsViaOf left right) v b
goes-apart p active v left lw lm lk right rw_ rm rk h =
    parting-goes p active v left right h.asked.bounded h.asked.forest h.asked.below h.asked.off h.on_left.sums.tree h.on_right.sums.tree h.out h.on_left.within h.on_right.within

-- the force that closes the gap comes first, or at one force with another
pub stop-closes : (p : Problem) (active : List ℕ) (v : ℕ) (left : List Leg) (lw lm lk : List ℤ) (right : List Leg) (rw_ rm rk : List ℤ) (force : Threshold) → AreLooked p active v left lw lm lk right rw_ rm rk
    → IsClosingForce (separation_at p.separations v).gap (load_at lw 0) (load_at lm 0) (load_at rw_ 0) (load_at rm 0) force
    → IsBefore p left lw lm lk force.rest force.fall → IsBefore p right rw_ rm rk force.rest force.fall → IsStop p active v Closes
stop-closes p active v left lw lm lk right rw_ rm rk force h f bl br = (
  λ j. h.out (reached-on p active (separation_at p.separations v).left left h.asked.forest h.on_left.sums.tree (separation_at p.separations v).left (separation_at p.separations v).right
      (record { number = 0; among = h.on_left.sums.tree.tree.some; is = h.on_left.sums.tree.tree.first }) j),
  λ bound F large way.
      let goes = goes-apart p active v left lw lm lk right rw_ rm rk h in
      close-step (givens_of p) (λ i. slice_index p.weights i) (exact_of p) (Active active) v bound F way.point goes.0 way.Q (nat_abs ((pos 2 *ℤ load_at lw 0) *ℤ load_at rw_ 0)) force.rest force.fall
      (weighs p h.asked.bounded) (ends-below p h.asked.bounded) h.asked.below large way.closing goes.1.direction
      (gap-law p active v left right lw lm lk rw_ rm rk force (h.asked.bounded.sound v no_separation h.asked.below) h.on_left h.on_right h.out (far-apart p active v left lw lm lk right rw_ rm rk h) f)
      (side-later p active v left lw lm lk right rw_ rm rk goes.0 force.rest force.fall h goes.1 bl br),
)

-- a threshold of one of the two blocks comes first
pub stop-falls : (p : Problem) (active : List ℕ) (v : ℕ) (left : List Leg) (lw lm lk : List ℤ) (right : List Leg) (rw_ rm rk : List ℤ) (force : Threshold) (k W : ℕ) (rest share : ℤ) → AreLooked p active v left lw lm lk right rw_ rm rk
    → IsClosingForce (separation_at p.separations v).gap (load_at lw 0) (load_at lm 0) (load_at rw_ 0) (load_at rm 0) force
    → Active active k → k < length p.separations → k ≢ v → exact_of p k ≡ false → Law (givens_of p) (Active active) v k W rest share → share <ℤ pos 0
    → IsBefore p left lw lm lk rest (neg_ℤ share) → IsBefore p right rw_ rm rk rest (neg_ℤ share) → (rest *ℤ force.fall) <ℤ (force.rest *ℤ neg_ℤ share) → IsStop p active v (Falls k)
stop-falls p active v left lw lm lk right rw_ rm rk force k W rest share h f on among differ loose law falls bl br sooner = (
  on,
  loose,
  λ bound F way.
      let goes = goes-apart p active v left lw lm lk right rw_ rm rk h in
      fall-step (givens_of p) (λ i. slice_index p.weights i) (exact_of p) (Active active) v k bound F way.point goes.0 way.Q W rest share
      (weighs p h.asked.bounded) (ends-below p h.asked.bounded) h.asked.below among differ loose way.closing goes.1.direction law falls
      (side-later p active v left lw lm lk right rw_ rm rk goes.0 rest (neg_ℤ share) h goes.1 bl br)
      (inr (
        nat_abs ((pos 2 *ℤ load_at lw 0) *ℤ load_at rw_ 0),
        force.rest,
        force.fall,
        gap-law p active v left right lw lm lk rw_ rm rk force (h.asked.bounded.sound v no_separation h.asked.below) h.on_left h.on_right h.out (far-apart p active v left lw lm lk right rw_ rm rk h) f,
        sooner,
      )),
)

-- ---- both together

up-fall : (s : ℤ) → s <ℤ pos 0 → pos 0 <ℤ neg_ℤ s
up-fall s h = omega (arith, ints, h)

-- a force that is at most a threshold comes before what the threshold comes before
pub earlier-still : (p : Problem) (legs : List Leg) (weights moments marks : List ℤ) (f u : Threshold) → IsSmall f → IsSmall u → IsNoLater f u → IsBefore p legs weights moments marks u.rest u.fall → IsBefore p legs weights moments marks f.rest f.fall
earlier-still p legs weights moments marks f u sf su sooner before j b falling =
    cross-trans f.rest f.fall u.rest u.fall (rest_at legs weights moments j) (neg_ℤ (share_at legs weights marks j)) sf.above su.above (up-fall (share_at legs weights marks j) falling.falls) sooner (before j b falling)

-- the first of both comes before all of the left block
pub before-left : (p : Problem) (left : List Leg) (lw lm lk : List ℤ) (right : List Leg) (rw_ rm rk : List ℤ) (one : Option Threshold) (t : Threshold) → IsFirst p.separations left lw lm lk (length left) None one
    → IsFirst p.separations right rw_ rm rk (length right) one (Some t) → IsBefore p left lw lm lk t.rest t.fall
before-left p left lw lm lk right rw_ rm rk None t h g j b falling = absurd (h.1 j b falling)
before-left p left lw lm lk right rw_ rm rk (Some u) t h g j b falling = earlier-still p left lw lm lk t u g.0 h.0 (g.3 u refl) h.2 j b falling

-- no threshold: nothing falls in either block
pub none-left : (p : Problem) (left : List Leg) (lw lm lk : List ℤ) (right : List Leg) (rw_ rm rk : List ℤ) (one : Option Threshold) (rest fall : ℤ) → IsFirst p.separations left lw lm lk (length left) None one
    → IsFirst p.separations right rw_ rm rk (length right) one None → IsBefore p left lw lm lk rest fall
none-left p left lw lm lk right rw_ rm rk one rest fall h g j b falling = absurd ((subst (λ o. IsFirst p.separations left lw lm lk (length left) None o) g.0 h).1 j b falling)

pub stop-first : (p : Problem) (active : List ℕ) (v : ℕ) (left : List Leg) (lw lm lk : List ℤ) (right : List Leg) (rw_ rm rk : List ℤ) (force : Threshold) (one : Option Threshold) (t : Threshold) → AreLooked p active v left lw lm lk right rw_ rm rk
    → IsClosingForce (separation_at p.separations v).gap (load_at lw 0) (load_at lm 0) (load_at rw_ 0) (load_at rm 0) force
    → IsFirst p.separations left lw lm lk (length left) None one → IsFirst p.separations right rw_ rm rk (length right) one (Some t) → (t.rest *ℤ force.fall) <ℤ (force.rest *ℤ t.fall) → IsStop p active v (Falls t.sep)
stop-first p active v left lw lm lk right rw_ rm rk force one t h f hl hr sooner = by_case hr.1
  where
    none-some : {t : Threshold} → None ≡ Some t → ⊥
    none-some e = search (e, rules)

    of-left : IsOfLeg p.separations left lw lm lk (length left) t → IsStop p active v (Falls t.sep)
    of-left leg =
        let s = leg-sep p active v (separation_at p.separations v).left left lw lm lk h.asked h.on_left leg.number leg.falling in
        let law = law-of p active v (leg_at left leg.number).sep (load_at lw 0) (rest_at left lw lm leg.number) (share_at left lw lk leg.number) h.on_left.heavy (h.on_left.tells.multipliers leg.number leg.falling.above leg.falling.among) in
        subst (λ k. IsStop p active v (Falls k)) (sym leg.threshold.sep)
        (stop-falls p active v left lw lm lk right rw_ rm rk force (leg_at left leg.number).sep (nat_abs (load_at lw 0)) (rest_at left lw lm leg.number) (share_at left lw lk leg.number) h f s.0 s.1 s.2 leg.falling.loose law leg.falling.falls
        (moved p left lw lm lk leg.threshold.rest leg.threshold.fall (before-left p left lw lm lk right rw_ rm rk one t hl hr)) (moved p right rw_ rm rk leg.threshold.rest leg.threshold.fall hr.2) (turned leg.threshold.rest leg.threshold.fall sooner))
      where
        moved : (p : Problem) (legs : List Leg) (w m k : List ℤ) {r f r' f' : ℤ} → r ≡ r' → f ≡ f' → IsBefore p legs w m k r f → IsBefore p legs w m k r' f'
        moved p legs w m k e g h = rw (← e, ← g) h

        turned : {r u r' u' : ℤ} → r ≡ r' → u ≡ u' → (r *ℤ force.fall) <ℤ (force.rest *ℤ u) → (r' *ℤ force.fall) <ℤ (force.rest *ℤ u')
        turned e g h = rw (← e, ← g) h

    of-right : IsOfLeg p.separations right rw_ rm rk (length right) t → IsStop p active v (Falls t.sep)
    of-right leg =
        let s = leg-sep p active v (separation_at p.separations v).right right rw_ rm rk h.asked h.on_right leg.number leg.falling in
        let law = law-of p active v (leg_at right leg.number).sep (load_at rw_ 0) (rest_at right rw_ rm leg.number) (share_at right rw_ rk leg.number) h.on_right.heavy (h.on_right.tells.multipliers leg.number leg.falling.above leg.falling.among) in
        subst (λ k. IsStop p active v (Falls k)) (sym leg.threshold.sep)
        (stop-falls p active v left lw lm lk right rw_ rm rk force (leg_at right leg.number).sep (nat_abs (load_at rw_ 0)) (rest_at right rw_ rm leg.number) (share_at right rw_ rk leg.number) h f s.0 s.1 s.2 leg.falling.loose law leg.falling.falls
        (moved p left lw lm lk leg.threshold.rest leg.threshold.fall (before-left p left lw lm lk right rw_ rm rk one t hl hr)) (moved p right rw_ rm rk leg.threshold.rest leg.threshold.fall hr.2) (turned leg.threshold.rest leg.threshold.fall sooner))
      where
        moved : (p : Problem) (legs : List Leg) (w m k : List ℤ) {r f r' f' : ℤ} → r ≡ r' → f ≡ f' → IsBefore p legs w m k r f → IsBefore p legs w m k r' f'
        moved p legs w m k e g h = rw (← e, ← g) h

        turned : {r u r' u' : ℤ} → r ≡ r' → u ≡ u' → (r *ℤ force.fall) <ℤ (force.rest *ℤ u) → (r' *ℤ force.fall) <ℤ (force.rest *ℤ u')
        turned e g h = rw (← e, ← g) h

    by_case : (one ≡ Some t) ⊎ IsOfLeg p.separations right rw_ rm rk (length right) t → IsStop p active v (Falls t.sep)
    by_case (inr leg) = of-right leg
    by_case (inl e) = from-left (subst (λ o. IsFirst p.separations left lw lm lk (length left) None o) e hl).1
      where
        from-left : (None ≡ Some t) ⊎ IsOfLeg p.separations left lw lm lk (length left) t → IsStop p active v (Falls t.sep)
        from-left (inl q) = absurd (none-some q)
        from-left (inr leg) = of-left leg

-- ---- the answer of the program

pub within-answer : (p : Problem) (active : List ℕ) (v : ℕ) (legs : List Leg) (weights moments marks : List ℤ) (first : Option Threshold) (stop : Stop) → IsAsked p active v → IsLooked p active v (separation_at p.separations v).left legs weights moments marks
    → IsReached legs (separation_at p.separations v).right → IsFirst p.separations legs weights moments marks (length legs) None first → IsFeasible p → (bound : ℤ) × (F : ℕ) × IsUnderWay p (Active active) v bound F
    → stop ≡ stop_within first → IsStop p active v stop
within-answer p active v legs weights moments marks None stop asked looked there first feasible way e = absurd (never-stuck p active v legs weights moments marks way.0 way.1 asked looked there first feasible way.2)
within-answer p active v legs weights moments marks (Some t) stop asked looked there first feasible way e = subst (λ s. IsStop p active v s) (sym e) (stop-within p active v legs weights moments marks t asked looked there first)

pub between-answer : (p : Problem) (active : List ℕ) (v : ℕ) (left : List Leg) (lw lm lk : List ℤ) (right : List Leg) (rw_ rm rk : List ℤ) (force : Threshold) (one two : Option Threshold) (stop : Stop) → AreLooked p active v left lw lm lk right rw_ rm rk
    → IsClosingForce (separation_at p.separations v).gap (load_at lw 0) (load_at lm 0) (load_at rw_ 0) (load_at rm 0) force → IsSmall force
    → IsFirst p.separations left lw lm lk (length left) None one → IsFirst p.separations right rw_ rm rk (length right) one two → IsStopBetween two force stop → IsStop p active v stop
between-answer p active v left lw lm lk right rw_ rm rk force one None stop h f small hl hr e =
    subst (λ s. IsStop p active v s) (sym e) (stop-closes p active v left lw lm lk right rw_ rm rk force h f
    (none-left p left lw lm lk right rw_ rm rk one force.rest force.fall hl hr) (λ j b falling. absurd (hr.1 j b falling)))
between-answer p active v left lw lm lk right rw_ rm rk force one (Some t) stop h f small hl hr (inl e) =
    subst (λ s. IsStop p active v s) (sym e.0) (stop-first p active v left lw lm lk right rw_ rm rk force one t h f hl hr e.1)
between-answer p active v left lw lm lk right rw_ rm rk force one (Some t) stop h f small hl hr (inr e) =
    subst (λ s. IsStop p active v s) (sym e.0) (stop-closes p active v left lw lm lk right rw_ rm rk force h f
    (earlier-still p left lw lm lk force t small hr.0 e.1 (before-left p left lw lm lk right rw_ rm rk one t hl hr)) (earlier-still p right rw_ rm rk force t small hr.0 e.1 hr.2))

-- the separations of the legs of a sweep are some of the problem
pub legs-among : (p : Problem) (active : List ℕ) (root : ℕ) (legs : List Leg) (weights moments : List ℤ) (seps : List Sep) → IsActive p active → IsSweep p active root legs weights moments → seps ≡ p.separations
    → (j : ℕ) → 0 < j → j < length legs → (leg_at legs j).sep < length seps
legs-among p active root legs weights moments seps forest h e j a b =
    let on = (h.tree.tree.leads j a b).on in
    rw e (subst (λ i. i < length p.separations) on.2 (forest.below on.0 (leg_at legs j).sep on.1))
