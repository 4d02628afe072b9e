-- The sums of a sweep say of every state where its variables stand, and what its separations exert.
use Rattle.std.proofs.Common.{◌≡◌, ◌≢◌, ℕ, zero, suc, ◌-◌, ◌<◌, ℤ, pos, neg_ℤ, ◌+ℤ◌, ◌-ℤ◌, ◌*ℤ◌, List, [], ◌∷◌, length, map, arith, refl, sym, ap, ◌∙◌, Bool, true, false, eqb, eqb-true, subst, if◌then◌else◌}
use Rattle.std.specs.List.{All}
use Rattle.std.proofs.lemmas.Bool.{eqb-false}
use Rattle.std.proofs.lemmas.Int.{ints}
use lib.IntN.{*ℤ-zero, *ℤ_comm}
use Rattle.units.specs.Problem.{Problem, IsSeparation}
use Rattle.solver_law.specs.State.{put_at, sum_to, Point}
use Rattle.solver_law.specs.Forest.{With}
use Rattle.solver_law.proofs.Ring.{dif_of, dif_pos, difs, dif_same}
use Rattle.solver_law.proofs.Sums.{put_at-same, put_at-other}
use Rattle.block_sums.specs.declared.legs.Leg.{Leg}
use Rattle.units.specs.Separation.{separation_at}
use Rattle.block_sums.specs.Legs.{no_leg, leg_at, variable_at, IsReached, IsBlockTree}
use Rattle.block_sums.specs.Loads.{load_at, hanging, sum_of, IsGathered, weight_of, moment_of, mark_of}
use Rattle.block_sums.specs.Solving.{givens_of, Active, IsActive, IsResting, IsSweep, AreMarks, TellsRest, TellsStates, HasPlace, HasMultiplier, rest_at, share_at}
use Rattle.block_sums.proofs.Trees.{IsRooted, Gathers}
use Rattle.block_sums.proofs.Pulls.{IsSummed, weight, moment, mark, but, but-other, places, root-place, pull-is, signed, share_of, rest-level, closing-level, no-marks}
use Rattle.block_sums.proofs.Rooted.{tree_of, rooted}
use Rattle.block_sums.proofs.Gathering.{root-carries}

hanging-sum : (legs : List Leg) (loads : List ℤ) (j : ℕ) → length loads ≡ length legs → hanging legs loads j ≡ sum_to (length legs) (λ c. put_at (leg_at legs c).parent (load_at loads c) j)
hanging-sum [] [] j e = refl
hanging-sum [] (x ∷ xs) j e = absurd (omega (arith, e))
hanging-sum (l ∷ ls) [] j e = absurd (omega (arith, e))
hanging-sum (l ∷ ls) (x ∷ xs) j e = ap (λ t. put_at l.parent x j +ℤ t) (hanging-sum ls xs j (omega (arith, e)))

load-map : (f : Leg → ℤ) (legs : List Leg) (j : ℕ) → j < length legs → load_at (map f legs) j ≡ f (leg_at legs j)
load-map f [] j h = absurd (omega (arith, h))
load-map f (l ∷ ls) zero h = refl
load-map f (l ∷ ls) (suc j) h = load-map f ls j (omega (arith, h))

-- from lists to functions
gathers : (f : Leg → ℤ) (own : ℕ → ℤ) (legs : List Leg) (loads : List ℤ) → 0 < length legs → ((j : ℕ) → j < length legs → f (leg_at legs j) ≡ own j) → IsGathered legs (map f legs) loads
    → Gathers (length legs - 1) (λ j. (leg_at legs j).parent) own (λ j. load_at loads j)
gathers f own [] loads some same h j b = absurd (omega (arith, some))
gathers f own (l ∷ ls) [] some same h j b = absurd (let e = h.as_long in omega (arith, e))
gathers f own (l ∷ ls) (x ∷ xs) some same h j b =
    let d : j < suc (length ls) = flat (length ls) j b in
    let long : length xs ≡ length ls = (let e = h.as_long in omega (arith, e)) in
    h.each j d ∙ (ap (λ t. t +ℤ hanging ls xs j) (load-map f (l ∷ ls) j d ∙ same j d)
    ∙ ap (λ t. own j +ℤ t) (hanging-sum ls xs j long ∙ ap (λ n. sum_to n (λ c. put_at (leg_at (l ∷ ls) (suc c)).parent (load_at (x ∷ xs) (suc c)) j)) (count (length ls))))
  where
    flat : (n j : ℕ) → j < suc (suc n - 1) → j < suc n
    flat n j b = omega (arith, b)

    count : (n : ℕ) → n ≡ suc n - 1
    count n = omega arith

-- the mark of a variable
mark-is : (l r i : ℕ) → l ≢ r → (if eqb i r then pos 1 else (if eqb i l then neg_ℤ (pos 1) else pos 0)) ≡ put_at r (pos 1) i -ℤ put_at l (pos 1) i
mark-is l r i apart = by_case (eqb i r) (eqb i l) refl refl
  where
    less : (u w x y : ℤ) → u ≡ x → w ≡ y → x -ℤ y ≡ u -ℤ w
    less u w x y e f = omega (arith, ints, e, f)

    by_case : (a b : Bool) → eqb i r ≡ a → eqb i l ≡ b → (if a then pos 1 else (if b then neg_ℤ (pos 1) else pos 0)) ≡ put_at r (pos 1) i -ℤ put_at l (pos 1) i
    by_case true b qa qb =
        let e = eqb-true i r qa in
        less (put_at r (pos 1) i) (put_at l (pos 1) i) (pos 1) (pos 0) (subst (λ t. put_at r (pos 1) t ≡ pos 1) (sym e) (put_at-same r (pos 1)))
        (put_at-other l i (pos 1) (λ s. apart (s ∙ e)))
    by_case false true qa qb =
        less (put_at r (pos 1) i) (put_at l (pos 1) i) (pos 0) (pos 1) (put_at-other r i (pos 1) (λ s. eqb-false i r qa (sym s)))
        (subst (λ t. put_at l (pos 1) t ≡ pos 1) (sym (eqb-true i l qb)) (put_at-same l (pos 1)))
    by_case false false qa qb =
        less (put_at r (pos 1) i) (put_at l (pos 1) i) (pos 0) (pos 0) (put_at-other r i (pos 1) (λ s. eqb-false i r qa (sym s))) (put_at-other l i (pos 1) (λ s. eqb-false i l qb (sym s)))

-- the sums of a sweep, with any marks
summed : (p : Problem) (active : List ℕ) (root : ℕ) (legs : List Leg) (weights moments : List ℤ) (own marks : ℕ → ℤ) → IsSweep p active root legs weights moments
    → Gathers (length legs - 1) (λ j. (leg_at legs j).parent) own marks → IsSummed (givens_of p) (tree_of legs) own (λ j. load_at weights j) (λ j. load_at moments j) marks
summed p active root legs weights moments own marks h g = record {
  by_weight = gathers (weight_of p) (weight (givens_of p) (tree_of legs)) legs weights h.tree.tree.some (λ j b. refl) h.by_weight;
  by_moment = gathers (moment_of p) (moment (givens_of p) (tree_of legs)) legs moments h.tree.tree.some (λ j b. refl) h.by_moment;
  by_mark = g;
}

up : (j n : ℕ) → j < n → j < suc (n - 1)
up j n b = omega (arith, b)

down : (c n : ℕ) → suc c < n → c < n - 1
down c n b = omega (arith, b)

-- a state at rest: the force is 0
pub telling-rest : (p : Problem) (active : List ℕ) (root : ℕ) (legs : List Leg) (weights moments : List ℤ) → IsActive p active
    → All (λ leg. leg.variable < length p.desired) legs → IsSweep p active root legs weights moments → TellsRest p active legs weights moments
telling-rest p active root legs weights moments forest within h = record {
  places = λ j b a st. place j b a st;
  multipliers = λ j s b a st. multiplier j s b a st;
}
  where
    tree : IsRooted (givens_of p) (Active active) (tree_of legs)
    tree = rooted p active root legs forest h.tree (λ j b. within j no_leg b)

    sums : IsSummed (givens_of p) (tree_of legs) (λ j. pos 0) (λ j. load_at weights j) (λ j. load_at moments j) (λ j. pos 0)
    sums = summed p active root legs weights moments (λ j. pos 0) (λ j. pos 0) h (no-marks (length legs - 1) (λ j. (leg_at legs j).parent))

    halved : (W X q S : ℤ) → (pos 2 *ℤ W) *ℤ X ≡ q *ℤ (pos 2 *ℤ S) +ℤ pos 0 → W *ℤ X ≡ q *ℤ S
    halved W X q S e =
        let a = out W X in
        let b = inn q S in
        omega (arith, ints, a, b, e)
      where
        out : (W X : ℤ) → (pos 2 *ℤ W) *ℤ X ≡ pos 2 *ℤ (W *ℤ X)
        out W X = rw (dif_of W, dif_of X, dif_pos 2) (simp difs (dif_same _ _ _ _ (omega arith)))

        inn : (q S : ℤ) → q *ℤ (pos 2 *ℤ S) ≡ pos 2 *ℤ (q *ℤ S)
        inn q S = rw (dif_of q, dif_of S, dif_pos 2) (simp difs (dif_same _ _ _ _ (omega arith)))

    ring : (W X q S o : ℤ) → W *ℤ X ≡ q *ℤ S → W *ℤ (X +ℤ q *ℤ o) ≡ q *ℤ (S +ℤ W *ℤ o)
    ring W X q S o e =
        let a = out W X q o in
        let b = inn q S W o in
        omega (arith, ints, a, b, e)
      where
        out : (W X q o : ℤ) → W *ℤ (X +ℤ q *ℤ o) ≡ W *ℤ X +ℤ q *ℤ (W *ℤ o)
        out W X q o = rw (dif_of W, dif_of X, dif_of q, dif_of o) (simp difs (dif_same _ _ _ _ (omega arith)))

        inn : (q S W o : ℤ) → q *ℤ (S +ℤ W *ℤ o) ≡ q *ℤ S +ℤ q *ℤ (W *ℤ o)
        inn q S W o = rw (dif_of q, dif_of S, dif_of W, dif_of o) (simp difs (dif_same _ _ _ _ (omega arith)))

    place : (j : ℕ) → j < length legs → (a : Point) → IsResting p active a → load_at weights 0 *ℤ a.x (variable_at legs j) ≡ a.q *ℤ (load_at moments 0 +ℤ load_at weights 0 *ℤ (leg_at legs j).offset)
    place j b a st =
        ap (λ y. load_at weights 0 *ℤ y) (places (givens_of p) (Active active) (Active active) (tree_of legs) a tree st j (up j (length legs) b))
        ∙ ring (load_at weights 0) (a.x (variable_at legs 0)) a.q (load_at moments 0) (leg_at legs j).offset
        (halved (load_at weights 0) (a.x (variable_at legs 0)) a.q (load_at moments 0)
        (root-place (givens_of p) (Active active) (tree_of legs) a (λ j. pos 0) a.m (pos 0) (λ j. load_at weights j) (λ j. load_at moments j) (λ j. pos 0) tree
        (rest-level (givens_of p) (Active active) (tree_of legs) a tree st) sums))

    multiplier : (j : ℕ) → 0 < j → j < length legs → (a : Point) → IsResting p active a → load_at weights 0 *ℤ a.m (leg_at legs j).sep ≡ a.q *ℤ rest_at legs weights moments j
    multiplier zero s b a st = absurd (omega (arith, s))
    multiplier (suc c) s b a st =
        less (load_at weights 0 *ℤ a.m (leg_at legs (suc c)).sep) (a.q *ℤ rest_at legs weights moments (suc c)) (signed (leg_at legs (suc c)).along (share_of (λ j. load_at weights j) (λ j. pos 0) (suc c))) (pull-is (givens_of p) (Active active) (tree_of legs) a (λ j. pos 0) a.m (pos 0) (λ j. load_at weights j) (λ j. load_at moments j) (λ j. pos 0) tree
        (rest-level (givens_of p) (Active active) (tree_of legs) a tree st) sums c (down c (length legs) b))
      where
        less : (W u s : ℤ) → W ≡ u +ℤ pos 0 *ℤ s → W ≡ u
        less W u s e = plain W u (pos 0 *ℤ s) e (*ℤ_comm (pos 0) s ∙ *ℤ-zero s)
          where
            plain : (W u z : ℤ) → W ≡ u +ℤ z → z ≡ pos 0 → W ≡ u
            plain W u z e f = omega (arith, ints, e, f)

-- a state while v is being closed: the force is its multiplier
pub telling : (p : Problem) (active : List ℕ) (v root : ℕ) (legs : List Leg) (weights moments marks : List ℤ) → IsActive p active → v < length p.separations → (Active active v → ⊥)
    → (separation_at p.separations v).left ≢ (separation_at p.separations v).right → All (λ leg. leg.variable < length p.desired) legs → IsSweep p active root legs weights moments → AreMarks p v legs marks → TellsStates p active v legs weights moments marks
telling p active v root legs weights moments marks forest below off apart within h marked = record {
  places = λ j b a st. place j b a st;
  multipliers = λ j s b a st. multiplier j s b a st;
}
  where
    tree : IsRooted (givens_of p) (Active active) (tree_of legs)
    tree = rooted p active root legs forest h.tree (λ j b. within j no_leg b)

    sums : IsSummed (givens_of p) (tree_of legs) (mark (givens_of p) v (tree_of legs)) (λ j. load_at weights j) (λ j. load_at moments j) (λ j. load_at marks j)
    sums = summed p active root legs weights moments (mark (givens_of p) v (tree_of legs)) (λ j. load_at marks j) h
        (gathers (mark_of (separation_at p.separations v).left (separation_at p.separations v).right) (mark (givens_of p) v (tree_of legs)) legs marks h.tree.tree.some
        (λ j b. mark-is (separation_at p.separations v).left (separation_at p.separations v).right (variable_at legs j) apart) marked)

    ring : (W X q S f K o : ℤ) → (pos 2 *ℤ W) *ℤ X ≡ q *ℤ (pos 2 *ℤ S) +ℤ f *ℤ K → (pos 2 *ℤ W) *ℤ (X +ℤ q *ℤ o) ≡ q *ℤ (pos 2 *ℤ (S +ℤ W *ℤ o)) +ℤ f *ℤ K
    ring W X q S f K o e =
        let a = out W X q o in
        let b = inn q S W o in
        omega (arith, ints, a, b, e)
      where
        out : (W X q o : ℤ) → (pos 2 *ℤ W) *ℤ (X +ℤ q *ℤ o) ≡ (pos 2 *ℤ W) *ℤ X +ℤ q *ℤ (pos 2 *ℤ (W *ℤ o))
        out W X q o = rw (dif_of W, dif_of X, dif_of q, dif_of o, dif_pos 2) (simp difs (dif_same _ _ _ _ (omega arith)))

        inn : (q S W o : ℤ) → q *ℤ (pos 2 *ℤ (S +ℤ W *ℤ o)) ≡ q *ℤ (pos 2 *ℤ S) +ℤ q *ℤ (pos 2 *ℤ (W *ℤ o))
        inn q S W o = rw (dif_of q, dif_of S, dif_of W, dif_of o, dif_pos 2) (simp difs (dif_same _ _ _ _ (omega arith)))

    place : (j : ℕ) → j < length legs → HasPlace p active v (variable_at legs j) (pos 2 *ℤ load_at weights 0) (pos 2 *ℤ (load_at moments 0 +ℤ load_at weights 0 *ℤ (leg_at legs j).offset)) (load_at marks 0)
    place j b a st =
        ap (λ y. (pos 2 *ℤ load_at weights 0) *ℤ y) (places (givens_of p) (Active active) (With (Active active) v) (tree_of legs) a tree st j (up j (length legs) b))
        ∙ ring (load_at weights 0) (a.x (variable_at legs 0)) a.q (load_at moments 0) (a.m v) (load_at marks 0) (leg_at legs j).offset
        (root-place (givens_of p) (Active active) (tree_of legs) a (mark (givens_of p) v (tree_of legs)) (but v a.m) (a.m v) (λ j. load_at weights j) (λ j. load_at moments j) (λ j. load_at marks j) tree
        (closing-level (givens_of p) (Active active) v (tree_of legs) a tree below st) sums)

    multiplier : (j : ℕ) → 0 < j → j < length legs → HasMultiplier p active v (leg_at legs j).sep (load_at weights 0) (rest_at legs weights moments j) (share_at legs weights marks j)
    multiplier zero s b a st = absurd (omega (arith, s))
    multiplier (suc c) s b a st =
        ap (λ z. load_at weights 0 *ℤ z) (sym (but-other v (leg_at legs (suc c)).sep a.m (λ e. off (subst (Active active) (sym e) (h.tree.tree.leads (suc c) s b).on))))
        ∙ pull-is (givens_of p) (Active active) (tree_of legs) a (mark (givens_of p) v (tree_of legs)) (but v a.m) (a.m v) (λ j. load_at weights j) (λ j. load_at moments j) (λ j. load_at marks j) tree
        (closing-level (givens_of p) (Active active) v (tree_of legs) a tree below st) sums c (down c (length legs) b)

-- ---- the marks of a block whose root is one end

sum-zeros : (f : Leg → ℤ) (legs : List Leg) → ((j : ℕ) → j < length legs → f (leg_at legs j) ≡ pos 0) → sum_of (map f legs) ≡ pos 0
sum-zeros f [] h = refl
sum-zeros f (l ∷ ls) h =
    let a = h 0 (omega arith) in
    let b = sum-zeros f ls (λ j b. h (suc j) (omega (arith, b))) in
    omega (arith, ints, a, b)

sum-first : (f : Leg → ℤ) (legs : List Leg) → 0 < length legs → ((j : ℕ) → 0 < j → j < length legs → f (leg_at legs j) ≡ pos 0) → sum_of (map f legs) ≡ f (leg_at legs 0)
sum-first f [] some h = absurd (omega (arith, some))
sum-first f (l ∷ ls) some h =
    let b = sum-zeros f ls (λ j b. h (suc j) (omega arith) (omega (arith, b))) in
    omega (arith, ints, b)

length-map' : (f : Leg → ℤ) (legs : List Leg) → length (map f legs) ≡ length legs
length-map' f [] = refl
length-map' f (l ∷ ls) = ap suc (length-map' f ls)

pub root-mark : (p : Problem) (active : List ℕ) (v root : ℕ) (legs : List Leg) (marks : List ℤ) → IsBlockTree p.separations active root legs → AreMarks p v legs marks
    → ((j : ℕ) → 0 < j → j < length legs → mark_of (separation_at p.separations v).left (separation_at p.separations v).right (leg_at legs j) ≡ pos 0)
    → load_at marks 0 ≡ mark_of (separation_at p.separations v).left (separation_at p.separations v).right (leg_at legs 0)
root-mark p active v root legs marks h marked others =
    root-carries legs (map (mark_of (separation_at p.separations v).left (separation_at p.separations v).right) legs) marks h.tree.some (length-map' _ legs) h.tree.sooner marked
    ∙ sum-first (mark_of (separation_at p.separations v).left (separation_at p.separations v).right) legs h.tree.some others

mark-other : (l r i : ℕ) → i ≢ l → i ≢ r → (if eqb i r then pos 1 else (if eqb i l then neg_ℤ (pos 1) else pos 0)) ≡ pos 0
mark-other l r i nl nr = by_case (eqb i r) (eqb i l) refl refl
  where
    by_case : (a b : Bool) → eqb i r ≡ a → eqb i l ≡ b → (if a then pos 1 else (if b then neg_ℤ (pos 1) else pos 0)) ≡ pos 0
    by_case true b qa qb = absurd (nr (eqb-true i r qa))
    by_case false true qa qb = absurd (nl (eqb-true i l qb))
    by_case false false qa qb = refl

mark-left : (l r i : ℕ) → l ≢ r → i ≡ l → (if eqb i r then pos 1 else (if eqb i l then neg_ℤ (pos 1) else pos 0)) ≡ neg_ℤ (pos 1)
mark-left l r i ne e = by_case (eqb i r) (eqb i l) refl refl
  where
    by_case : (a b : Bool) → eqb i r ≡ a → eqb i l ≡ b → (if a then pos 1 else (if b then neg_ℤ (pos 1) else pos 0)) ≡ neg_ℤ (pos 1)
    by_case true b qa qb = absurd (ne (sym e ∙ eqb-true i r qa))
    by_case false true qa qb = refl
    by_case false false qa qb = absurd (eqb-false i l qb e)

mark-right : (l r i : ℕ) → i ≡ r → (if eqb i r then pos 1 else (if eqb i l then neg_ℤ (pos 1) else pos 0)) ≡ pos 1
mark-right l r i e = by_case (eqb i r) refl
  where
    by_case : (a : Bool) → eqb i r ≡ a → (if a then pos 1 else (if eqb i l then neg_ℤ (pos 1) else pos 0)) ≡ pos 1
    by_case true qa = refl
    by_case false qa = absurd (eqb-false i r qa e)

-- a block whose root is the left end of v, without the right one
pub left-mark : (p : Problem) (active : List ℕ) (v : ℕ) (legs : List Leg) (marks : List ℤ) → IsSeparation (length p.desired) (separation_at p.separations v)
    → IsBlockTree p.separations active (separation_at p.separations v).left legs → AreMarks p v legs marks → (IsReached legs (separation_at p.separations v).right → ⊥) → load_at marks 0 ≡ neg_ℤ (pos 1)
left-mark p active v legs marks sep h marked out =
    root-mark p active v (separation_at p.separations v).left legs marks h marked
    (λ j a b. mark-other (separation_at p.separations v).left (separation_at p.separations v).right (variable_at legs j)
    (λ e. h.tree.apart 0 j a b (h.tree.first ∙ sym e)) (λ e. out (record { number = j; among = b; is = e })))
    ∙ mark-left (separation_at p.separations v).left (separation_at p.separations v).right (variable_at legs 0) sep.apart h.tree.first

-- a block whose root is the right end of v, without the left one
pub right-mark : (p : Problem) (active : List ℕ) (v : ℕ) (legs : List Leg) (marks : List ℤ)
    → IsBlockTree p.separations active (separation_at p.separations v).right legs → AreMarks p v legs marks → (IsReached legs (separation_at p.separations v).left → ⊥) → load_at marks 0 ≡ pos 1
right-mark p active v legs marks h marked out =
    root-mark p active v (separation_at p.separations v).right legs marks h marked
    (λ j a b. mark-other (separation_at p.separations v).left (separation_at p.separations v).right (variable_at legs j)
    (λ e. out (record { number = j; among = b; is = e })) (λ e. h.tree.apart 0 j a b (h.tree.first ∙ sym e)))
    ∙ mark-right (separation_at p.separations v).left (separation_at p.separations v).right (variable_at legs 0) h.tree.first
