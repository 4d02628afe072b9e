-- The directions in which the force on a separation grows.
use Rattle.std.proofs.Common.{◌≡◌, ◌≢◌, ℕ, zero, suc, ◌-◌, ◌<◌, ◌≤◌, ℤ, pos, negsuc, neg_ℤ, ◌+ℤ◌, ◌-ℤ◌, ◌*ℤ◌, ◌<ℤ◌, ◌≤ℤ◌, List, [], ◌∷◌, length, map, arith, refl, sym, ap, ◌∙◌, Bool, true, false, not, subst, ◌⊎◌, inl, inr, if◌then◌else◌}
use Rattle.std.specs.List.{All, AllByRecursion}
use Rattle.std.proofs.lemmas.Int.{ints}
use lib.IntN.{*ℤ-zero, *ℤ_comm}
use Rattle.units.specs.Problem.{Problem}
use Rattle.units.specs.Problem as stated
use Rattle.solver_law.specs.Step.{Step}
use Rattle.solver_law.specs.State.{put_at, Givens, Point, IsState}
use Rattle.solver_law.specs.Forest.{Joins, With, finish, Leads}
use Rattle.solver_law.proofs.Sums.{put_at-same, put_at-other}
use Rattle.solver_law.proofs.Flow.{flow, flow-within}
use Rattle.solver_law.proofs.Progress.{lack}
use Rattle.solver_law.proofs.Inside.{turning, turn}
use Rattle.solver_law.proofs.Response.{IsJoined, AreBlocks, Feed, answering, response, feed, count_in, weight_in}
use Rattle.solver_law.proofs.Lists.{IsIn, AllDiffer, count-out, count-once}
use Rattle.block_sums.specs.declared.legs.Leg.{Leg}
use Rattle.units.specs.Separation.{separation_at}
use Rattle.block_sums.specs.Ends.{end_of}
use Rattle.std.specs.Prelude.{slice_index}
use Rattle.std.proofs.lemmas.List.{get_or_default}
use Rattle.solver_law.proofs.Forest.{joins-back, joins-more}
use Rattle.block_sums.specs.Legs.{no_leg, leg_at, variable_at, IsReached, IsBlockTree}
use Rattle.block_sums.specs.Solving.{givens_of, Active, IsActive}
use Rattle.block_sums.proofs.Rooted.{IsVia, find-via, joined-root, only-vias, via-active}
use Rattle.vpsc_solve.proofs.Stopping.{IsDirection}
use Rattle.solver_law.proofs.Signs.{times-above}

-- a direction that leaves alone what isn't of the kind Near
pub record GoesOn (p : Givens) (On Near : ℕ → Type 0) (v : ℕ) (b : Point) : Type 0 where
  pub direction : IsDirection p On v b
  pub elsewhere : (k : ℕ) → k < p.s → k ≢ v → (Near k → ⊥) → b.m k ≡ pos 0

-- chains of some separations as chains of active ones below s
joined-of : (p : Problem) (active : List ℕ) (On : ℕ → Type 0) (a b : ℕ) → IsActive p active → ((k : ℕ) → On k → Active active k) → Joins (givens_of p).l (givens_of p).r On a b → IsJoined (givens_of p) On a b
joined-of p active On a b forest up h = record { steps = h.steps; leads = h.leads; on = h.on; below = go h.steps h.on }
  where
    go : (ts : List Step) → AllByRecursion (λ t. On t.sep) ts → AllByRecursion (λ t. t.sep < length p.separations) ts
    go [] all = tt
    go (t ∷ ts) all = let w = up t.sep all.0 in (subst (λ i. i < length p.separations) w.2 (forest.below w.0 t.sep w.1), go ts all.1)

-- within one block nothing moves
pub turning-goes : (p : Problem) (active : List ℕ) (v : ℕ) (legs : List Leg) → IsActive p active → v < length p.separations → (Active active v → ⊥)
    → IsBlockTree p.separations active ((givens_of p).l v) legs → IsReached legs ((givens_of p).r v)
    → (b : Point) × GoesOn (givens_of p) (Active active) (IsVia legs) v b × ((i : ℕ) → b.x i ≡ pos 0) × (lack (givens_of p) b v ≡ pos 0)
turning-goes p active v legs forest below off h there = (
  turning v chain.steps,
  record {
    direction = record {
      state = turn (givens_of p) (Active active) (With (Active active) v) v below (inr refl) (λ k on. inl on) wide;
      still = refl;
      up = ahead (put_at v (pos 1) v) (flow chain.steps v) (put_at-same v (pos 1)) (none (flow-within (IsVia legs) chain.steps chain.on v));
    };
    elsewhere = λ k d ne out. aside (put_at v (pos 1) k) (flow chain.steps k) (put_at-other v k (pos 1) (λ e. ne (sym e))) (without k out (flow-within (IsVia legs) chain.steps chain.on k));
  },
  (λ i. refl),
  gap ((givens_of p).g v),
)
  where
    up : (k : ℕ) → IsVia legs k → Active active k
    up k w = via-active p.separations active ((givens_of p).l v) legs h.tree k w

    chain : IsJoined (givens_of p) (IsVia legs) ((givens_of p).l v) ((givens_of p).r v)
    chain = joined-of p active (IsVia legs) ((givens_of p).l v) ((givens_of p).r v) forest up
        (subst (λ i. Joins (givens_of p).l (givens_of p).r (IsVia legs) i ((givens_of p).r v)) h.tree.first
        (subst (λ i. Joins (givens_of p).l (givens_of p).r (IsVia legs) (variable_at legs 0) i) there.is (joined-root p active ((givens_of p).l v) legs h.tree there.number there.among)))

    widen : (ts : List Step) → AllByRecursion (λ t. IsVia legs t.sep) ts → AllByRecursion (λ t. Active active t.sep) ts
    widen [] all = tt
    widen (t ∷ ts) all = (up t.sep all.0, widen ts all.1)

    wide : IsJoined (givens_of p) (Active active) ((givens_of p).l v) ((givens_of p).r v)
    wide = record { steps = chain.steps; leads = chain.leads; on = widen chain.steps chain.on; below = chain.below }

    without : (k : ℕ) → (IsVia legs k → ⊥) → (flow chain.steps k ≡ pos 0) ⊎ IsVia legs k → flow chain.steps k ≡ pos 0
    without k out (inl e) = e
    without k out (inr w) = absurd (out w)

    none : (flow chain.steps v ≡ pos 0) ⊎ IsVia legs v → flow chain.steps v ≡ pos 0
    none (inl e) = e
    none (inr w) = absurd (off (up v w))

    ahead : (u f : ℤ) → u ≡ pos 1 → f ≡ pos 0 → pos 0 <ℤ (u +ℤ negsuc 0 *ℤ f)
    ahead u f e g = rw (e, g) (omega (arith, ints))

    aside : (u f : ℤ) → u ≡ pos 0 → f ≡ pos 0 → u +ℤ negsuc 0 *ℤ f ≡ pos 0
    aside u f e g = rw (e, g) refl

    gap : (g : ℤ) → pos 0 *ℤ g -ℤ (pos 0 -ℤ pos 0) ≡ pos 0
    gap g = let z = *ℤ_comm (pos 0) g ∙ *ℤ-zero g in omega (arith, ints, z)

-- ---- between two blocks

-- what chains of active separations join to a reached variable is reached
pub reached-on : (p : Problem) (active : List ℕ) (root : ℕ) (legs : List Leg) → IsActive p active → IsBlockTree p.separations active root legs → (i j : ℕ) → IsReached legs i → Joins (givens_of p).l (givens_of p).r (Active active) i j → IsReached legs j
reached-on p active root legs forest h i j r chain = go chain.steps i r chain.leads chain.on
  where
    is : (k : ℕ) (on : Active active k) → separation_at p.separations (slice_index active on.0) ≡ separation_at p.separations k
    is k on = ap (λ i. separation_at p.separations i) (get_or_default active on.0 0 k on.1 ∙ on.2)

    one : (k : ℕ) (al : Bool) → Active active k → IsReached legs (if al then (givens_of p).l k else (givens_of p).r k) → IsReached legs (if al then (givens_of p).r k else (givens_of p).l k)
    one k true on w = subst (λ s. IsReached legs s.right) (is k on) (h.closed w.number w.among true on.0 on.1 (ap (λ s. s.left) (is k on) ∙ sym w.is))
    one k false on w = subst (λ s. IsReached legs s.left) (is k on) (h.closed w.number w.among false on.0 on.1 (ap (λ s. s.right) (is k on) ∙ sym w.is))

    go : (ts : List Step) (i : ℕ) → IsReached legs i → Leads (givens_of p).l (givens_of p).r ts i j → AllByRecursion (λ t. Active active t.sep) ts → IsReached legs j
    go [] i r leads on = subst (λ i. IsReached legs i) leads r
    go (t ∷ ts) i r leads on = go ts (finish (givens_of p).l (givens_of p).r t) (one t.sep t.along on.0 (subst (λ i. IsReached legs i) (sym leads.0) r)) leads.1 on.1

-- the variables of a tree as a list
abbrev pub variables : List Leg → List ℕ
variables legs = map (λ (leg : Leg). leg.variable) legs

in-reached : (legs : List Leg) (i : ℕ) → IsIn i (variables legs) → IsReached legs i
in-reached [] i h = absurd h
in-reached (l ∷ ls) i (inl e) = record { number = 0; among = omega arith; is = e }
in-reached (l ∷ ls) i (inr h) = let w = in-reached ls i h in record { number = suc w.number; among = (let b = w.among in omega (arith, b)); is = w.is }

reached-in : (legs : List Leg) (n i : ℕ) → n < length legs → variable_at legs n ≡ i → IsIn i (variables legs)
reached-in [] n i b e = absurd (omega (arith, b))
reached-in (l ∷ ls) zero i b e = inl e
reached-in (l ∷ ls) (suc n) i b e = inr (reached-in ls n i (omega (arith, b)) e)

all-differ : (legs : List Leg) → ((j k : ℕ) → j < k → k < length legs → variable_at legs j ≢ variable_at legs k) → AllDiffer (variables legs)
all-differ [] apart = tt
all-differ (l ∷ ls) apart = (
  λ h. let w = in-reached ls l.variable h in apart 0 (suc w.number) (omega arith) (let b = w.among in omega (arith, b)) (sym w.is),
  all-differ ls (λ j k a b. apart (suc j) (suc k) (omega (arith, a)) (omega (arith, b))),
)

each-variable : (P : ℕ → Type 0) (legs : List Leg) → ((j : ℕ) → j < length legs → P (variable_at legs j)) → AllByRecursion P (variables legs)
each-variable P [] h = tt
each-variable P (l ∷ ls) h = (h 0 (omega arith), each-variable P ls (λ j b. h (suc j) (omega (arith, b))))

-- both ends of a leg's separation are reached
ends-reached : (p : Problem) (active : List ℕ) (root : ℕ) (legs : List Leg) → IsActive p active → IsBlockTree p.separations active root legs → (k : ℕ) → IsVia legs k → IsReached legs ((givens_of p).l k) × IsReached legs ((givens_of p).r k)
ends-reached p active root legs forest h k w = subst (λ k. IsReached legs ((givens_of p).l k) × IsReached legs ((givens_of p).r k)) w.2 (by_side (leg_at legs (suc w.0)).along refl)
  where
    l : IsReached legs (variable_at legs (leg_at legs (suc w.0)).parent)
    l = record { number = (leg_at legs (suc w.0)).parent; among = (let s = h.tree.sooner (suc w.0) (omega arith) w.1 in let b = w.1 in omega (arith, s, b)); is = refl }

    here : IsReached legs (variable_at legs (suc w.0))
    here = record { number = suc w.0; among = w.1; is = refl }

    by_side : (al : Bool) → (leg_at legs (suc w.0)).along ≡ al → IsReached legs ((givens_of p).l (leg_at legs (suc w.0)).sep) × IsReached legs ((givens_of p).r (leg_at legs (suc w.0)).sep)
    by_side true e =
        let g = h.tree.leads (suc w.0) (omega arith) w.1 in (
          subst (λ i. IsReached legs i) (sym (sym (ap (λ a. end_of (separation_at p.separations (leg_at legs (suc w.0)).sep) (not a)) e) ∙ g.from)) l,
          subst (λ i. IsReached legs i) (sym (sym (ap (λ a. end_of (separation_at p.separations (leg_at legs (suc w.0)).sep) a) e) ∙ g.to)) here,
        )
    by_side false e =
        let g = h.tree.leads (suc w.0) (omega arith) w.1 in (
          subst (λ i. IsReached legs i) (sym (sym (ap (λ a. end_of (separation_at p.separations (leg_at legs (suc w.0)).sep) a) e) ∙ g.to)) here,
          subst (λ i. IsReached legs i) (sym (sym (ap (λ a. end_of (separation_at p.separations (leg_at legs (suc w.0)).sep) (not a)) e) ∙ g.from)) l,
        )

-- a separation of one of two trees
abbrev pub IsViaOf : List Leg → List Leg → ℕ → Type 0
IsViaOf left right k = IsVia left k ⊎ IsVia right k

abbrev pub IsDisjoint : List Leg → List Leg → Type 0
IsDisjoint left right = (i : ℕ) → IsReached left i → IsReached right i → ⊥

pub disjoint : (p : Problem) (active : List ℕ) (lv rv : ℕ) (left right : List Leg) → IsActive p active → IsBlockTree p.separations active lv left → IsBlockTree p.separations active rv right → (IsReached left rv → ⊥) → IsDisjoint left right
disjoint p active lv rv left right forest hl hr out i il ir =
    out (subst (λ j. IsReached left j) hr.tree.first (reached-on p active lv left forest hl i (variable_at right 0) il
    (joins-back (givens_of p).l (givens_of p).r (Active active) (variable_at right 0) i
    (joins-more (givens_of p).l (givens_of p).r (IsVia right) (Active active) (variable_at right 0) i (λ k w. via-active p.separations active rv right hr.tree k w)
    (subst (λ j. Joins (givens_of p).l (givens_of p).r (IsVia right) (variable_at right 0) j) ir.is (joined-root p active rv right hr.tree ir.number ir.among))))))

counted : (legs : List Leg) → ((j k : ℕ) → j < k → k < length legs → variable_at legs j ≢ variable_at legs k) → (i : ℕ) → IsReached legs i → count_in (variables legs) i ≡ pos 1
counted legs apart i w = count-once (variables legs) i (all-differ legs apart) (reached-in legs w.number i w.among w.is)

uncounted : (legs : List Leg) (i : ℕ) → (IsReached legs i → ⊥) → count_in (variables legs) i ≡ pos 0
uncounted legs i out = count-out (variables legs) i (λ h. out (in-reached legs i h))

blocks : (p : Problem) (active : List ℕ) (v : ℕ) (left right : List Leg) → IsActive p active → IsBlockTree p.separations active ((givens_of p).l v) left → IsBlockTree p.separations active ((givens_of p).r v) right → IsDisjoint left right
    → AreBlocks (givens_of p) (IsViaOf left right) v (variables left) (variables right)
blocks p active v left right forest hl hr far = record {
  from_left = each-variable (λ i. IsJoined (givens_of p) (IsViaOf left right) ((givens_of p).l v) i) left (λ j b. joined-of p active (IsViaOf left right) ((givens_of p).l v) (variable_at left j) forest up
      (subst (λ i. Joins (givens_of p).l (givens_of p).r (IsViaOf left right) i (variable_at left j)) hl.tree.first
      (joins-more (givens_of p).l (givens_of p).r (IsVia left) (IsViaOf left right) (variable_at left 0) (variable_at left j) (λ k w. inl w) (joined-root p active ((givens_of p).l v) left hl.tree j b))));
  from_right = each-variable (λ i. IsJoined (givens_of p) (IsViaOf left right) ((givens_of p).r v) i) right (λ j b. joined-of p active (IsViaOf left right) ((givens_of p).r v) (variable_at right j) forest up
      (subst (λ i. Joins (givens_of p).l (givens_of p).r (IsViaOf left right) i (variable_at right j)) hr.tree.first
      (joins-more (givens_of p).l (givens_of p).r (IsVia right) (IsViaOf left right) (variable_at right 0) (variable_at right j) (λ k w. inr w) (joined-root p active ((givens_of p).r v) right hr.tree j b))));
  flat_left = λ k d w. flat-left k w;
  flat_right = λ k d w. flat-right k w;
}
  where
    up : (k : ℕ) → IsViaOf left right k → Active active k
    up k (inl w) = via-active p.separations active ((givens_of p).l v) left hl.tree k w
    up k (inr w) = via-active p.separations active ((givens_of p).r v) right hr.tree k w

    flat-left : (k : ℕ) → IsViaOf left right k → count_in (variables left) ((givens_of p).r k) ≡ count_in (variables left) ((givens_of p).l k)
    flat-left k (inl w) = let e = ends-reached p active ((givens_of p).l v) left forest hl k w in counted left hl.tree.apart ((givens_of p).r k) e.1 ∙ sym (counted left hl.tree.apart ((givens_of p).l k) e.0)
    flat-left k (inr w) = let e = ends-reached p active ((givens_of p).r v) right forest hr k w in
        uncounted left ((givens_of p).r k) (λ i. far ((givens_of p).r k) i e.1) ∙ sym (uncounted left ((givens_of p).l k) (λ i. far ((givens_of p).l k) i e.0))

    flat-right : (k : ℕ) → IsViaOf left right k → count_in (variables right) ((givens_of p).r k) ≡ count_in (variables right) ((givens_of p).l k)
    flat-right k (inr w) = let e = ends-reached p active ((givens_of p).r v) right forest hr k w in counted right hr.tree.apart ((givens_of p).r k) e.1 ∙ sym (counted right hr.tree.apart ((givens_of p).l k) e.0)
    flat-right k (inl w) = let e = ends-reached p active ((givens_of p).l v) left forest hl k w in
        uncounted right ((givens_of p).r k) (λ i. far ((givens_of p).r k) e.1 i) ∙ sym (uncounted right ((givens_of p).l k) (λ i. far ((givens_of p).l k) e.0 i))

-- ---- the two blocks move apart

not-below-sum : (u w : ℤ) → pos 0 <ℤ u → pos 0 ≤ℤ w → pos 0 <ℤ (u +ℤ w)
not-below-sum u w h g = omega (arith, ints, h, g)

-- a block weighs something
weight-above : (w : ℕ → ℤ) (legs : List Leg) → 0 < length legs → ((j : ℕ) → j < length legs → pos 0 <ℤ w (variable_at legs j)) → pos 0 <ℤ weight_in w (variables legs)
weight-above w [] some h = absurd (omega (arith, some))
weight-above w (l ∷ ls) some h = not-below-sum (w l.variable) (weight_in w (variables ls)) (h 0 (omega arith)) (rest ls (λ j b. h (suc j) (omega (arith, b))))
  where
    weaker : (u v : ℤ) → pos 0 <ℤ u → pos 0 ≤ℤ v → pos 0 ≤ℤ (u +ℤ v)
    weaker u v h g = omega (arith, ints, h, g)

    rest : (ls : List Leg) → ((j : ℕ) → j < length ls → pos 0 <ℤ w (variable_at ls j)) → pos 0 ≤ℤ weight_in w (variables ls)
    rest [] h = omega (arith, ints)
    rest (l ∷ ls) h = weaker (w l.variable) (weight_in w (variables ls)) (h 0 (omega arith)) (rest ls (λ j b. h (suc j) (omega (arith, b))))

pub weighs-something : (p : Problem) (legs : List Leg) → stated.IsBounded p → 0 < length legs → All (λ leg. leg.variable < length p.desired) legs → pos 0 <ℤ weight_in (givens_of p).w (variables legs)
weighs-something p legs bounded some within = weight-above (givens_of p).w legs some (λ j b. one (slice_index p.weights (variable_at legs j))
    (bounded.weighted (variable_at legs j) 0 (let w = within j no_leg b in let e = bounded.as_long in omega (arith, w, e))).0)
  where
    one : (n : ℕ) → 1 ≤ n → pos 0 <ℤ pos n
    one n h = omega (arith, ints, h)

pub parting-goes : (p : Problem) (active : List ℕ) (v : ℕ) (left right : List Leg) → stated.IsBounded p → IsActive p active → v < length p.separations → (Active active v → ⊥)
    → IsBlockTree p.separations active ((givens_of p).l v) left → IsBlockTree p.separations active ((givens_of p).r v) right → (IsReached left ((givens_of p).r v) → ⊥)
    → All (λ leg. leg.variable < length p.desired) left → All (λ leg. leg.variable < length p.desired) right
    → (b : Point) × GoesOn (givens_of p) (Active active) (IsViaOf left right) v b
parting-goes p active v left right bounded forest below off hl hr out wl wr = (
  b,
  record {
    direction = record {
      state = record {
        tight = λ k d on. tight-at k d on (find-via left k (length left - 1) (range (length left) hl.tree.some)) (find-via right k (length right - 1) (range (length right) hr.tree.some));
        within = λ k d. widen k (near.within k d);
        level = near.level;
      };
      still = refl;
      up = ahead (weight_in (givens_of p).w (variables left)) (weight_in (givens_of p).w (variables right)) (fr.m v) (fl.m v) (put_at v _ v) (none (fr.within v)) (none (fl.within v)) (put_at-same v _)
          (weighs-something p left bounded hl.tree.some wl) (weighs-something p right bounded hr.tree.some wr);
    };
    elsewhere = λ k d ne away. still-at k ne away (near.within k d);
  },
)
  where
    two : AreBlocks (givens_of p) (IsViaOf left right) v (variables left) (variables right)
    two = blocks p active v left right forest hl hr (disjoint p active ((givens_of p).l v) ((givens_of p).r v) left right forest hl hr out)

    fl : Feed (givens_of p) (IsViaOf left right) ((givens_of p).l v) (variables left)
    fl = feed (givens_of p) (IsViaOf left right) ((givens_of p).l v) (variables left) two.from_left

    fr : Feed (givens_of p) (IsViaOf left right) ((givens_of p).r v) (variables right)
    fr = feed (givens_of p) (IsViaOf left right) ((givens_of p).r v) (variables right) two.from_right

    b : Point
    b = answering (givens_of p) v (variables left) (variables right) fl.m fr.m

    near : IsState (givens_of p) (IsViaOf left right) (With (IsViaOf left right) v) b
    near = response (givens_of p) (IsViaOf left right) (With (IsViaOf left right) v) v (variables left) (variables right) below (inr refl) (λ k on. inl on) two

    up : (k : ℕ) → IsViaOf left right k → Active active k
    up k (inl w) = via-active p.separations active ((givens_of p).l v) left hl.tree k w
    up k (inr w) = via-active p.separations active ((givens_of p).r v) right hr.tree k w

    range : (n : ℕ) → 0 < n → (n - 1 < n) ⊎ (n - 1 ≡ 0)
    range n h = inl (omega arith)

    widen : (k : ℕ) → (b.m k ≡ pos 0) ⊎ With (IsViaOf left right) v k → (b.m k ≡ pos 0) ⊎ With (Active active) v k
    widen k (inl e) = inl e
    widen k (inr (inl w)) = inr (inl (up k w))
    widen k (inr (inr e)) = inr (inr e)

    still-at : (k : ℕ) → k ≢ v → (IsViaOf left right k → ⊥) → (b.m k ≡ pos 0) ⊎ With (IsViaOf left right) v k → b.m k ≡ pos 0
    still-at k ne away (inl e) = e
    still-at k ne away (inr (inl w)) = absurd (away w)
    still-at k ne away (inr (inr e)) = absurd (ne e)

    none : {m : ℤ} → (m ≡ pos 0) ⊎ IsViaOf left right v → m ≡ pos 0
    none (inl e) = e
    none (inr w) = absurd (off (up v w))

    ahead : (wl wr mr ml u : ℤ) → mr ≡ pos 0 → ml ≡ pos 0 → u ≡ pos 2 *ℤ (wl *ℤ wr) → pos 0 <ℤ wl → pos 0 <ℤ wr → pos 0 <ℤ ((wl *ℤ mr +ℤ neg_ℤ wr *ℤ ml) +ℤ u)
    ahead wl wr mr ml u er el eu hl hr =
        let a = ap (λ t. wl *ℤ t) er ∙ *ℤ-zero wl in
        let c = ap (λ t. neg_ℤ wr *ℤ t) el ∙ *ℤ-zero (neg_ℤ wr) in
        let d = times-above (pos 2) (wl *ℤ wr) (omega (arith, ints)) (times-above wl wr hl hr) in
        omega (arith, ints, a, c, d, eu)

    no-via : (legs : List Leg) (root k : ℕ) → IsBlockTree p.separations active root legs → Active active k → ((c : ℕ) → c < length legs - 1 → (leg_at legs (suc c)).sep ≢ k) → (i : ℕ) → ((givens_of p).r k ≡ i) ⊎ ((givens_of p).l k ≡ i) → IsReached legs i → ⊥
    no-via legs root k h on away i side w = let via = only-vias p active root legs forest h k on w.number w.among (turned side w.is) in away via.0 (lower via.0 (length legs) via.1) via.2
      where
        lower : (c n : ℕ) → suc c < n → c < n - 1
        lower c n h = omega (arith, h)

        turned : {x y i z : ℕ} → (x ≡ i) ⊎ (y ≡ i) → z ≡ i → (x ≡ z) ⊎ (y ≡ z)
        turned (inl e) f = inl (e ∙ sym f)
        turned (inr e) f = inr (e ∙ sym f)

    flat : (wl wr rr rl lr ll g : ℤ) → rr ≡ pos 0 → rl ≡ pos 0 → lr ≡ pos 0 → ll ≡ pos 0 → (wl *ℤ rr -ℤ wr *ℤ lr) -ℤ (wl *ℤ rl -ℤ wr *ℤ ll) ≡ pos 0 *ℤ g
    flat wl wr rr rl lr ll g a b c e =
        let n : pos 0 *ℤ g ≡ pos 0 = *ℤ_comm (pos 0) g ∙ *ℤ-zero g in
        let y = *ℤ-zero wl in
        let z = *ℤ-zero wr in
        rw (a, b, c, e, n) (omega (arith, ints, y, z))

    tight-at : (k : ℕ) → k < length p.separations → Active active k → IsVia left k ⊎ ((c : ℕ) → c < length left - 1 → (leg_at left (suc c)).sep ≢ k) → IsVia right k ⊎ ((c : ℕ) → c < length right - 1 → (leg_at right (suc c)).sep ≢ k)
        → b.x ((givens_of p).r k) -ℤ b.x ((givens_of p).l k) ≡ b.q *ℤ (givens_of p).g k
    tight-at k d on (inl w) any = near.tight k d (inl w)
    tight-at k d on (inr al) (inl w) = near.tight k d (inr w)
    tight-at k d on (inr al) (inr ar) =
        flat (weight_in (givens_of p).w (variables left)) (weight_in (givens_of p).w (variables right)) _ _ _ _ ((givens_of p).g k)
        (uncounted right ((givens_of p).r k) (no-via right ((givens_of p).r v) k hr on ar ((givens_of p).r k) (inl refl)))
        (uncounted right ((givens_of p).l k) (no-via right ((givens_of p).r v) k hr on ar ((givens_of p).l k) (inr refl)))
        (uncounted left ((givens_of p).r k) (no-via left ((givens_of p).l v) k hl on al ((givens_of p).r k) (inl refl)))
        (uncounted left ((givens_of p).l k) (no-via left ((givens_of p).l v) k hl on al ((givens_of p).l k) (inr refl)))
