-- From a leg up to the root, and the variables that are found in order.
use Rattle.std.proofs.Common.{◌≡◌, ◌≢◌, ℕ, zero, suc, ◌+◌, ◌<◌, ◌≤◌, List, [], ◌∷◌, ◌++◌, length, arith, refl, sym, ◌∙◌, ap, subst, Bool, true, false, not, ◌⊎◌, inl, inr, Result, Ok, Err, IfOk}
use Rattle.std.specs.List.{All, AllByRecursion, Contains}
use Rattle.std.proofs.lemmas.List.{get_or_default}
use Rattle.std.proofs.lemmas.List.Elements.{All-push, All-weaker, All-contains, Contains-push, Contains-append_left, recursion_from_All}
use Rattle.std.proofs.lemmas.List.Quantifiers.{all_pairs_push}
use Rattle.units.specs.declared.geometry.Sep.{Sep}
use Rattle.units.specs.Problem.{Problem}
use Rattle.units.specs.declared.memory.Memory.{Memory}
use Rattle.block_sums.specs.declared.legs.Leg.{Leg}
use Rattle.block_sums.specs.declared.paths.Step.{Step}
use Rattle.units.specs.Separation.{separation_at}
use Rattle.block_sums.specs.Ends.{end_of, active_at}
use Rattle.block_sums.specs.Legs.{no_leg, leg_at, variable_at, IsTree, IsReached, IsBlockTree}
use Rattle.block_sums.specs.Blocks.{finish_of, Leads, IsChain, AreJoined, IsBlock, IsFound}
use Rattle.block_sums.proofs.Chaining.{chain-push, seps-differ}
use Rattle.block_sums.proofs.Listing.{joined-if-reached, reached-if-joined}

-- ---- up to the root

-- the separation is that of a leg beyond the number
pub record IsBeyond (legs : List Leg) (at k : ℕ) : Type 0 where
  pub number : ℕ
  pub after : at < number
  pub among : number < length legs
  pub over : (leg_at legs number).sep ≡ k

-- a chain from a variable up to a leg
pub record IsClimbing (seps : List Sep) (active : List ℕ) (legs : List Leg) (from at : ℕ) (steps : List Step) : Type 0 where
  pub chain : IsChain seps active from (variable_at legs at) steps
  pub over : All (λ u. IsBeyond legs at u.sep) steps
  pub among : at < length legs

-- at the first leg
pub climbs-none : (seps : List Sep) (active : List ℕ) (legs : List Leg) (from at : ℕ) → at < length legs → variable_at legs at ≡ from → IsClimbing seps active legs from at []
climbs-none seps active legs from at b e = record {
  chain = record { leads = sym e; on = λ k d c. absurd (omega (arith, c)); once = λ i k d c g. absurd (omega (arith, c, g)) };
  over = λ k d c. absurd (omega (arith, c));
  among = b;
}

-- over one leg more
pub climbs-more : (seps : List Sep) (active : List ℕ) (root : ℕ) (legs : List Leg) (from at : ℕ) (now new : List Step) (t : Step) → IsTree seps active root legs → 0 < at → IsClimbing seps active legs from at now
    → t ≡ record { sep = (leg_at legs at).sep; along = not (leg_at legs at).along } → new ≡ now ++ t ∷ [] → IsClimbing seps active legs from (leg_at legs at).parent new
climbs-more seps active root legs from at now new t h above c is e =
    subst (λ s. IsClimbing seps active legs from (leg_at legs at).parent s) (sym e)
    (subst (λ u. IsClimbing seps active legs from (leg_at legs at).parent (now ++ u ∷ [])) (sym is) (record {
      chain = subst (λ v. IsChain seps active from v (now ++ (record { sep = (leg_at legs at).sep; along = not (leg_at legs at).along }) ∷ [])) (h.leads at above c.among).from
          (chain-push seps active from (variable_at legs at) now (record { sep = (leg_at legs at).sep; along = not (leg_at legs at).along }) c.chain (to_here (separation_at seps (leg_at legs at).sep) (leg_at legs at).along (h.leads at above c.among).to) (h.leads at above c.among).on
          (λ k d b. let w = c.over k d b in (λ q. seps-differ seps active root legs h w.number at (past at w.number w.after) w.among above c.among (apart at w.number w.after) (w.over ∙ q))));
      over = All-push (λ u. IsBeyond legs (leg_at legs at).parent u.sep) now (record { sep = (leg_at legs at).sep; along = not (leg_at legs at).along })
          (λ k d b. let w = c.over k d b in record { number = w.number; after = further (leg_at legs at).parent at w.number (h.sooner at above c.among) w.after; among = w.among; over = w.over })
          (record { number = at; after = h.sooner at above c.among; among = c.among; over = refl });
      among = before (leg_at legs at).parent at (length legs) (h.sooner at above c.among) c.among;
    }))
  where
    past : (a n : ℕ) → a < n → 0 < n
    past a n h = omega arith

    apart : (a n : ℕ) → a < n → n ≢ a
    apart a n h = omega arith

    further : (p a n : ℕ) → p < a → a < n → p < n
    further p a n h k = omega arith

    before : (p a n : ℕ) → p < a → a < n → p < n
    before p a n h k = omega arith

    to_here : (s : Sep) (al : Bool) {v : ℕ} → end_of s al ≡ v → end_of s (not (not al)) ≡ v
    to_here s true e = e
    to_here s false e = e

-- as the program reads the leg
pub climbs-leg : (seps : List Sep) (active : List ℕ) (root : ℕ) (legs : List Leg) (from at : ℕ) (now new : List Step) (leg : Leg) → IsTree seps active root legs → 0 < at → IsClimbing seps active legs from at now
    → leg ≡ leg_at legs at → new ≡ now ++ record { sep = leg.sep; along = not leg.along } ∷ [] → IsClimbing seps active legs from leg.parent new
climbs-leg seps active root legs from at now new leg h above c e is =
    subst (λ l. new ≡ now ++ record { sep = l.sep; along = not l.along } ∷ [] → IsClimbing seps active legs from l.parent new) (sym e)
    (λ q. climbs-more seps active root legs from at now new (record { sep = (leg_at legs at).sep; along = not (leg_at legs at).along }) h above c refl q) is

-- ---- chains back into the block

stays-back : (seps : List Sep) (active : List ℕ) (root : ℕ) (legs : List Leg) → IsBlockTree seps active root legs → (steps : List Step) (a b : ℕ) → Leads seps steps a b
    → AllByRecursion (λ u. Contains active u.sep) steps → IsReached legs b → IsReached legs a
stays-back seps active root legs h [] a b leads on there = subst (λ i. IsReached legs i) (sym leads) there
stays-back seps active root legs h (t ∷ ts) a b leads on there =
    let w = on.0 in
    let is : active_at seps active w.0 ≡ separation_at seps t.sep = ap (λ i. separation_at seps i) (get_or_default active w.0 0 t.sep w.1 ∙ w.2) in
    let next = stays-back seps active root legs h ts (finish_of seps t) b leads.1 on.1 there in
    subst (λ i. IsReached legs i) leads.0
    (subst (λ s. IsReached legs (end_of s (not t.along))) is
    (h.closed next.number next.among (not t.along) w.0 w.1 (twice (active_at seps active w.0) t.along ∙ (ap (λ s. end_of s t.along) is ∙ sym next.is))))
  where
    twice : (s : Sep) (al : Bool) → end_of s (not (not al)) ≡ end_of s al
    twice s true = refl
    twice s false = refl

-- where a chain leads to the root, it begins within the block
pub begins-within : (p : Problem) (active : List ℕ) (root i : ℕ) (legs : List Leg) → IsBlockTree p.separations active root legs → AreJoined p active i root → IsReached legs i
begins-within p active root i legs h j =
    stays-back p.separations active root legs h j.steps i root j.chain.leads (recursion_from_All (λ u. Contains active u.sep) j.steps j.chain.on) (record { number = 0; among = h.tree.some; is = h.tree.first })

-- ---- the first leg that reaches a variable

pub not-yet : (legs : List Leg) (v n : ℕ) → IsReached legs v → ((j : ℕ) → j < n → variable_at legs j ≢ v) → n < length legs
not-yet legs v n w none = by_case (order n w.number)
  where
    order : (n k : ℕ) → (n ≤ k) ⊎ (k < n)
    order zero k = inl (omega arith)
    order (suc n) zero = inr (omega arith)
    order (suc n) (suc k) = more (order n k)
      where
        more : (n ≤ k) ⊎ (k < n) → (suc n ≤ suc k) ⊎ (suc k < suc n)
        more (inl h) = inl (omega arith)
        more (inr h) = inr (omega arith)

    under : (n k l : ℕ) → n ≤ k → k < l → n < l
    under n k l a b = omega arith

    by_case : (n ≤ w.number) ⊎ (w.number < n) → n < length legs
    by_case (inl h) = under n w.number (length legs) h w.among
    by_case (inr h) = absurd (none w.number h w.is)

-- ---- the variables in order

pub found-none : (legs : List Leg) → IsFound legs 0 []
found-none legs = record {
  rising = λ i k d c g. absurd (omega (arith, c, g));
  below = λ k d c. absurd (omega (arith, c));
  only = λ k d c. absurd (omega (arith, c));
  each = λ i b. absurd (omega (arith, b));
}

below-or : (i j : ℕ) → i < j + 1 → (i ≡ j) ⊎ (i < j)
below-or i zero h = inl (omega arith)
below-or zero (suc j) h = inr (omega arith)
below-or (suc i) (suc j) h = more (below-or i j (omega (arith, h)))
  where
    more : (i ≡ j) ⊎ (i < j) → (suc i ≡ suc j) ⊎ (suc i < suc j)
    more (inl e) = inl (ap suc e)
    more (inr h) = inr (omega arith)

pub found-more : (legs : List Leg) (v : ℕ) (now new : List ℕ) → IsFound legs v now → IsReached legs v → new ≡ now ++ v ∷ [] → IsFound legs (v + 1) new
found-more legs v now new h there e = subst (λ vs. IsFound legs (v + 1) vs) (sym e) (record {
  rising = all_pairs_push (λ i j. i < j) now v h.rising (λ k d c. h.below k d c);
  below = All-push (λ i. i < v + 1) now v (All-weaker (λ i. i < v) (λ i. i < v + 1) (λ i b. omega (arith, b)) now h.below) (omega arith);
  only = All-push (IsReached legs) now v h.only there;
  each = λ i b r. each i r (below-or i v b);
})
  where
    each : (i : ℕ) → IsReached legs i → (i ≡ v) ⊎ (i < v) → Contains (now ++ v ∷ []) i
    each i r (inl q) = subst (λ k. Contains (now ++ v ∷ []) k) (sym q) (Contains-push now v)
    each i r (inr b) = Contains-append_left now (v ∷ []) i (h.each i b r)

pub found-same : (legs : List Leg) (v : ℕ) (now : List ℕ) → IsFound legs v now → (IsReached legs v → ⊥) → IsFound legs (v + 1) now
found-same legs v now h out = record {
  rising = h.rising;
  below = All-weaker (λ i. i < v) (λ i. i < v + 1) (λ i b. omega (arith, b)) now h.below;
  only = h.only;
  each = λ i b r. each i r (below-or i v b);
}
  where
    each : (i : ℕ) → IsReached legs i → (i ≡ v) ⊎ (i < v) → Contains now i
    each i r (inl q) = absurd (out (subst (λ k. IsReached legs k) q r))
    each i r (inr b) = h.each i b r

-- they are the block
pub found-block : (p : Problem) (active : List ℕ) (root count : ℕ) (legs : List Leg) (variables : List ℕ) → IsBlockTree p.separations active root legs → All (λ leg. leg.variable < length p.desired) legs → length p.desired ≤ count
    → IsFound legs count variables → IsBlock p active root variables
found-block p active root count legs variables h within enough f = record {
  rising = f.rising;
  joined = λ i. (λ w. joined-if-reached p active root legs h i (All-contains (IsReached legs) variables i f.only w), λ j. back i (reached-if-joined p active root legs h i j));
}
  where
    under : (v m n : ℕ) → v < m → m ≤ n → v < n
    under v m n a b = omega arith

    back : (i : ℕ) → IsReached legs i → Contains variables i
    back i r = f.each i (under i (length p.desired) count (subst (λ k. k < length p.desired) r.is (within r.number no_leg r.among)) enough) r

pub found-all : (p : Problem) (active : List ℕ) (root count : ℕ) (legs ls : List Leg) (result : Result (List ℕ) Memory) → IsBlockTree p.separations active root legs → All (λ leg. leg.variable < length p.desired) legs → length p.desired ≤ count
    → ls ≡ legs → IfOk result (IsFound ls count) → IfOk result (IsBlock p active root)
found-all p active root count legs ls (Ok variables) h within enough e f = found-block p active root count legs variables h within enough (subst (λ l. IsFound l count variables) e f)
found-all p active root count legs ls (Err m) h within enough e f = tt
