-- The legs of a block list its variables, and their sums are those of the block.
use Rattle.std.proofs.Common.{◌≡◌, ◌≢◌, ℕ, zero, suc, ◌<◌, ℤ, pos, ◌+ℤ◌, ◌-ℤ◌, ◌*ℤ◌, List, [], ◌∷◌, length, get_or, map, arith, refl, sym, ◌∙◌, ap, subst, Bool, true, false, eqb, eqb-true, if◌then◌else◌}
use Rattle.std.specs.List.{Contains}
use Rattle.std.proofs.lemmas.Bool.{eqb-false}
use Rattle.std.proofs.lemmas.List.{get_or-map, length-map}
use Rattle.units.specs.Problem.{Problem}
use Rattle.block_sums.specs.declared.legs.Leg.{Leg}
use Rattle.block_sums.specs.Legs.{no_leg, leg_at, variable_at, IsReached, IsBlockTree}
use Rattle.block_sums.specs.Loads.{sum_of, weight_of, moment_of}
use Rattle.block_sums.specs.Blocks.{AreJoined, ListsBlock, IsOffset, weight_at, desired_at, IsWeight, HasSums}
use Rattle.block_sums.proofs.Chaining.{root-chain, chain-reaches}

-- the variables of the legs, in the order of reaching
abbrev pub variables_of : List Leg → List ℕ
variables_of legs = map (λ leg. leg.variable) legs

variable-is : (legs : List Leg) (k d : ℕ) → k < length legs → get_or (variables_of legs) k d ≡ variable_at legs k
variable-is legs k d b = get_or-map (λ leg. leg.variable) legs k no_leg d b

as_many : (legs : List Leg) → length (variables_of legs) ≡ length legs
as_many legs = length-map legs (λ leg. leg.variable)

-- a variable is listed where a leg reaches it
listed : (legs : List Leg) (i : ℕ) → IsReached legs i → Contains (variables_of legs) i
listed legs i w = (w.number, subst (λ n. w.number < n) (sym (as_many legs)) w.among, variable-is legs w.number i w.among ∙ w.is)

reaches : (legs : List Leg) (i : ℕ) → Contains (variables_of legs) i → IsReached legs i
reaches legs i w =
    let b = subst (λ n. w.0 < n) (as_many legs) w.1 in
    record { number = w.0; among = b; is = sym (variable-is legs w.0 i b) ∙ w.2 }

pub joined-if-reached : (p : Problem) (active : List ℕ) (root : ℕ) (legs : List Leg) → IsBlockTree p.separations active root legs → (i : ℕ) → IsReached legs i → AreJoined p active root i
joined-if-reached p active root legs h i w =
    let c = root-chain p.separations active root legs h.tree w.number w.among in
    subst (λ v. AreJoined p active root v) w.is (record { steps = c.steps; chain = c.chain })

pub reached-if-joined : (p : Problem) (active : List ℕ) (root : ℕ) (legs : List Leg) → IsBlockTree p.separations active root legs → (i : ℕ) → AreJoined p active root i → IsReached legs i
reached-if-joined p active root legs h i j = chain-reaches p.separations active root legs h i j.steps j.chain

pub lists-block : (p : Problem) (active : List ℕ) (root : ℕ) (legs : List Leg) → IsBlockTree p.separations active root legs → ListsBlock p active root (variables_of legs)
lists-block p active root legs h = record {
  once = λ i j d a b. differ i j d a (subst (λ n. j < n) (as_many legs) b);
  joined = λ i. (λ w. joined-if-reached p active root legs h i (reaches legs i w), λ j. listed legs i (reached-if-joined p active root legs h i j));
}
  where
    below : (i j n : ℕ) → i < j → j < n → i < n
    below i j n a b = omega arith

    differ : (i j d : ℕ) → i < j → j < length legs → get_or (variables_of legs) i d ≢ get_or (variables_of legs) j d
    differ i j d a b e = h.tree.apart i j a b (sym (variable-is legs i d (below i j (length legs) a b)) ∙ (e ∙ variable-is legs j d b))

-- ---- offsets

-- the offset of the first leg that reaches a variable
unfoldable pub offset_of : List Leg → ℕ → ℤ
offset_of [] i = pos 0
offset_of (leg ∷ legs) i = if eqb leg.variable i then leg.offset else offset_of legs i

offset-is : (legs : List Leg) → ((j k : ℕ) → j < k → k < length legs → variable_at legs j ≢ variable_at legs k) → (j : ℕ) → j < length legs → offset_of legs (variable_at legs j) ≡ (leg_at legs j).offset
unfolding offset_of
offset-is [] apart j b = absurd (omega (arith, b))
offset-is (l ∷ ls) apart zero b = ap (λ t. if t then l.offset else offset_of ls l.variable) (same l.variable)
  where
    same : (n : ℕ) → eqb n n ≡ true
    same n = by_case (eqb n n) refl
      where
        by_case : (t : Bool) → eqb n n ≡ t → t ≡ true
        by_case true e = refl
        by_case false e = absurd (eqb-false n n e refl)
offset-is (l ∷ ls) apart (suc j) b = by_case (eqb l.variable (variable_at ls j)) refl (offset-is ls (λ i k a c. apart (suc i) (suc k) (omega (arith, a)) (omega (arith, c))) j (omega (arith, b)))
  where
    by_case : (t : Bool) → eqb l.variable (variable_at ls j) ≡ t → offset_of ls (variable_at ls j) ≡ (leg_at ls j).offset → (if t then l.offset else offset_of ls (variable_at ls j)) ≡ (leg_at ls j).offset
    by_case true e rest = absurd (apart 0 (suc j) (omega arith) b (eqb-true l.variable (variable_at ls j) e))
    by_case false e rest = rest

offsets-are : (p : Problem) (active : List ℕ) (root : ℕ) (legs : List Leg) → IsBlockTree p.separations active root legs → (i : ℕ) → Contains (variables_of legs) i → IsOffset p active root i (offset_of legs i)
offsets-are p active root legs h i w =
    let r = reaches legs i w in
    let c = root-chain p.separations active root legs h.tree r.number r.among in
    subst (λ v. IsOffset p active root v (offset_of legs v)) r.is
    (record { steps = c.steps; chain = c.chain; far = offset-is legs h.tree.apart r.number r.among ∙ c.far })

-- ---- sums

sum-weights : (p : Problem) (legs : List Leg) → sum_of (map (weight_of p) legs) ≡ sum_of (map (weight_at p) (variables_of legs))
sum-weights p [] = refl
sum-weights p (l ∷ ls) = ap (λ t. weight_of p l +ℤ t) (sum-weights p ls)

sum-moments : (p : Problem) (o : ℕ → ℤ) (legs : List Leg) → ((j : ℕ) → j < length legs → o (variable_at legs j) ≡ (leg_at legs j).offset)
    → sum_of (map (moment_of p) legs) ≡ sum_of (map (λ i. (desired_at p i -ℤ o i) *ℤ weight_at p i) (variables_of legs))
sum-moments p o [] same = refl
sum-moments p o (l ∷ ls) same =
    let here = ap (λ t. (desired_at p l.variable -ℤ t) *ℤ weight_at p l.variable) (same 0 (omega arith)) in
    let rest = sum-moments p o ls (λ j b. same (suc j) (omega (arith, b))) in
    both _ _ _ _ (sym here) rest
  where
    both : (a b c d : ℤ) → a ≡ b → c ≡ d → a +ℤ c ≡ b +ℤ d
    both a b c d e f = ap (λ t. t +ℤ c) e ∙ ap (λ t. b +ℤ t) f

pub sums-are : (p : Problem) (active : List ℕ) (root : ℕ) (legs : List Leg) (w m : ℤ) → IsBlockTree p.separations active root legs → w ≡ sum_of (map (weight_of p) legs) → m ≡ sum_of (map (moment_of p) legs)
    → HasSums p active root w m
sums-are p active root legs w m h e f = record {
  variables = variables_of legs;
  block = lists-block p active root legs h;
  offset = offset_of legs;
  offsets = offsets-are p active root legs h;
  weighs = e ∙ sum-weights p legs;
  wishes = f ∙ sum-moments p (offset_of legs) legs (offset-is legs h.tree.apart);
}

pub weight-from : (p : Problem) (active : List ℕ) (v : ℕ) (w m : ℤ) → HasSums p active v w m → IsWeight p active v w
weight-from p active v w m h = record { variables = h.variables; block = h.block; is = h.weighs }
