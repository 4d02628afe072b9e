-- The legs of a tree as chains, and that chains stay within a block.
use Rattle.std.proofs.Common.{◌≡◌, ◌≢◌, ℕ, zero, suc, ◌<◌, ◌≤◌, ◌+ℤ◌, List, [], ◌∷◌, ◌++◌, length, arith, refl, sym, ◌∙◌, ap, subst, Bool, true, false, not, ◌⊎◌, inl, inr}
use Rattle.std.specs.List.{All, AllByRecursion, Contains}
use Rattle.std.proofs.lemmas.Int.{ints}
use Rattle.std.proofs.lemmas.List.{get_or_default}
use Rattle.std.proofs.lemmas.List.Elements.{All-push, recursion_from_All}
use Rattle.std.proofs.lemmas.List.Quantifiers.{all_pairs_push}
use Rattle.units.specs.declared.geometry.Sep.{Sep}
use Rattle.block_sums.specs.declared.legs.Leg.{Leg}
use Rattle.block_sums.specs.declared.paths.Step.{Step}
use Rattle.units.specs.Separation.{separation_at}
use Rattle.block_sums.specs.Ends.{end_of, active_at}
use Rattle.block_sums.specs.Legs.{leg_at, variable_at, stride, IsTree, IsReached, IsBlockTree}
use Rattle.block_sums.specs.Blocks.{start_of, finish_of, Leads, distance, IsChain}

-- ---- one step more

leads-push : (seps : List Sep) (steps : List Step) (t : Step) (a b : ℕ) → Leads seps steps a b → start_of seps t ≡ b → Leads seps (steps ++ t ∷ []) a (finish_of seps t)
leads-push seps [] t a b h e = (e ∙ sym h, refl)
leads-push seps (s ∷ ss) t a b h e = (h.0, leads-push seps ss t (finish_of seps s) b h.1 e)

distance-push : (seps : List Sep) (steps : List Step) (t : Step) → distance seps (steps ++ t ∷ []) ≡ distance seps steps +ℤ stride (separation_at seps t.sep) t.along
distance-push seps [] t = omega (arith, ints)
distance-push seps (s ∷ ss) t = let e = distance-push seps ss t in omega (arith, ints, e)

-- a chain with a step more over a separation that it hasn't crossed
pub chain-push : (seps : List Sep) (active : List ℕ) (a b : ℕ) (steps : List Step) (t : Step) → IsChain seps active a b steps → start_of seps t ≡ b → Contains active t.sep
    → All (λ u. u.sep ≢ t.sep) steps → IsChain seps active a (finish_of seps t) (steps ++ t ∷ [])
chain-push seps active a b steps t h e on new = record {
  leads = leads-push seps steps t a b h.leads e;
  on = All-push (λ u. Contains active u.sep) steps t h.on on;
  once = all_pairs_push (λ u v. u.sep ≢ v.sep) steps t h.once (λ k d c. new k d c);
}

-- ---- no two legs lead over one separation

sep-apart : (seps : List Sep) (active : List ℕ) (root : ℕ) (legs : List Leg) → IsTree seps active root legs → (j k : ℕ) → 0 < j → j < k → k < length legs → (leg_at legs j).sep ≢ (leg_at legs k).sep
sep-apart seps active root legs h j k above later b e =
    let one = h.leads j above (before j k (length legs) later b) in
    let other = h.leads k (after j k above later) b in
    by_ways (separation_at seps (leg_at legs j).sep) (leg_at legs j).along (leg_at legs k).along one.from one.to
    (subst (λ s. end_of (separation_at seps s) (leg_at legs k).along ≡ variable_at legs k) (sym e) other.to)
  where
    before : (j k n : ℕ) → j < k → k < n → j < n
    before j k n a b = omega arith

    after : (j k : ℕ) → 0 < j → j < k → 0 < k
    after j k a b = omega arith

    by_ways : (s : Sep) (al al' : Bool) → end_of s (not al) ≡ variable_at legs (leg_at legs j).parent → end_of s al ≡ variable_at legs j → end_of s al' ≡ variable_at legs k → ⊥
    by_ways s true true from to there = h.apart j k later b (sym to ∙ there)
    by_ways s false false from to there = h.apart j k later b (sym to ∙ there)
    by_ways s true false from to there = h.apart (leg_at legs j).parent k (before (leg_at legs j).parent j k (h.sooner j above (before j k (length legs) later b)) later) b (sym from ∙ there)
    by_ways s false true from to there = h.apart (leg_at legs j).parent k (before (leg_at legs j).parent j k (h.sooner j above (before j k (length legs) later b)) later) b (sym from ∙ there)

pub seps-differ : (seps : List Sep) (active : List ℕ) (root : ℕ) (legs : List Leg) → IsTree seps active root legs → (j k : ℕ) → 0 < j → j < length legs → 0 < k → k < length legs → j ≢ k → (leg_at legs j).sep ≢ (leg_at legs k).sep
seps-differ seps active root legs h j k a b a' b' ne = by_order (order j k ne)
  where
    order : (j k : ℕ) → j ≢ k → (j < k) ⊎ (k < j)
    order zero zero ne = absurd (ne refl)
    order zero (suc k) ne = inl (omega arith)
    order (suc j) zero ne = inr (omega arith)
    order (suc j) (suc k) ne = more (order j k (λ e. ne (ap suc e)))
      where
        more : (j < k) ⊎ (k < j) → (suc j < suc k) ⊎ (suc k < suc j)
        more (inl h) = inl (omega arith)
        more (inr h) = inr (omega arith)

    by_order : (j < k) ⊎ (k < j) → (leg_at legs j).sep ≢ (leg_at legs k).sep
    by_order (inl l) = sep-apart seps active root legs h j k a l b'
    by_order (inr l) = λ e. sep-apart seps active root legs h k j a' l b (sym e)

-- ---- from the root to a leg

-- the separation is that of one of the legs up to j
pub record IsUpTo (legs : List Leg) (j k : ℕ) : Type 0 where
  pub number : ℕ
  pub above : 0 < number
  pub upto : number ≤ j
  pub over : (leg_at legs number).sep ≡ k

-- the chain from the root to a leg
pub record IsRootChain (seps : List Sep) (active : List ℕ) (root : ℕ) (legs : List Leg) (j : ℕ) : Type 0 where
  pub steps : List Step
  pub chain : IsChain seps active root (variable_at legs j) steps
  pub far : (leg_at legs j).offset ≡ distance seps steps
  pub over : All (λ u. IsUpTo legs j u.sep) steps

chain_to : (seps : List Sep) (active : List ℕ) (root : ℕ) (legs : List Leg) → IsTree seps active root legs → (u j : ℕ) → j ≤ u → j < length legs → IsRootChain seps active root legs j
chain_to seps active root legs h u zero e b = record {
  steps = [];
  chain = record { leads = sym h.first; on = λ k d c. absurd (omega (arith, c)); once = λ i k d c g. absurd (omega (arith, c, g)) };
  far = h.home;
  over = λ k d c. absurd (omega (arith, c));
}
chain_to seps active root legs h zero (suc j) e b = absurd (omega (arith, e))
chain_to seps active root legs h (suc u) (suc j) e b =
    let leg = leg_at legs (suc j) in
    let sooner = h.sooner (suc j) (omega arith) b in
    let l = h.leads (suc j) (omega arith) b in
    let up = chain_to seps active root legs h u leg.parent (omega (arith, sooner, e)) (omega (arith, sooner, b)) in
    let t : Step = record { sep = leg.sep; along = leg.along } in
    record {
      steps = up.steps ++ t ∷ [];
      chain = subst (λ i. IsChain seps active root i (up.steps ++ t ∷ [])) l.to
          (chain-push seps active root (variable_at legs leg.parent) up.steps t up.chain l.from l.on
          (λ k d c. let w = up.over k d c in (λ q. seps-differ seps active root legs h w.number (suc j) w.above (reach w.number leg.parent (suc j) (length legs) w.upto sooner b) (omega arith) b (less w.number leg.parent (suc j) w.upto sooner) (w.over ∙ q))));
      far = l.far ∙ (ap (λ o. o +ℤ stride (separation_at seps leg.sep) leg.along) up.far ∙ sym (distance-push seps up.steps t));
      over = All-push (λ u. IsUpTo legs (suc j) u.sep) up.steps t (λ k d c. let w = up.over k d c in record { number = w.number; above = w.above; upto = later w.number leg.parent (suc j) w.upto sooner; over = w.over })
          (record { number = suc j; above = omega arith; upto = same (suc j); over = refl });
    }
  where
    same : (n : ℕ) → n ≤ n
    same n = omega arith

    reach : (n p j l : ℕ) → n ≤ p → p < j → j < l → n < l
    reach n p j l a b c = omega arith

    less : (n p j : ℕ) → n ≤ p → p < j → n ≢ j
    less n p j a b = omega arith

    later : (n p j : ℕ) → n ≤ p → p < j → n ≤ j
    later n p j a b = omega arith

pub root-chain : (seps : List Sep) (active : List ℕ) (root : ℕ) (legs : List Leg) → IsTree seps active root legs → (j : ℕ) → j < length legs → IsRootChain seps active root legs j
root-chain seps active root legs h j b = chain_to seps active root legs h j j (same j) b
  where
    same : (n : ℕ) → n ≤ n
    same n = omega arith

-- ---- chains stay within the block

stays : (seps : List Sep) (active : List ℕ) (root : ℕ) (legs : List Leg) → IsBlockTree seps active root legs → (steps : List Step) (a b : ℕ) → Leads seps steps a b
    → AllByRecursion (λ u. Contains active u.sep) steps → IsReached legs a → IsReached legs b
stays seps active root legs h [] a b leads on there = subst (λ i. IsReached legs i) leads there
stays seps active root legs h (t ∷ ts) a b leads on there =
    let w = on.0 in
    let is : active_at seps active w.0 ≡ separation_at seps t.sep = ap (λ i. separation_at seps i) (get_or_default active w.0 0 t.sep w.1 ∙ w.2) in
    stays seps active root legs h ts (finish_of seps t) b leads.1 on.1
    (subst (λ s. IsReached legs (end_of s t.along)) is
    (h.closed there.number there.among t.along w.0 w.1 (ap (λ s. end_of s (not t.along)) is ∙ (leads.0 ∙ sym there.is))))

-- what a chain joins to the root is reached
pub chain-reaches : (seps : List Sep) (active : List ℕ) (root : ℕ) (legs : List Leg) → IsBlockTree seps active root legs → (i : ℕ) (steps : List Step) → IsChain seps active root i steps → IsReached legs i
chain-reaches seps active root legs h i steps c =
    stays seps active root legs h steps root i c.leads (recursion_from_All (λ u. Contains active u.sep) steps c.on) (record { number = 0; among = h.tree.some; is = h.tree.first })
