-- Labels as a separation is taken from a hint.
use Rattle.std.proofs.Common.{◌≡◌, ◌≢◌, ℕ, ◌<◌, List, [], ◌∷◌, ◌++◌, length, refl, sym, ap, ◌∙◌, subst, Bool, true, false, inl, inr, if◌then◌else◌}
use Rattle.std.specs.List.{AllByRecursion}
use Rattle.units.specs.Problem.{Problem}
use Rattle.units.specs.Problem as stated
use Rattle.units.specs.Separation.{no_separation, separation_at}
use Rattle.solver_law.specs.Step.{Step}
use Rattle.solver_law.specs.Forest.{Joins, With, Leads, finish}
use Rattle.block_sums.specs.Solving.{givens_of, Active, IsActive}
use Rattle.vpsc_solve.specs.Hints.{label_at, relabelled, AreJoined, AreLabelled}
use Rattle.vpsc_solve.proofs.Lists.{pushed-has, has-pushed}
use Rattle.vpsc_solve.proofs.Blocks.{relabelled-both, relabelled-joined}

-- what is joined has one label
pub joined-label : (p : Problem) (active labels : List ℕ) (a b : ℕ) → AreLabelled p active labels → Joins (givens_of p).l (givens_of p).r (Active active) a b → label_at labels a ≡ label_at labels b
joined-label p active labels a b h chain = go chain.steps a chain.leads chain.on
  where
    one : (k : ℕ) (along : Bool) → Active active k → label_at labels (if along then (givens_of p).l k else (givens_of p).r k) ≡ label_at labels (if along then (givens_of p).r k else (givens_of p).l k)
    one k true on = h.ends k on
    one k false on = sym (h.ends k on)

    go : (ts : List Step) (a : ℕ) → Leads (givens_of p).l (givens_of p).r ts a b → AllByRecursion (λ t. Active active t.sep) ts → label_at labels a ≡ label_at labels b
    go [] a leads on = ap (λ i. label_at labels i) leads
    go (t ∷ ts) a leads on = ap (λ i. label_at labels i) (sym leads.0) ∙ (one t.sep t.along on.0 ∙ go ts (finish (givens_of p).l (givens_of p).r t) leads.1 on.1)

-- two labels: not joined
pub apart-joined : (p : Problem) (active labels : List ℕ) (v : ℕ) → AreLabelled p active labels → label_at labels (separation_at p.separations v).left ≢ label_at labels (separation_at p.separations v).right
    → AreJoined p active (separation_at p.separations v).left (separation_at p.separations v).right → ⊥
apart-joined p active labels v h apart chain = apart (joined-label p active labels ((givens_of p).l v) ((givens_of p).r v) h chain)

-- a separation that is taken, and the labels behind it
pub taken-labelled : (p : Problem) (active new labels labels' : List ℕ) (v : ℕ) → stated.IsBounded p → IsActive p active → AreLabelled p active labels → new ≡ active ++ v ∷ [] → v < length p.separations
    → length labels' ≡ length labels
    → ((i : ℕ) → i < length labels → label_at labels' i ≡ relabelled (label_at labels (separation_at p.separations v).right) (label_at labels (separation_at p.separations v).left) (label_at labels i))
    → AreLabelled p new labels'
taken-labelled p active new labels labels' v bounded forest h e below long each = record {
  as_long = long ∙ h.as_long;
  ends = λ k on. by_case k (pushed-has active v k (subst (λ l. Active l k) e on));
  joined = λ a b ba bb q. relabelled-joined (givens_of p).l (givens_of p).r (Active active) (Active new) (λ i. i < length p.desired) v (λ i. label_at labels i) (λ k on. over k (inl on)) (over v (inr refl))
      (end v below).left (end v below).right h.joined a b ba bb (sym (now a ba) ∙ (q ∙ now b bb));
}
  where
    end : (k : ℕ) → k < length p.separations → stated.IsSeparation (length p.desired) (separation_at p.separations k)
    end k b = bounded.sound k no_separation b

    over : (k : ℕ) → With (Active active) v k → Active new k
    over k w = subst (λ l. Active l k) (sym e) (has-pushed active v k w)

    now : (i : ℕ) → i < length p.desired → label_at labels' i ≡ relabelled (label_at labels (separation_at p.separations v).right) (label_at labels (separation_at p.separations v).left) (label_at labels i)
    now i b = each i (subst (λ n. i < n) (sym h.as_long) b)

    here : label_at labels' (separation_at p.separations v).left ≡ label_at labels' (separation_at p.separations v).right
    here = now _ (end v below).left ∙ (relabelled-both (label_at labels (separation_at p.separations v).right) (label_at labels (separation_at p.separations v).left) ∙ sym (now _ (end v below).right))

    by_case : (k : ℕ) → With (Active active) v k → label_at labels' (separation_at p.separations k).left ≡ label_at labels' (separation_at p.separations k).right
    by_case k (inl on) =
        let b = subst (λ i. i < length p.separations) on.2 (forest.below on.0 k on.1) in
        now _ (end k b).left ∙ (ap (λ t. relabelled (label_at labels (separation_at p.separations v).right) (label_at labels (separation_at p.separations v).left) t) (h.ends k on) ∙ sym (now _ (end k b).right))
    by_case k (inr q) = subst (λ k. label_at labels' (separation_at p.separations k).left ≡ label_at labels' (separation_at p.separations k).right) (sym q) here
