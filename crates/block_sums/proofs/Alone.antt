-- A list of one separation: no chain of it ends where it starts, and it joins its ends.
use Rattle.std.proofs.Common.{◌≡◌, ◌≢◌, ℕ, zero, suc, ◌<◌, List, [], ◌∷◌, length, get_or, arith, refl, sym, ◌∙◌, ap, subst, Bool, true, false, not}
use Rattle.std.specs.List.{Contains}
use Rattle.units.specs.declared.geometry.Sep.{Sep}
use Rattle.units.specs.Problem.{Problem}
use Rattle.block_sums.specs.declared.paths.Step.{Step}
use Rattle.units.specs.Separation.{separation_at}
use Rattle.block_sums.specs.Ends.{end_of}
use Rattle.block_sums.specs.Blocks.{IsChain, IsOpen, AreJoined}

contains-one : (k x : ℕ) → Contains (k ∷ []) x → k ≡ x
contains-one k x w = by_case w.0 w.1 w.2
  where
    by_case : (j : ℕ) → j < 1 → get_or (k ∷ []) j x ≡ x → k ≡ x
    by_case zero b e = e
    by_case (suc j) b e = absurd (omega (arith, b))

closes : (p : Problem) (k v : ℕ) (t : Step) (ts : List Step) → (separation_at p.separations k).left ≢ (separation_at p.separations k).right → IsChain p.separations (k ∷ []) v v (t ∷ ts) → ⊥
closes p k v t [] apart c =
    let e = contains-one k t.sep (c.on 0 t (omega arith)) in
    by_way (separation_at p.separations k) t.along apart (subst (λ j. end_of (separation_at p.separations j) (not t.along) ≡ v) (sym e) c.leads.0) (subst (λ j. end_of (separation_at p.separations j) t.along ≡ v) (sym e) c.leads.1)
  where
    by_way : (s : Sep) (al : Bool) → s.left ≢ s.right → end_of s (not al) ≡ v → end_of s al ≡ v → ⊥
    by_way s true ne from to = ne (from ∙ sym to)
    by_way s false ne from to = ne (to ∙ sym from)
closes p k v t (u ∷ us) apart c =
    c.once 0 1 t (omega arith) (omega arith) (sym (contains-one k t.sep (c.on 0 t (omega arith))) ∙ contains-one k u.sep (c.on 1 t (omega arith)))

pub open-alone : (p : Problem) (active : List ℕ) (k : ℕ) → active ≡ k ∷ [] → k < length p.separations → (separation_at p.separations k).left ≢ (separation_at p.separations k).right → IsOpen p active
open-alone p active k e below apart = subst (λ l. IsOpen p l) (sym e) (record {
  below = λ j d b. at j d b;
  differ = λ i j d a b. absurd (omega (arith, a, b));
  none_closes = λ v t ts c. closes p k v t ts apart c;
})
  where
    at : (j d : ℕ) → j < 1 → get_or (k ∷ []) j d < length p.separations
    at zero d b = below
    at (suc j) d b = absurd (omega (arith, b))

pub joined-alone : (p : Problem) (active : List ℕ) (k from to : ℕ) (along : Bool) → active ≡ k ∷ [] → end_of (separation_at p.separations k) (not along) ≡ from → end_of (separation_at p.separations k) along ≡ to → AreJoined p active from to
joined-alone p active k from to along e f g = subst (λ l. AreJoined p l from to) (sym e) (record {
  steps = record { sep = k; along = along } ∷ [];
  chain = record {
    leads = (f, g);
    on = λ j d b. at j d b;
    once = λ i j d a b. absurd (omega (arith, a, b));
  };
})
  where
    at : (j : ℕ) (d : Step) → j < 1 → Contains (k ∷ []) (get_or (record { sep = k; along = along } ∷ []) j d).sep
    at zero d b = (0, omega arith, refl)
    at (suc j) d b = absurd (omega (arith, b))

pub one-element : (xs : List ℕ) (k : ℕ) → length xs ≡ 1 → get_or xs 0 0 ≡ k → xs ≡ k ∷ []
one-element [] k e f = absurd (omega (arith, e))
one-element (x ∷ []) k e f = ap (λ t. t ∷ []) f
one-element (x ∷ y ∷ ys) k e f = absurd (omega (arith, e))
