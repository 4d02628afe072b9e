-- Within one block: the direction, and why some separation of the chain can fall.
use Rattle.std.proofs.Common.{◌≡◌, ℕ, ◌<◌, ℤ, pos, negsuc, ◌+ℤ◌, ◌-ℤ◌, ◌*ℤ◌, ◌≤ℤ◌, nat_abs, List, arith, refl, sym, ◌∙◌, ap, Bool, true, false, if◌then◌else◌, ◌⊎◌, inl, inr, eqb, eqb-true, subst}
use Rattle.std.proofs.lemmas.Int.{ints}
use lib.IntN.{*ℤ-zero, *ℤ_comm}
use Rattle.solver_law.specs.Step.{Step}
use Rattle.solver_law.proofs.Sums.{put_at, spread_less}
use Rattle.solver_law.proofs.Net.{net, net-add, net-scale, net-put}
use Rattle.solver_law.proofs.Flow.{flow, flow-net, flow-within}
use Rattle.solver_law.proofs.State.{Givens, Point, IsState}
use Rattle.solver_law.proofs.Response.{IsJoined}
pub use Rattle.solver_law.specs.Closing.{Holds}

-- 1 more on v, 1 less along the chain: nothing moves
abbrev pub turning : ℕ → List Step → Point
turning v ts = record { q = pos 0; x = λ i. pos 0; m = λ k. put_at v (pos 1) k +ℤ negsuc 0 *ℤ flow ts k }

pub turn : (p : Givens) (On Pushed : ℕ → Type 0) (v : ℕ) → v < p.s → Pushed v → ((k : ℕ) → On k → Pushed k)
    → (chain : IsJoined p On (p.l v) (p.r v)) → IsState p On Pushed (turning v chain.steps)
turn p On Pushed v below pushed more chain = record {
  tight = λ k h on. still (p.g k);
  within = λ k h. inside k (flow-within On chain.steps chain.on k) (eqb v k) refl;
  level = λ i h. balanced (pos 2 *ℤ p.w i) (p.d i) (put_at (p.r v) (pos 1) i) (put_at (p.l v) (pos 1) i) (net p.s p.l p.r (flow chain.steps) i) (flow-net p.s p.l p.r chain.steps (p.l v) (p.r v) i chain.leads chain.below)
      ∙ sym (net-add p.s p.l p.r (put_at v (pos 1)) (λ k. negsuc 0 *ℤ flow chain.steps k) i
      ∙ (ap (λ t. t +ℤ net p.s p.l p.r (λ k. negsuc 0 *ℤ flow chain.steps k) i) (net-put p.s p.l p.r v (pos 1) i below)
      ∙ ap (λ t. (put_at (p.r v) (pos 1) i -ℤ put_at (p.l v) (pos 1) i) +ℤ t) (net-scale p.s p.l p.r (negsuc 0) (flow chain.steps) i)));
}
  where
    still : (g : ℤ) → pos 0 -ℤ pos 0 ≡ pos 0 *ℤ g
    still g = sym (*ℤ_comm (pos 0) g ∙ *ℤ-zero g)

    inside : (k : ℕ) → (flow chain.steps k ≡ pos 0) ⊎ On k → (b : Bool) → eqb v k ≡ b → (put_at v (pos 1) k +ℤ negsuc 0 *ℤ flow chain.steps k ≡ pos 0) ⊎ Pushed k
    inside k h true e = inr (subst Pushed (eqb-true v k e) pushed)
    inside k (inr on) false e = inr (more k on)
    inside k (inl z) false e = inl (none (put_at v (pos 1) k) (flow chain.steps k) (ap (λ b. if b then pos 1 else pos 0) e) z)
      where
        none : (a b : ℤ) → a ≡ pos 0 → b ≡ pos 0 → a +ℤ negsuc 0 *ℤ b ≡ pos 0
        none a b e f = ap (λ t. t +ℤ negsuc 0 *ℤ b) e ∙ ap (λ t. pos 0 +ℤ negsuc 0 *ℤ t) f

    balanced : (u d a b f : ℤ) → f ≡ a -ℤ b → u *ℤ (pos 0 -ℤ pos 0 *ℤ d) ≡ (a -ℤ b) +ℤ negsuc 0 *ℤ f
    balanced u d a b f e =
        let none : pos 0 *ℤ d ≡ pos 0 = *ℤ_comm (pos 0) d ∙ *ℤ-zero d in
        let zero_u = *ℤ-zero u in
        rw none (zero_u ∙ omega (arith, ints))

pub scale_le : (Q : ℕ) (u v : ℤ) → u ≤ℤ v → (pos Q *ℤ u) ≤ℤ (pos Q *ℤ v)
scale_le Q u v h =
    let e : v -ℤ u ≡ pos (nat_abs (v -ℤ u)) = omega (arith, ints) in
    let s = spread_less (pos Q) v u in
    let f = rw e at s in
    omega (arith, ints, f)
