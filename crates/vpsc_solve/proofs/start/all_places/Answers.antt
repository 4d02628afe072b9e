use Rattle.std.proofs.Common.{◌≡◌, ◌<◌, ℕ, List, length, get_or, subst, sym, ◌∙◌, ap, inr}
use Rattle.vpsc_solve.specs.Places.{IsJoinedTo}
use Rattle.vpsc_solve.proofs.Starting.{own-root}
use Rattle.vpsc_solve.proofs.start.all_places.Goals as goal

-- the count that the roots were made for
for-count : (all : List ℕ) (n m : ℕ) → n ≡ m → ((k : ℕ) → k < n → get_or all k 0 ≡ k) → (k : ℕ) → k < m → get_or all k 0 ≡ k
for-count all n m e h = subst (λ n. (k : ℕ) → k < n → get_or all k 0 ≡ k) e h

pub settle-requires-clause-others : goal.settle-requires-clause-others
settle-requires-clause-others c =
    let p = c.args.problem.now in
    let all = c.in_ok-roots.roots.items in
    let count : length c.desired-count.result.now ≡ length p.desired = ap length c.desired-count.ensures.value in
    λ i b. inr (subst (λ l. IsJoinedTo p c.args.active.now l i) (sym c.deref.ensures.value)
    (own-root p c.args.active.now all i (c.in_ok-roots.ensures.counted ∙ count) (for-count all (length c.desired-count.result.now) (length p.desired) count c.in_ok-roots.ensures.each) b))
