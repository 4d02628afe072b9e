-- The start: each variable is a root.
use Rattle.std.proofs.Common.{◌≡◌, ℕ, ◌<◌, List, length, get_or, sym, ◌∙◌, subst}
use Rattle.std.proofs.lemmas.List.{get_or_default}
use Rattle.units.specs.Problem.{Problem}
use Rattle.solver_law.proofs.Forest.{joins-self}
use Rattle.vpsc_solve.specs.Places.{IsJoinedTo}

pub own-root : (p : Problem) (active all : List ℕ) (i : ℕ) → length all ≡ length p.desired → ((k : ℕ) → k < length p.desired → get_or all k 0 ≡ k) → i < length p.desired → IsJoinedTo p active all i
own-root p active all i long each b = record {
  root = i;
  among = (i, subst (λ n. i < n) (sym long) b, get_or_default all i i 0 (subst (λ n. i < n) (sym long) b) ∙ each i b);
  joins = joins-self i;
}
