-- A closing begins at rest.
use Rattle.std.proofs.Common.{◌≡◌, ℕ, ◌*◌, ◌<◌, ℤ, pos, ◌-ℤ◌, ◌*ℤ◌, ◌<ℤ◌, List, length, ◌⊎◌, inl, inr, Bool, true, false, MatchBool, Result, Ok, Err, IfOk, arith}
use Rattle.std.proofs.lemmas.Int.{ints}
use Rattle.units.specs.Problem.{Problem}
use Rattle.solver_law.specs.State.{Point}
use Rattle.solver_law.proofs.Closing.{AtRest, begin}
use Rattle.solver_law.proofs.Progress.{cost, lack}
use Rattle.block_sums.specs.Solving.{givens_of, Active}
use Rattle.vpsc_solve.specs.Stops.{IsUnderWay, IsViolation}
use Rattle.block_sums.specs.Rest.{exact_of}

-- bound over F squared is the cost at rest
pub begins : (p : Problem) (active : List ℕ) (v : ℕ) (point : Point) (Q : ℕ) (bound : ℤ) (F : ℕ) → AtRest (givens_of p) (exact_of p) (Active active) point Q → v < length p.separations → (Active active v → ⊥)
    → pos 0 <ℤ lack (givens_of p) point v → pos (Q * Q) *ℤ bound ≡ pos (F * F) *ℤ cost (givens_of p) point → IsUnderWay p (Active active) v bound F
begins p active v point Q bound F rest below off missing same = record {
  point = point;
  Q = Q;
  closing = begin (givens_of p) (exact_of p) (Active active) v bound F point Q rest missing (idle (rest.state.within v below)) same;
}
  where
    idle : (point.m v ≡ pos 0) ⊎ Active active v → point.m v ≡ pos 0
    idle (inl e) = e
    idle (inr on) = absurd (off on)

-- a violated separation isn't active
pub violated-off : (p : Problem) (active : List ℕ) (v : ℕ) (above : Bool) (bound : ℤ) (F : ℕ) → v < length p.separations → IsViolation p active v above bound F → Active active v → ⊥
violated-off p active v above bound F below h on = by_case above h.missing
  where
    none : (x e : ℤ) → x ≡ e → e -ℤ x ≡ pos 0
    none x e h = omega (arith, ints, h)

    zero : lack (givens_of p) h.point v ≡ pos 0
    zero = none (h.point.x ((givens_of p).r v) -ℤ h.point.x ((givens_of p).l v)) (h.point.q *ℤ (givens_of p).g v) (h.rest.state.tight v below on)

    low : (z : ℤ) → z ≡ pos 0 → z <ℤ pos 0 → ⊥
    low z e k = absurd (omega (arith, ints, e, k))

    high : (z : ℤ) → z ≡ pos 0 → pos 0 <ℤ z → ⊥
    high z e k = absurd (omega (arith, ints, e, k))

    by_case : (b : Bool) → MatchBool b ((exact_of p v ≡ true) × (lack (givens_of p) h.point v <ℤ pos 0)) (pos 0 <ℤ lack (givens_of p) h.point v) → ⊥
    by_case true m = low (lack (givens_of p) h.point v) zero m.1
    by_case false m = high (lack (givens_of p) h.point v) zero m

-- the closing of a separation whose ends stand too near begins
pub begins-below : (p : Problem) (active : List ℕ) (v : ℕ) (bound : ℤ) (F : ℕ) → v < length p.separations → IsViolation p active v false bound F → IsUnderWay p (Active active) v bound F
begins-below p active v bound F below h = begins p active v h.point h.Q bound F h.rest below (violated-off p active v false bound F below h) h.missing h.same

-- what holds of the value of a result, if there is one
pub if-ok : {T E : Type 0} (P Q : T → Type 0) (r : Result T E) → ((x : T) → P x → Q x) → IfOk r P → IfOk r Q
if-ok P Q (Ok v) up h = up v h
if-ok P Q (Err e) up h = tt
