-- Rest, and the closing of one separation.
use Rattle.std.specs.Prelude.{◌≡◌, ℕ, ◌*◌, ◌<◌, ℤ, pos, ◌-ℤ◌, ◌*ℤ◌, ◌<ℤ◌, ◌≤ℤ◌, Bool, false, MatchBool}
use Rattle.solver_law.specs.State.{Givens, Point, IsState}
use Rattle.solver_law.specs.Forest.{With}
use Rattle.solver_law.specs.Cost.{cost, lack, worth}

-- the separations, exact ones among them, hold at the places y / q
pub record Holds (p : Givens) (exact : ℕ → Bool) (y : ℕ → ℤ) (q : ℕ) : Type 0 where
  pub above : 0 < q
  pub holds : (k : ℕ) → k < p.s → MatchBool (exact k) (y (p.r k) -ℤ y (p.l k) ≡ pos q *ℤ p.g k) ((pos q *ℤ p.g k) ≤ℤ (y (p.r k) -ℤ y (p.l k)))

-- the multiplier of a separation that isn't exact is at least 0
abbrev pub SignsAreRight : Givens → (ℕ → Bool) → Point → Type 0
SignsAreRight p exact a = (k : ℕ) → k < p.s → exact k ≡ false → pos 0 ≤ℤ a.m k

-- at rest, over Q: the active separations are tight, they alone push, and the signs are right
pub record AtRest (p : Givens) (exact : ℕ → Bool) (On : ℕ → Type 0) (point : Point) (Q : ℕ) : Type 0 where
  pub above : 0 < Q
  pub over : point.q ≡ pos Q
  pub state : IsState p On On point
  pub signs : SignsAreRight p exact point

-- the separation v is being closed, over Q: it pushes too, and something is missing yet. The worth is at least bound / F².
pub record InClosing (p : Givens) (exact : ℕ → Bool) (On : ℕ → Type 0) (v : ℕ) (bound : ℤ) (F : ℕ) (point : Point) (Q : ℕ) : Type 0 where
  pub above : 0 < Q
  pub over : point.q ≡ pos Q
  pub state : IsState p On (With On v) point
  pub signs : SignsAreRight p exact point
  pub missing : pos 0 <ℤ lack p point v
  pub force : pos 0 ≤ℤ point.m v
  pub worthy : (pos (Q * Q) *ℤ bound) ≤ℤ (pos (F * F) *ℤ worth p v point)

-- v is active and the state at rest, over Q, costs more than bound / F²
pub record Closed (p : Givens) (exact : ℕ → Bool) (On : ℕ → Type 0) (v : ℕ) (bound : ℤ) (F : ℕ) (point : Point) (Q : ℕ) : Type 0 where
  pub rest : AtRest p exact (With On v) point Q
  pub larger : (pos (Q * Q) *ℤ bound) <ℤ (pos (F * F) *ℤ cost p point)
