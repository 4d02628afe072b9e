-- What a state costs, and what is missing at a separation.
use Rattle.std.specs.Prelude.{ℕ, ℤ, ◌+ℤ◌, ◌-ℤ◌, ◌*ℤ◌}
use Rattle.solver_law.specs.State.{sum_to, Givens, Point}

-- the weighted squared distance from the desired places, to be read over q squared
abbrev pub cost : Givens → Point → ℤ
cost p a = sum_to p.n (λ i. p.w i *ℤ ((a.x i -ℤ a.q *ℤ p.d i) *ℤ (a.x i -ℤ a.q *ℤ p.d i)))

-- how much the ends of a separation stand nearer than its gap, to be read over q
abbrev pub lack : Givens → Point → ℕ → ℤ
lack p a v = a.q *ℤ p.g v -ℤ (a.x (p.r v) -ℤ a.x (p.l v))

-- the cost of a state in which v is being closed, and the force on v times what is missing there: it never falls
abbrev pub worth : Givens → ℕ → Point → ℤ
worth p v a = cost p a +ℤ a.m v *ℤ lack p a v
