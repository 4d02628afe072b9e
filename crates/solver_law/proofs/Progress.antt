-- From one stop to the next the potential rises.
use Rattle.std.proofs.Common.{◌≡◌, ℕ, ◌<◌, ℤ, pos, ◌+ℤ◌, ◌-ℤ◌, ◌*ℤ◌, arith, ◌∙◌, ap, ◌≢◌}
use Rattle.std.proofs.lemmas.Int.{ints}
use Rattle.solver_law.proofs.Ring.{dif_of, dif_pos, difs, dif_same}
use Rattle.solver_law.proofs.Sums.{sum_to, sum-add, sum-same}
use Rattle.solver_law.proofs.State.{Givens, Point, IsState}
use Rattle.solver_law.proofs.Cut.{EndsBelow, exerted, cut}
pub use Rattle.solver_law.specs.Cost.{cost, lack}

-- how far the places have moved
abbrev pub way : Givens → Point → Point → ℤ
way p a b = sum_to p.n (λ i. p.w i *ℤ ((b.x i -ℤ a.x i) *ℤ (b.x i -ℤ a.x i)))

one_variable : (w x y e : ℤ) → w *ℤ ((y -ℤ e) *ℤ (y -ℤ e)) ≡ (w *ℤ ((x -ℤ e) *ℤ (x -ℤ e)) +ℤ w *ℤ ((y -ℤ x) *ℤ (y -ℤ x))) +ℤ (y -ℤ x) *ℤ ((pos 2 *ℤ w) *ℤ (x -ℤ e))
one_variable w x y e = rw (dif_of w, dif_of x, dif_of y, dif_of e, dif_pos 2) (simp difs (dif_same _ _ _ _ (omega arith)))

-- the cost of any placement over the same q, from a state
pub cost-split : (p : Givens) (a b : Point) → b.q ≡ a.q → cost p b ≡ (cost p a +ℤ way p a b) +ℤ exerted p a (λ i. b.x i -ℤ a.x i)
cost-split p a b same =
    sum-same p.n _ _ (λ i h. ap (λ q. p.w i *ℤ ((b.x i -ℤ q *ℤ p.d i) *ℤ (b.x i -ℤ q *ℤ p.d i))) same ∙ one_variable (p.w i) (a.x i) (b.x i) (a.q *ℤ p.d i))
    ∙ sum-add p.n (λ i. p.w i *ℤ ((a.x i -ℤ a.q *ℤ p.d i) *ℤ (a.x i -ℤ a.q *ℤ p.d i)) +ℤ p.w i *ℤ ((b.x i -ℤ a.x i) *ℤ (b.x i -ℤ a.x i))) (λ i. (b.x i -ℤ a.x i) *ℤ ((pos 2 *ℤ p.w i) *ℤ (a.x i -ℤ a.q *ℤ p.d i)))
    ∙ ap (λ t. t +ℤ exerted p a (λ i. b.x i -ℤ a.x i)) (sum-add p.n (λ i. p.w i *ℤ ((a.x i -ℤ a.q *ℤ p.d i) *ℤ (a.x i -ℤ a.q *ℤ p.d i))) (λ i. p.w i *ℤ ((b.x i -ℤ a.x i) *ℤ (b.x i -ℤ a.x i))))

-- tight in both, so moved alike
moved_alike : (xr xl yr yl e : ℤ) → xr -ℤ xl ≡ e → yr -ℤ yl ≡ e → yr -ℤ xr ≡ yl -ℤ xl
moved_alike xr xl yr yl e h h' = omega (arith, ints)

-- v is the separation that is being closed: On holds the active ones, and the multiplier of v is the force
pub record IsOnOr (On Pushed : ℕ → Type 0) (v : ℕ) : Type 0 where
  pub only : (k : ℕ) → k ≢ v → Pushed k → On k

pub progress : (p : Givens) (On Pushed : ℕ → Type 0) (v : ℕ) (a b : Point) → EndsBelow p → v < p.s → IsOnOr On Pushed v
    → IsState p On Pushed a → IsState p On Pushed b → b.q ≡ a.q
    → cost p b +ℤ b.m v *ℤ lack p b v ≡ ((cost p a +ℤ a.m v *ℤ lack p a v) +ℤ way p a b) +ℤ (b.m v -ℤ a.m v) *ℤ lack p b v
progress p On Pushed v a b ends below closing ha hb same =
    let split = cost-split p a b same in
    let work = cut p On Pushed a (λ i. b.x i -ℤ a.x i) v ends ha below (λ k h ne pushed.
    moved_alike (a.x (p.r k)) (a.x (p.l k)) (b.x (p.r k)) (b.x (p.l k)) (a.q *ℤ p.g k) (ha.tight k h (closing.only k ne pushed))
    (hb.tight k h (closing.only k ne pushed) ∙ ap (λ q. q *ℤ p.g k) same)) in
    finish_up (cost p a) (cost p b) (way p a b) _ (a.x (p.r v)) (a.x (p.l v)) (b.x (p.r v)) (b.x (p.l v)) (a.q *ℤ p.g v) (b.q *ℤ p.g v) (a.m v) (b.m v)
    split work (ap (λ q. q *ℤ p.g v) same)
  where
    ring : (xr xl yr yl e f f' : ℤ) → ((yr -ℤ xr) -ℤ (yl -ℤ xl)) *ℤ f +ℤ f' *ℤ (e -ℤ (yr -ℤ yl)) ≡ f *ℤ (e -ℤ (xr -ℤ xl)) +ℤ (f' -ℤ f) *ℤ (e -ℤ (yr -ℤ yl))
    ring xr xl yr yl e f f' = rw (dif_of xr, dif_of xl, dif_of yr, dif_of yl, dif_of e, dif_of f, dif_of f') (simp difs (dif_same _ _ _ _ (omega arith)))

    finish_up : (A B W E xr xl yr yl e e' f f' : ℤ) → B ≡ (A +ℤ W) +ℤ E → E ≡ ((yr -ℤ xr) -ℤ (yl -ℤ xl)) *ℤ f → e' ≡ e
        → B +ℤ f' *ℤ (e' -ℤ (yr -ℤ yl)) ≡ ((A +ℤ f *ℤ (e -ℤ (xr -ℤ xl))) +ℤ W) +ℤ (f' -ℤ f) *ℤ (e' -ℤ (yr -ℤ yl))
    finish_up A B W E xr xl yr yl e e' f f' split work eq =
        let k = ring xr xl yr yl e f f' in
        rw eq (omega (arith, ints, split, work, k))
