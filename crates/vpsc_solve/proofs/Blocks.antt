-- The blocks that a list of separations makes, by labels: two variables have one label exactly where the list joins them.
use Rattle.std.proofs.Common.{◌≡◌, ◌≢◌, ℕ, zero, suc, ◌<◌, ◌≤◌, ℤ, pos, ◌+ℤ◌, ◌<ℤ◌, ◌≤ℤ◌, List, [], ◌∷◌, arith, refl, sym, ap, ◌∙◌, subst, Bool, true, false, ◌⊎◌, inl, inr, if◌then◌else◌, eqb, eqb-true}
use Rattle.std.specs.List.{AllByRecursion}
use Rattle.std.proofs.lemmas.Bool.{eqb-false}
use Rattle.std.proofs.lemmas.Int.{ints}
use borrow.Author.Tests.{eq-eqb, ne_eqb}
use Rattle.solver_law.specs.State.{put_at}
use Rattle.solver_law.proofs.Sums.{put_at-same, put_at-other}
use Rattle.solver_law.proofs.Forest.{Joins, joins-self, joins-step, joins-then, joins-back, joins-more}
use Rattle.solver_law.proofs.Response.{count_in, weight_in}
use Rattle.block_sums.specs.Solving.{Active}
use Rattle.vpsc_solve.specs.Hints.{relabelled}
use Rattle.vpsc_solve.proofs.Lists.{here-or-later, here, later}

-- ---- one label takes the place of another

-- both labels become one
pub relabelled-both : (from to : ℕ) → relabelled from to to ≡ relabelled from to from
relabelled-both from to = alike (eqb to from) ∙ sym (ap (λ b. if b then to else from) (eq-eqb from from refl))
  where
    alike : (b : Bool) → (if b then to else to) ≡ to
    alike true = refl
    alike false = refl

-- the label of the left end of v takes the place of that of its right end: where one label joins, it does over v too
pub relabelled-joined : (l r : ℕ → ℕ) (On More Near : ℕ → Type 0) (v : ℕ) (f : ℕ → ℕ) → ((k : ℕ) → On k → More k) → More v → Near (l v) → Near (r v) → ((a b : ℕ) → Near a → Near b → f a ≡ f b → Joins l r On a b)
    → (i j : ℕ) → Near i → Near j → relabelled (f (r v)) (f (l v)) (f i) ≡ relabelled (f (r v)) (f (l v)) (f j) → Joins l r More i j
relabelled-joined l r On More Near v f up on nl nr same i j ni nj e = by_case (eqb (f i) (f (r v))) refl (eqb (f j) (f (r v))) refl e
  where
    wide : (a b : ℕ) → Near a → Near b → f a ≡ f b → Joins l r More a b
    wide a b na nb e = joins-more l r On More a b up (same a b na nb e)

    back : Joins l r More (r v) (l v)
    back = joins-step l r More (record { sep = v; along = false }) (l v) on (joins-self (l v))

    by_case : (b : Bool) → eqb (f i) (f (r v)) ≡ b → (c : Bool) → eqb (f j) (f (r v)) ≡ c → (if b then f (l v) else f i) ≡ (if c then f (l v) else f j) → Joins l r More i j
    by_case true p true q e = wide i j ni nj (eqb-true _ _ p ∙ sym (eqb-true _ _ q))
    by_case true p false q e = joins-then l r More i (r v) j (wide i (r v) ni nr (eqb-true _ _ p)) (joins-then l r More (r v) (l v) j back (wide (l v) j nl nj e))
    by_case false p true q e = joins-then l r More i (l v) j (wide i (l v) ni nl e) (joins-then l r More (l v) (r v) j (joins-back l r More (r v) (l v) back) (wide (r v) j nr nj (sym (eqb-true _ _ q))))
    by_case false p false q e = wide i j ni nj e

-- ---- the labels of a list

-- each variable has its number as its label, until separations join it
abbrev pub label : (ℕ → ℕ) → (ℕ → ℕ) → List ℕ → ℕ → ℕ
label l r [] i = i
label l r (v ∷ rest) i = relabelled (label l r rest (r v)) (label l r rest (l v)) (label l r rest i)

-- one label: joined
pub label-joined : (l r : ℕ → ℕ) (xs : List ℕ) (i j : ℕ) → label l r xs i ≡ label l r xs j → Joins l r (Active xs) i j
label-joined l r [] i j e = subst (λ t. Joins l r (Active []) i t) e (joins-self i)
label-joined l r (v ∷ rest) i j e =
    relabelled-joined l r (Active rest) (Active (v ∷ rest)) (λ k. Unit {0}) v (label l r rest) (λ k w. later v rest k w) (here v rest v refl) tt tt (λ a b na nb q. label-joined l r rest a b q) i j tt tt e

-- the ends of a separation of the list have one label
pub label-ends : (l r : ℕ → ℕ) (xs : List ℕ) (k : ℕ) → Active xs k → label l r xs (l k) ≡ label l r xs (r k)
label-ends l r [] k w = absurd (let b = w.1 in omega (arith, b))
label-ends l r (v ∷ rest) k w = by_case (here-or-later v rest k w) (λ u. label-ends l r rest k u)
  where
    by_case : (v ≡ k) ⊎ Active rest k → (Active rest k → label l r rest (l k) ≡ label l r rest (r k)) → label l r (v ∷ rest) (l k) ≡ label l r (v ∷ rest) (r k)
    by_case (inl e) same = subst (λ k. label l r (v ∷ rest) (l k) ≡ label l r (v ∷ rest) (r k)) e (relabelled-both (label l r rest (r v)) (label l r rest (l v)))
    by_case (inr u) same = ap (λ t. relabelled (label l r rest (r v)) (label l r rest (l v)) t) (same u)

-- ---- the numbers below n with one label

abbrev pub labelled : (ℕ → ℕ) → ℕ → ℕ → List ℕ
labelled f t zero = []
labelled f t (suc n) = if eqb (f n) t then n ∷ labelled f t n else labelled f t n

pub labelled-each : (P : ℕ → Type 0) (f : ℕ → ℕ) (t n : ℕ) → ((i : ℕ) → i < n → f i ≡ t → P i) → AllByRecursion P (labelled f t n)
labelled-each P f t zero h = tt
labelled-each P f t (suc n) h = by_case (eqb (f n) t) refl (labelled-each P f t n (λ i b e. h i (omega (arith, b)) e))
  where
    by_case : (b : Bool) → eqb (f n) t ≡ b → AllByRecursion P (labelled f t n) → AllByRecursion P (if b then n ∷ labelled f t n else labelled f t n)
    by_case true q rest = (h n (omega arith) (eqb-true (f n) t q), rest)
    by_case false q rest = rest

-- none of n or above
count-beyond : (f : ℕ → ℕ) (t n j : ℕ) → n ≤ j → count_in (labelled f t n) j ≡ pos 0
count-beyond f t zero j b = refl
count-beyond f t (suc n) j b = by_case (eqb (f n) t) (count-beyond f t n j (omega (arith, b))) (put_at-other n j (pos 1) (apart n j b))
  where
    apart : (n j : ℕ) → suc n ≤ j → n ≢ j
    apart n j b e = absurd (omega (arith, b, e))

    by_case : (b : Bool) → count_in (labelled f t n) j ≡ pos 0 → put_at n (pos 1) j ≡ pos 0 → count_in (if b then n ∷ labelled f t n else labelled f t n) j ≡ pos 0
    by_case true h g = omega (arith, ints, h, g)
    by_case false h g = h

-- each that has the label is counted once
pub count-labelled : (f : ℕ → ℕ) (t n j : ℕ) → j < n → count_in (labelled f t n) j ≡ (if eqb (f j) t then pos 1 else pos 0)
count-labelled f t zero j b = absurd (omega (arith, b))
count-labelled f t (suc n) j b = by_case (eqb j n) refl (λ c. count-labelled f t n j c)
  where
    plus_zero : (u v w : ℤ) → u ≡ w → v ≡ pos 0 → u +ℤ v ≡ w
    plus_zero u v w e f = omega (arith, ints, e, f)

    zero_plus : (u v w : ℤ) → u ≡ pos 0 → v ≡ w → u +ℤ v ≡ w
    zero_plus u v w e f = omega (arith, ints, e, f)

    at_n : (b : Bool) → count_in (if b then n ∷ labelled f t n else labelled f t n) n ≡ (if b then pos 1 else pos 0)
    at_n true = plus_zero (put_at n (pos 1) n) (count_in (labelled f t n) n) (pos 1) (put_at-same n (pos 1)) (count-beyond f t n n (omega arith))
    at_n false = count-beyond f t n n (omega arith)

    before : (b : Bool) (w : ℤ) → n ≢ j → count_in (labelled f t n) j ≡ w → count_in (if b then n ∷ labelled f t n else labelled f t n) j ≡ w
    before true w ne h = zero_plus (put_at n (pos 1) j) (count_in (labelled f t n) j) w (put_at-other n j (pos 1) ne) h
    before false w ne h = h

    below : (j n : ℕ) → j < suc n → j ≢ n → j < n
    below j n b ne = omega arith

    by_case : (c : Bool) → eqb j n ≡ c → (j < n → count_in (labelled f t n) j ≡ (if eqb (f j) t then pos 1 else pos 0)) → count_in (labelled f t (suc n)) j ≡ (if eqb (f j) t then pos 1 else pos 0)
    by_case true q rest = subst (λ j. count_in (labelled f t (suc n)) j ≡ (if eqb (f j) t then pos 1 else pos 0)) (sym (eqb-true j n q)) (at_n (eqb (f n) t))
    by_case false q rest = before (eqb (f n) t) _ (λ e. eqb-false j n q (sym e)) (rest (below j n b (eqb-false j n q)))

pub count-one : (f : ℕ → ℕ) (t n j : ℕ) → j < n → f j ≡ t → count_in (labelled f t n) j ≡ pos 1
count-one f t n j b e = count-labelled f t n j b ∙ ap (λ c. if c then pos 1 else pos 0) (eq-eqb (f j) t e)

pub count-none : (f : ℕ → ℕ) (t n j : ℕ) → j < n → f j ≢ t → count_in (labelled f t n) j ≡ pos 0
count-none f t n j b ne = count-labelled f t n j b ∙ ap (λ c. if c then pos 1 else pos 0) (ne_eqb (f j) t ne)

-- ---- they weigh something

weight-not-below : (w : ℕ → ℤ) (f : ℕ → ℕ) (t n : ℕ) → ((i : ℕ) → i < n → pos 0 <ℤ w i) → pos 0 ≤ℤ weight_in w (labelled f t n)
weight-not-below w f t zero h = omega (arith, ints)
weight-not-below w f t (suc n) h = by_case (eqb (f n) t) (h n (omega arith)) (weight-not-below w f t n (λ i b. h i (omega (arith, b))))
  where
    by_case : (b : Bool) → pos 0 <ℤ w n → pos 0 ≤ℤ weight_in w (labelled f t n) → pos 0 ≤ℤ weight_in w (if b then n ∷ labelled f t n else labelled f t n)
    by_case true a r = omega (arith, ints, a, r)
    by_case false a r = r

pub weight-labelled : (w : ℕ → ℤ) (f : ℕ → ℕ) (t n j : ℕ) → ((i : ℕ) → i < n → pos 0 <ℤ w i) → j < n → f j ≡ t → pos 0 <ℤ weight_in w (labelled f t n)
weight-labelled w f t zero j h b e = absurd (omega (arith, b))
weight-labelled w f t (suc n) j h b e = by_case (eqb j n) refl (h n (omega arith)) (weight-not-below w f t n (λ i b. h i (omega (arith, b)))) (λ c. weight-labelled w f t n j (λ i b. h i (omega (arith, b))) c e)
  where
    first : (u v : ℤ) → pos 0 <ℤ u → pos 0 ≤ℤ v → pos 0 <ℤ (u +ℤ v)
    first u v h g = omega (arith, ints, h, g)

    with_n : (b : Bool) → pos 0 <ℤ w n → pos 0 <ℤ weight_in w (labelled f t n) → pos 0 <ℤ weight_in w (if b then n ∷ labelled f t n else labelled f t n)
    with_n true a r = omega (arith, ints, a, r)
    with_n false a r = r

    below : (j n : ℕ) → j < suc n → j ≢ n → j < n
    below j n b ne = omega arith

    by_case : (c : Bool) → eqb j n ≡ c → pos 0 <ℤ w n → pos 0 ≤ℤ weight_in w (labelled f t n) → (j < n → pos 0 <ℤ weight_in w (labelled f t n)) → pos 0 <ℤ weight_in w (labelled f t (suc n))
    by_case true q a r rest = subst (λ c. pos 0 <ℤ weight_in w (if c then n ∷ labelled f t n else labelled f t n)) (sym (eq-eqb (f n) t (ap f (sym (eqb-true j n q)) ∙ e))) (first (w n) _ a r)
    by_case false q a r rest = with_n (eqb (f n) t) a (rest (below j n b (eqb-false j n q)))
