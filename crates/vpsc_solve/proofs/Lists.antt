-- The active list as it loses a separation or gets one.
use Rattle.std.proofs.Common.{◌≡◌, ◌≢◌, ℕ, zero, suc, ◌<◌, ◌≤◌, ℤ, pos, List, [], ◌∷◌, ◌++◌, length, get_or, filter, arith, refl, sym, ◌∙◌, Bool, true, false, not, eqb, eqb-true, subst, ◌⊎◌, inl, inr, if◌then◌else◌}
use Rattle.std.specs.List.{Contains}
use Rattle.std.proofs.lemmas.Bool.{eqb-false}
use Rattle.units.specs.Problem.{Problem}
use Rattle.solver_law.specs.Forest.{Joins, With, Without}
use Rattle.solver_law.proofs.Forest.{joins-more, forest-with}
use Rattle.block_sums.specs.Solving.{givens_of, Active, IsActive}
use Rattle.vpsc_solve.specs.Stops.{NextRest, IsUnderWay, HasClosed}
use Rattle.block_sums.specs.Rest.{exact_of}

-- ---- lists

pub here-or-later : (y : ℕ) (ys : List ℕ) (k : ℕ) → Contains (y ∷ ys) k → (y ≡ k) ⊎ Contains ys k
here-or-later y ys k (zero, b, e) = inl e
here-or-later y ys k (suc i, b, e) = inr (i, lower b, e)
  where
    lower : {i n : ℕ} → suc i < suc n → i < n
    lower b = omega (arith, b)

pub here : (y : ℕ) (ys : List ℕ) (k : ℕ) → y ≡ k → Contains (y ∷ ys) k
here y ys k e = (zero, omega arith, e)

pub later : (y : ℕ) (ys : List ℕ) (k : ℕ) → Contains ys k → Contains (y ∷ ys) k
later y ys k w = (suc w.0, (let b = w.1 in omega (arith, b)), w.2)

pub left-over : (xs : List ℕ) (k j : ℕ) → Contains (filter (λ i. not (eqb i k)) xs) j → Contains xs j × (j ≢ k)
left-over [] k j h = absurd (let b = h.1 in omega (arith, b))
left-over (x ∷ xs) k j h = by_case (eqb x k) refl h (left-over xs k j)
  where
    at : (x ≡ j) ⊎ Contains (filter (λ i. not (eqb i k)) xs) j → x ≢ k → (Contains (filter (λ i. not (eqb i k)) xs) j → Contains xs j × (j ≢ k)) → Contains (x ∷ xs) j × (j ≢ k)
    at (inl e) ne rest = (here x xs j e, λ q. ne (e ∙ q))
    at (inr w) ne rest = (later x xs j (rest w).0, (rest w).1)

    by_case : (b : Bool) → eqb x k ≡ b → Contains (if not b then x ∷ filter (λ i. not (eqb i k)) xs else filter (λ i. not (eqb i k)) xs) j → (Contains (filter (λ i. not (eqb i k)) xs) j → Contains xs j × (j ≢ k)) → Contains (x ∷ xs) j × (j ≢ k)
    by_case true q h rest = (later x xs j (rest h).0, (rest h).1)
    by_case false q h rest = at (here-or-later x (filter (λ i. not (eqb i k)) xs) j h) (eqb-false x k q) rest

pub keeps-over : (xs : List ℕ) (k j : ℕ) → Contains xs j → j ≢ k → Contains (filter (λ i. not (eqb i k)) xs) j
keeps-over [] k j h ne = absurd (let b = h.1 in omega (arith, b))
keeps-over (x ∷ xs) k j h ne = by_case (eqb x k) refl (here-or-later x xs j h) (λ w. keeps-over xs k j w ne)
  where
    by_case : (b : Bool) → eqb x k ≡ b → (x ≡ j) ⊎ Contains xs j → (Contains xs j → Contains (filter (λ i. not (eqb i k)) xs) j) → Contains (if not b then x ∷ filter (λ i. not (eqb i k)) xs else filter (λ i. not (eqb i k)) xs) j
    by_case true q (inl e) rest = absurd (ne (sym e ∙ eqb-true x k q))
    by_case true q (inr w) rest = rest w
    by_case false q (inl e) rest = here x (filter (λ i. not (eqb i k)) xs) j e
    by_case false q (inr w) rest = later x (filter (λ i. not (eqb i k)) xs) j (rest w)

filter-short : (xs : List ℕ) (k : ℕ) → length (filter (λ i. not (eqb i k)) xs) ≤ length xs
filter-short [] k = omega arith
filter-short (x ∷ xs) k = by_case (eqb x k) (filter-short xs k)
  where
    by_case : (b : Bool) → length (filter (λ i. not (eqb i k)) xs) ≤ length xs → length (if not b then x ∷ filter (λ i. not (eqb i k)) xs else filter (λ i. not (eqb i k)) xs) ≤ suc (length xs)
    by_case true h = omega (arith, h)
    by_case false h = omega (arith, h)

pub filter-shorter : (xs : List ℕ) (k : ℕ) → Contains xs k → length (filter (λ i. not (eqb i k)) xs) < length xs
filter-shorter [] k h = absurd (let b = h.1 in omega (arith, b))
filter-shorter (x ∷ xs) k h = by_case (eqb x k) refl (here-or-later x xs k h) (filter-short xs k) (λ w. filter-shorter xs k w)
  where
    by_case : (b : Bool) → eqb x k ≡ b → (x ≡ k) ⊎ Contains xs k → length (filter (λ i. not (eqb i k)) xs) ≤ length xs → (Contains xs k → length (filter (λ i. not (eqb i k)) xs) < length xs)
        → length (if not b then x ∷ filter (λ i. not (eqb i k)) xs else filter (λ i. not (eqb i k)) xs) < suc (length xs)
    by_case true q w s rest = omega (arith, s)
    by_case false q (inl e) s rest = absurd (eqb-false x k q e)
    by_case false q (inr w) s rest = let r = rest w in omega (arith, r)

pub pushed-has : (xs : List ℕ) (v j : ℕ) → Contains (xs ++ v ∷ []) j → With (Active xs) v j
pushed-has [] v j h = by_case (here-or-later v [] j h)
  where
    by_case : (v ≡ j) ⊎ Contains [] j → With (Active []) v j
    by_case (inl e) = inr (sym e)
    by_case (inr w) = inl w
pushed-has (x ∷ xs) v j h = by_case (here-or-later x (xs ++ v ∷ []) j h) (pushed-has xs v j)
  where
    by_case : (x ≡ j) ⊎ Contains (xs ++ v ∷ []) j → (Contains (xs ++ v ∷ []) j → With (Active xs) v j) → With (Active (x ∷ xs)) v j
    by_case (inl e) rest = inl (here x xs j e)
    by_case (inr w) rest = lift (rest w)
      where
        lift : With (Active xs) v j → With (Active (x ∷ xs)) v j
        lift (inl w) = inl (later x xs j w)
        lift (inr e) = inr e

pub has-pushed : (xs : List ℕ) (v j : ℕ) → With (Active xs) v j → Contains (xs ++ v ∷ []) j
has-pushed [] v j (inl w) = absurd (let b = w.1 in omega (arith, b))
has-pushed [] v j (inr e) = here v [] j (sym e)
has-pushed (x ∷ xs) v j (inl w) = by_case (here-or-later x xs j w) (λ u. has-pushed xs v j (inl u))
  where
    by_case : (x ≡ j) ⊎ Contains xs j → (Contains xs j → Contains (xs ++ v ∷ []) j) → Contains (x ∷ (xs ++ v ∷ [])) j
    by_case (inl e) rest = here x (xs ++ v ∷ []) j e
    by_case (inr u) rest = later x (xs ++ v ∷ []) j (rest u)
has-pushed (x ∷ xs) v j (inr e) = later x (xs ++ v ∷ []) j (has-pushed xs v j (inr e))

-- ---- states of lists with the same separations

same-within : {m : ℤ} {A B : Type 0} → (A → B) → (m ≡ pos 0) ⊎ A → (m ≡ pos 0) ⊎ B
same-within up (inl e) = inl e
same-within up (inr a) = inr (up a)

with-up : (On On' : ℕ → Type 0) (v k : ℕ) → (On k → On' k) → With On v k → With On' v k
with-up On On' v k up (inl on) = inl (up on)
with-up On On' v k up (inr e) = inr e

pub way-same : (p : Problem) (On On' : ℕ → Type 0) (v : ℕ) (bound : ℤ) (F : ℕ) → ((k : ℕ) → On k → On' k) → ((k : ℕ) → On' k → On k) → IsUnderWay p On v bound F → IsUnderWay p On' v bound F
way-same p On On' v bound F to back h = record {
  point = h.point;
  Q = h.Q;
  closing = record {
    above = h.closing.above;
    over = h.closing.over;
    state = record {
      tight = λ k b on. h.closing.state.tight k b (back k on);
      within = λ k b. same-within (with-up On On' v k (to k)) (h.closing.state.within k b);
      level = h.closing.state.level;
    };
    signs = h.closing.signs;
    missing = h.closing.missing;
    force = h.closing.force;
    worthy = h.closing.worthy;
  };
}

pub closed-list : (p : Problem) (active new : List ℕ) (v : ℕ) (bound : ℤ) (F : ℕ) → new ≡ active ++ v ∷ [] → NextRest (givens_of p) (exact_of p) (Active active) v bound F → HasClosed p new bound F
closed-list p active new v bound F e h = record {
  point = h.point;
  Q = h.Q;
  larger = h.closed.larger;
  rest = record {
    above = h.closed.rest.above;
    over = h.closed.rest.over;
    state = record {
      tight = λ k b on. h.closed.rest.state.tight k b (to k on);
      within = λ k b. same-within (back k) (h.closed.rest.state.within k b);
      level = h.closed.rest.state.level;
    };
    signs = h.closed.rest.signs;
  };
}
  where
    to : (k : ℕ) → Contains new k → With (Active active) v k
    to k on = pushed-has active v k (subst (λ l. Contains l k) e on)

    back : (k : ℕ) → With (Active active) v k → Contains new k
    back k w = subst (λ l. Contains l k) (sym e) (has-pushed active v k w)

-- ---- the list stays a forest

pub active-less : (p : Problem) (active new : List ℕ) (k : ℕ) → new ≡ filter (λ i. not (eqb i k)) active → IsActive p active → IsActive p new
active-less p active new k e h = record {
  below = λ i d b. under (get_or new i d) (i, b, again new i d b);
  forest = λ j on chain. h.forest j (old j on) (joins-more (givens_of p).l (givens_of p).r (Without (Active new) j) (Without (Active active) j) ((givens_of p).l j) ((givens_of p).r j) (λ i w. (old i w.0, w.1)) chain);
}
  where
    again : (xs : List ℕ) (i d : ℕ) → i < length xs → get_or xs i (get_or xs i d) ≡ get_or xs i d
    again [] i d b = absurd (omega (arith, b))
    again (x ∷ xs) zero d b = refl
    again (x ∷ xs) (suc i) d b = again xs i d (omega (arith, b))

    old : (j : ℕ) → Contains new j → Contains active j
    old j on = (left-over active k j (subst (λ l. Contains l j) e on)).0

    under : (j : ℕ) → Contains new j → j < length p.separations
    under j on = let w = old j on in subst (λ i. i < length p.separations) w.2 (h.below w.0 j w.1)

pub active-more : (p : Problem) (active new : List ℕ) (v : ℕ) → new ≡ active ++ v ∷ [] → IsActive p active → v < length p.separations
    → (Joins (givens_of p).l (givens_of p).r (Active active) ((givens_of p).l v) ((givens_of p).r v) → ⊥) → IsActive p new
active-more p active new v e h below apart = record {
  below = λ i d b. under (get_or new i d) (to (get_or new i d) (i, b, again new i d b));
  forest = λ j on chain. forest-with (givens_of p).l (givens_of p).r (Active active) v h.forest apart j (to j on)
      (joins-more (givens_of p).l (givens_of p).r (Without (Active new) j) (Without (With (Active active) v) j) ((givens_of p).l j) ((givens_of p).r j) (λ i w. (to i w.0, w.1)) chain);
}
  where
    again : (xs : List ℕ) (i d : ℕ) → i < length xs → get_or xs i (get_or xs i d) ≡ get_or xs i d
    again [] i d b = absurd (omega (arith, b))
    again (x ∷ xs) zero d b = refl
    again (x ∷ xs) (suc i) d b = again xs i d (omega (arith, b))

    to : (k : ℕ) → Contains new k → With (Active active) v k
    to k on = pushed-has active v k (subst (λ l. Contains l k) e on)

    under : (j : ℕ) → With (Active active) v j → j < length p.separations
    under j (inl w) = subst (λ i. i < length p.separations) w.2 (h.below w.0 j w.1)
    under j (inr q) = subst (λ i. i < length p.separations) (sym q) below
