-- The variables that a closing touches.
use Rattle.std.proofs.Common.{◌≡◌, ℕ, zero, suc, ◌<◌, List, [], ◌∷◌, ◌++◌, length, filter, arith, refl, sym, Bool, true, false, not, eqb, eqb-true, subst, ◌⊎◌, inl, inr}
use Rattle.std.specs.List.{All, Contains}
use Rattle.std.proofs.lemmas.Bool.{eqb-false}
use Rattle.units.specs.Problem.{Problem, IsSeparation}
use Rattle.units.specs.Separation.{separation_at}
use Rattle.block_sums.specs.Solving.{Active}
use Rattle.vpsc_solve.specs.Stops.{AreTouched, DiffersAt}
use Rattle.vpsc_solve.proofs.Lists.{here, later, here-or-later, left-over, keeps-over, pushed-has, has-pushed}

has-left : (xs ys : List ℕ) (k : ℕ) → Contains xs k → Contains (xs ++ ys) k
has-left [] ys k h = absurd (let b = h.1 in omega (arith, b))
has-left (x ∷ xs) ys k h = by_case (here-or-later x xs k h) (λ w. has-left xs ys k w)
  where
    by_case : (x ≡ k) ⊎ Contains xs k → (Contains xs k → Contains (xs ++ ys) k) → Contains (x ∷ (xs ++ ys)) k
    by_case (inl e) rest = here x (xs ++ ys) k e
    by_case (inr w) rest = later x (xs ++ ys) k (rest w)

has-right : (xs ys : List ℕ) (k : ℕ) → Contains ys k → Contains (xs ++ ys) k
has-right [] ys k h = h
has-right (x ∷ xs) ys k h = later x (xs ++ ys) k (has-right xs ys k h)

-- what is touched after the ends of k are noted
pub touched-more : (p : Problem) (touched more : List ℕ) (k : ℕ) → more ≡ touched ++ (separation_at p.separations k).left ∷ (separation_at p.separations k).right ∷ [] → (j : ℕ) → AreTouched p touched j → AreTouched p more j
touched-more p touched more k e j t = (one (separation_at p.separations j).left t.0, one (separation_at p.separations j).right t.1)
  where
    one : (i : ℕ) → Contains touched i → Contains more i
    one i w = subst (λ l. Contains l i) (sym e) (has-left touched ((separation_at p.separations k).left ∷ (separation_at p.separations k).right ∷ []) i w)

pub touched-now : (p : Problem) (touched more : List ℕ) (k : ℕ) → more ≡ touched ++ (separation_at p.separations k).left ∷ (separation_at p.separations k).right ∷ [] → AreTouched p more k
touched-now p touched more k e = (
  one (separation_at p.separations k).left (here (separation_at p.separations k).left ((separation_at p.separations k).right ∷ []) (separation_at p.separations k).left refl),
  one (separation_at p.separations k).right (later (separation_at p.separations k).left ((separation_at p.separations k).right ∷ []) (separation_at p.separations k).right (here (separation_at p.separations k).right [] (separation_at p.separations k).right refl)),
)
  where
    one : (i : ℕ) → Contains ((separation_at p.separations k).left ∷ (separation_at p.separations k).right ∷ []) i → Contains more i
    one i w = subst (λ l. Contains l i) (sym e) (has-right touched ((separation_at p.separations k).left ∷ (separation_at p.separations k).right ∷ []) i w)

all-more : (n : ℕ) (xs : List ℕ) (a b : ℕ) → All (λ i. i < n) xs → a < n → b < n → All (λ i. i < n) (xs ++ a ∷ b ∷ [])
all-more n [] a b h ha hb zero d k = ha
all-more n [] a b h ha hb (suc zero) d k = hb
all-more n [] a b h ha hb (suc (suc i)) d k = absurd (omega (arith, k))
all-more n (x ∷ xs) a b h ha hb zero d k = h zero d (omega arith)
all-more n (x ∷ xs) a b h ha hb (suc i) d k = all-more n xs a b (λ i d k. h (suc i) d (omega (arith, k))) ha hb i d (omega (arith, k))

pub within-more : (p : Problem) (touched more : List ℕ) (k : ℕ) → IsSeparation (length p.desired) (separation_at p.separations k) → more ≡ touched ++ (separation_at p.separations k).left ∷ (separation_at p.separations k).right ∷ []
    → All (λ i. i < length p.desired) touched → All (λ i. i < length p.desired) more
within-more p touched more k s e h = subst (λ l. All (λ i. i < length p.desired) l) (sym e) (all-more (length p.desired) touched (separation_at p.separations k).left (separation_at p.separations k).right h s.left s.right)

-- before the first stop
pub differs-first : (p : Problem) (active touched none : List ℕ) (v : ℕ) → IsSeparation (length p.desired) (separation_at p.separations v) → none ≡ []
    → touched ≡ none ++ (separation_at p.separations v).left ∷ (separation_at p.separations v).right ∷ [] → DiffersAt p active active touched
differs-first p active touched none v s e et = record {
  gone = λ k on. inl on;
  come = λ k on. inl on;
  within = within-more p none touched v s et (subst (λ l. All (λ i. i < length p.desired) l) (sym e) (λ i d b. absurd (omega (arith, b))));
}

-- the separation k goes
pub differs-less : (p : Problem) (active now new touched more : List ℕ) (k : ℕ) → IsSeparation (length p.desired) (separation_at p.separations k) → new ≡ filter (λ i. not (eqb i k)) now
    → more ≡ touched ++ (separation_at p.separations k).left ∷ (separation_at p.separations k).right ∷ [] → DiffersAt p active now touched → DiffersAt p active new more
differs-less p active now new touched more k s en em h = record {
  gone = λ j on. gone j (h.gone j on) (eqb j k) refl;
  come = λ j on. come j (h.come j (left-over now k j (subst (λ l. Contains l j) en on)).0);
  within = within-more p touched more k s em h.within;
}
  where
    gone : (j : ℕ) → Active now j ⊎ AreTouched p touched j → (b : Bool) → eqb j k ≡ b → Active new j ⊎ AreTouched p more j
    gone j (inr t) b q = inr (touched-more p touched more k em j t)
    gone j (inl on) true q = inr (subst (AreTouched p more) (sym (eqb-true j k q)) (touched-now p touched more k em))
    gone j (inl on) false q = inl (subst (λ l. Contains l j) (sym en) (keeps-over now k j on (eqb-false j k q)))

    come : (j : ℕ) → Active active j ⊎ AreTouched p touched j → Active active j ⊎ AreTouched p more j
    come j (inl on) = inl on
    come j (inr t) = inr (touched-more p touched more k em j t)

-- the separation v comes
pub differs-more : (p : Problem) (active now new touched : List ℕ) (v : ℕ) → new ≡ now ++ v ∷ [] → AreTouched p touched v → DiffersAt p active now touched → DiffersAt p active new touched
differs-more p active now new touched v en t h = record {
  gone = λ j on. gone j (h.gone j on);
  come = λ j on. come j (pushed-has now v j (subst (λ l. Contains l j) en on));
  within = h.within;
}
  where
    gone : (j : ℕ) → Active now j ⊎ AreTouched p touched j → Active new j ⊎ AreTouched p touched j
    gone j (inl on) = inl (subst (λ l. Contains l j) (sym en) (has-pushed now v j (inl on)))
    gone j (inr t) = inr t

    come : (j : ℕ) → Active now j ⊎ (j ≡ v) → Active active j ⊎ AreTouched p touched j
    come j (inl on) = h.come j on
    come j (inr e) = inr (subst (AreTouched p touched) (sym e) t)
