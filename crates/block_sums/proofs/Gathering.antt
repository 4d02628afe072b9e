-- Loads are added up, the last leg first.
use Rattle.std.proofs.Common.{◌≡◌, ◌≢◌, ℕ, zero, suc, ◌+◌, ◌*◌, ◌<◌, ◌≤◌, ℤ, pos, ◌+ℤ◌, ◌≤ℤ◌, nat_abs, List, [], ◌∷◌, length, get_or, set, length-set, take, drop, map, ◌++◌, arith, refl, sym, ap, ◌∙◌, Bool, true, false, eqb, eqb-true, subst}
use Rattle.std.proofs.lemmas.Bool.{eqb-false}
use Rattle.std.proofs.lemmas.Int.{ints}
use Rattle.std.proofs.lemmas.List.{get_or-set_same, get_or-set_other}
use Rattle.std.proofs.Math.Seq.{drop-cons}
use Rattle.solver_law.proofs.Sums.{put_at, sum_to, sum-add, sum-same, sum-one, sum-zero, put_at-same, put_at-other}
use Rattle.block_sums.specs.declared.legs.Leg.{Leg}
use Rattle.block_sums.specs.Legs.{no_leg, leg_at}
use Rattle.block_sums.specs.Loads.{load_at, hanging, sum_of, sizes, IsGathered}

-- ---- lists

drop-set : (xs : List ℤ) (i k : ℕ) (v : ℤ) → i < k → drop k (set xs i v) ≡ drop k xs
drop-set xs i zero v h = absurd (omega arith)
drop-set [] i (suc k) v h = refl
drop-set (x ∷ xs) zero (suc k) v h = refl
drop-set (x ∷ xs) (suc i) (suc k) v h = drop-set xs i k v (omega arith)

drop-all : {X : Type 0} (xs : List X) → drop (length xs) xs ≡ []
drop-all [] = refl
drop-all (x ∷ xs) = drop-all xs

take-all : {X : Type 0} (xs : List X) → take (length xs) xs ≡ xs
take-all [] = refl
take-all (x ∷ xs) = ap (λ t. x ∷ t) (take-all xs)

size-within : (xs : List ℤ) (i : ℕ) → nat_abs (get_or xs i (pos 0)) ≤ sizes xs
size-within [] i = omega arith
size-within (x ∷ xs) zero = omega arith
size-within (x ∷ xs) (suc i) = let h = size-within xs i in omega (arith, h)

-- the load i of those before k is put on j
sizes-moved : (xs : List ℤ) (j k : ℕ) → j < k → k < length xs → sizes (take k (set xs j (get_or xs j (pos 0) +ℤ get_or xs k (pos 0)))) ≤ sizes (take (suc k) xs)
sizes-moved [] j k h b = absurd (omega arith)
sizes-moved (x ∷ xs) j zero h b = absurd (omega arith)
sizes-moved (x ∷ xs) zero (suc k) h b = let e = last xs k (omega arith) in omega (arith, ints, e)
  where
    last : (xs : List ℤ) (k : ℕ) → k < length xs → sizes (take (suc k) xs) ≡ sizes (take k xs) + nat_abs (get_or xs k (pos 0))
    last [] k b = absurd (omega arith)
    last (y ∷ ys) zero b = omega arith
    last (y ∷ ys) (suc k) b = let e = last ys k (omega arith) in omega (arith, e)
sizes-moved (x ∷ xs) (suc j) (suc k) h b = let e = sizes-moved xs j k (omega arith) (omega arith) in omega (arith, e)

-- two loads are of two places
two-sizes : (xs : List ℤ) (j k : ℕ) → j < k → k < length xs → nat_abs (get_or xs j (pos 0)) + nat_abs (get_or xs k (pos 0)) ≤ sizes (take (suc k) xs)
two-sizes [] j k h b = absurd (omega arith)
two-sizes (x ∷ xs) j zero h b = absurd (omega arith)
two-sizes (x ∷ xs) zero (suc k) h b = let e = within xs k (omega arith) in omega (arith, e)
  where
    within : (xs : List ℤ) (k : ℕ) → k < length xs → nat_abs (get_or xs k (pos 0)) ≤ sizes (take (suc k) xs)
    within [] k b = absurd (omega arith)
    within (y ∷ ys) zero b = omega arith
    within (y ∷ ys) (suc k) b = let e = within ys k (omega arith) in omega (arith, e)
two-sizes (x ∷ xs) (suc j) (suc k) h b = let e = two-sizes xs j k (omega arith) (omega arith) in omega (arith, e)

written : (xs : List ℤ) (j i : ℕ) (v : ℤ) → j < length xs → get_or (set xs j (get_or xs j (pos 0) +ℤ v)) i (pos 0) ≡ get_or xs i (pos 0) +ℤ put_at j v i
written xs j i v h = by_case (eqb j i) refl
  where
    by_case : (b : Bool) → eqb j i ≡ b → get_or (set xs j (get_or xs j (pos 0) +ℤ v)) i (pos 0) ≡ get_or xs i (pos 0) +ℤ put_at j v i
    by_case true e =
        subst (λ k. get_or (set xs j (get_or xs j (pos 0) +ℤ v)) k (pos 0) ≡ get_or xs k (pos 0) +ℤ put_at j v k) (eqb-true j i e)
        (get_or-set_same xs j (get_or xs j (pos 0) +ℤ v) (pos 0) h ∙ ap (λ t. get_or xs j (pos 0) +ℤ t) (sym (put_at-same j v)))
    by_case false e =
        let other : i ≢ j = λ q. eqb-false j i e (sym q) in
        let kept = get_or-set_other xs j i (get_or xs j (pos 0) +ℤ v) (pos 0) other in
        let none = put_at-other j i v (eqb-false j i e) in
        omega (arith, ints, kept, none)

-- ---- one step

-- the leg k is passed: its load is put on its parent
pub record IsPassed (legs : List Leg) (k : ℕ) (now next : List ℤ) : Type 0 where
  pub within : k < length legs
  pub as_long : length now ≡ length legs
  pub sooner : (leg_at legs k).parent < k
  pub moved : next ≡ set now (leg_at legs k).parent (load_at now (leg_at legs k).parent +ℤ load_at now k)

hanging-cons : (legs : List Leg) (loads : List ℤ) (k j : ℕ) → k < length legs → length loads ≡ length legs
    → hanging (drop k legs) (drop k loads) j ≡ put_at (leg_at legs k).parent (load_at loads k) j +ℤ hanging (drop (suc k) legs) (drop (suc k) loads) j
hanging-cons legs loads k j b e =
    let l = drop-cons legs k no_leg b in
    let m = drop-cons loads k (pos 0) (omega (arith, b, e)) in
    rw (l, m) refl

pub passed-sums : (legs : List Leg) (k : ℕ) (own now next : List ℤ) → IsPassed legs k now next
    → ((j : ℕ) → load_at now j ≡ load_at own j +ℤ hanging (drop (suc k) legs) (drop (suc k) now) j)
    → (j : ℕ) → load_at next j ≡ load_at own j +ℤ hanging (drop k legs) (drop k next) j
passed-sums legs k own now next h sums j =
    let p = (leg_at legs k).parent in
    let there : p < length now = omega (arith, h.sooner, h.within, h.as_long) in
    let long : length next ≡ length legs = ap length h.moved ∙ (length-set now p (load_at now p +ℤ load_at now k) ∙ h.as_long) in
    let w = ap (λ t. load_at t j) h.moved ∙ written now p j (load_at now k) there in
    let c = hanging-cons legs next k j h.within long in
    let rest : drop (suc k) next ≡ drop (suc k) now = ap (drop (suc k)) h.moved ∙ drop-set now p (suc k) _ (omega (arith, h.sooner)) in
    let same : load_at next k ≡ load_at now k = ap (λ t. load_at t k) h.moved ∙ get_or-set_other now p k _ (pos 0) (omega (arith, h.sooner)) in
    w ∙ (join (load_at now j) (load_at own j) (hanging (drop (suc k) legs) (drop (suc k) now) j) (put_at p (load_at now k) j) (sums j)
    ∙ sym (ap (λ t. load_at own j +ℤ t) (c ∙ (ap (λ t. put_at p t j +ℤ hanging (drop (suc k) legs) (drop (suc k) next) j) same ∙ ap (λ t. put_at p (load_at now k) j +ℤ hanging (drop (suc k) legs) t j) rest))))
  where
    join : (a o h u : ℤ) → a ≡ o +ℤ h → a +ℤ u ≡ o +ℤ (u +ℤ h)
    join a o h u e = omega (arith, ints, e)

pub passed-mass : (legs : List Leg) (k b : ℕ) (now next : List ℤ) → IsPassed legs k now next → sizes (take (suc k) now) ≤ b → sizes (take k next) ≤ b
passed-mass legs k b now next h m =
    let s = sizes-moved now (leg_at legs k).parent k h.sooner (omega (arith, h.within, h.as_long)) in
    let e = ap (λ t. sizes (take k t)) h.moved in
    omega (arith, s, e, m)

pub passed-small : (legs : List Leg) (k b : ℕ) (now next : List ℤ) → IsPassed legs k now next → sizes (take (suc k) now) ≤ b → ((j : ℕ) → nat_abs (load_at now j) ≤ b) → (j : ℕ) → nat_abs (load_at next j) ≤ b
passed-small legs k b now next h m small j =
    let p = (leg_at legs k).parent in
    let two = two-sizes now p k h.sooner (omega (arith, h.within, h.as_long)) in
    by_case p two (eqb p j) refl
  where
    at : (x y : ℤ) (s b : ℕ) → nat_abs x + nat_abs y ≤ s → s ≤ b → nat_abs (x +ℤ y) ≤ b
    at x y s b h g = omega (arith, ints, h, g)

    by_case : (p : ℕ) → nat_abs (load_at now (leg_at legs k).parent) + nat_abs (load_at now k) ≤ sizes (take (suc k) now) → (c : Bool) → eqb (leg_at legs k).parent j ≡ c → nat_abs (load_at next j) ≤ b
    by_case p two true q =
        subst (λ i. nat_abs (load_at next i) ≤ b) (eqb-true (leg_at legs k).parent j q)
        (subst (λ t. nat_abs t ≤ b) (sym (ap (λ t. load_at t (leg_at legs k).parent) h.moved ∙ get_or-set_same now (leg_at legs k).parent _ (pos 0) (omega (arith, h.sooner, h.within, h.as_long))))
        (at (load_at now (leg_at legs k).parent) (load_at now k) _ b two m))
    by_case p two false q =
        subst (λ t. nat_abs t ≤ b) (sym (ap (λ t. load_at t j) h.moved ∙ get_or-set_other now (leg_at legs k).parent j _ (pos 0) (λ e. eqb-false (leg_at legs k).parent j q (sym e)))) (small j)

pub two-small : (legs : List Leg) (k b : ℕ) (now : List ℤ) → k < length legs → length now ≡ length legs → (leg_at legs k).parent < k → sizes (take (suc k) now) ≤ b
    → nat_abs (load_at now (leg_at legs k).parent) + nat_abs (load_at now k) ≤ b
two-small legs k b now h e s m = let t = two-sizes now (leg_at legs k).parent k s (omega (arith, h, e)) in omega (arith, t, m)

pub first-sums : (legs : List Leg) (own : List ℤ) (n j : ℕ) → n ≡ length legs → load_at own j ≡ load_at own j +ℤ hanging (drop n legs) (drop n own) j
first-sums legs own n j e = rw (e, drop-all legs) (omega (arith, ints))

pub first-mass : (own : List ℤ) (n : ℕ) → n ≡ length own → sizes (take n own) ≤ sizes own
first-mass own n e = rw (e, take-all own) (omega arith)

pub first-small : (own : List ℤ) (j : ℕ) → nat_abs (load_at own j) ≤ sizes own
first-small own j = size-within own j

-- ---- the root carries all

hanging-all : (n : ℕ) (legs : List Leg) (loads : List ℤ) → length loads ≡ length legs → ((c : ℕ) → c < length legs → (leg_at legs c).parent < n) → sum_to n (λ j. hanging legs loads j) ≡ sum_of loads
hanging-all n [] [] e below = sum-zero n _ (λ j b. refl)
hanging-all n [] (x ∷ xs) e below = absurd (omega arith)
hanging-all n (l ∷ ls) [] e below = absurd (omega arith)
hanging-all n (l ∷ ls) (x ∷ xs) e below =
    let split = sum-add n (λ j. put_at l.parent x j) (λ j. hanging ls xs j) in
    let one = sum-one n l.parent (λ j. put_at l.parent x j) (below 0 (omega arith)) (λ j b ne. put_at-other l.parent j x (λ q. ne (sym q))) in
    let here = put_at-same l.parent x in
    let rest = hanging-all n ls xs (omega arith) (λ c b. below (suc c) (omega arith)) in
    omega (arith, ints, split, one, here, rest)

sum-list : (n : ℕ) (xs : List ℤ) → n ≡ length xs → sum_to n (λ j. load_at xs j) ≡ sum_of xs
sum-list zero [] e = refl
sum-list (suc n) [] e = absurd (omega arith)
sum-list zero (x ∷ xs) e = absurd (omega arith)
sum-list (suc n) (x ∷ xs) e = ap (λ t. x +ℤ t) (sum-list n xs (omega arith))

pub root-carries : (legs : List Leg) (own loads : List ℤ) → 0 < length legs → length own ≡ length legs → ((j : ℕ) → 0 < j → j < length legs → (leg_at legs j).parent < j)
    → IsGathered legs own loads → load_at loads 0 ≡ sum_of own
root-carries [] own loads some e sooner h = absurd (omega arith)
root-carries (l ∷ ls) own [] some e sooner h = absurd (let a = h.as_long in omega (arith, a))
root-carries (l ∷ ls) own (x ∷ xs) some e sooner h =
    let n = suc (length ls) in
    let long : length xs ≡ length ls = (let a = h.as_long in omega (arith, a)) in
    let all = sum-same n (λ j. load_at (x ∷ xs) j) (λ j. load_at own j +ℤ hanging ls xs j) (λ j b. h.each j b) in
    let split = sum-add n (λ j. load_at own j) (λ j. hanging ls xs j) in
    let a = sum-list n (x ∷ xs) (omega (arith, long)) in
    let b = sum-list n own (sym e) in
    let c = hanging-all n ls xs long (λ c b. let s = sooner (suc c) (omega arith) (omega (arith, b)) in omega (arith, s, b)) in
    omega (arith, ints, all, split, a, b, c)

-- ---- the own loads of the legs, one after another

abs-sizes-more : (xs : List ℤ) (x : ℤ) → sizes (xs ++ x ∷ []) ≡ sizes xs + nat_abs x
abs-sizes-more [] x = omega arith
abs-sizes-more (y ∷ ys) x = let e = abs-sizes-more ys x in omega (arith, e)

pub mapped-more : (f : Leg → ℤ) (legs : List Leg) (k : ℕ) → k < length legs → map f (take (suc k) legs) ≡ map f (take k legs) ++ f (leg_at legs k) ∷ []
mapped-more f [] k h = absurd (omega arith)
mapped-more f (l ∷ ls) zero h = refl
mapped-more f (l ∷ ls) (suc k) h = ap (λ t. f l ∷ t) (mapped-more f ls k (omega arith))

pub own-value : (f : Leg → ℤ) (legs : List Leg) (k n : ℕ) (now next : List ℤ) (x : ℤ) → k < length legs → n ≡ suc k → now ≡ map f (take k legs) → next ≡ now ++ x ∷ [] → x ≡ f (leg_at legs k) → next ≡ map f (take n legs)
own-value f legs k n now next x h en e en' ex = en' ∙ (ap (λ t. t ++ x ∷ []) e ∙ (ap (λ t. map f (take k legs) ++ t ∷ []) ex ∙ (sym (mapped-more f legs k h) ∙ ap (λ t. map f (take t legs)) (sym en))))

pub own-small : (k n b : ℕ) (now next : List ℤ) (x : ℤ) → n ≡ suc k → sizes now ≤ b * k → next ≡ now ++ x ∷ [] → nat_abs x ≤ b → sizes next ≤ b * n
own-small k n b now next x en h e hx =
    let s = ap sizes e ∙ abs-sizes-more now x in
    let m : b * n ≡ b * k + b = rw en (more b k) in
    omega (arith, s, m, h, hx)
  where
    more : (b k : ℕ) → b * suc k ≡ b * k + b
    more b k = omega arith

sum-more : (xs : List ℤ) (x : ℤ) → sum_of (xs ++ x ∷ []) ≡ sum_of xs +ℤ x
sum-more [] x = omega (arith, ints)
sum-more (y ∷ ys) x = let e = sum-more ys x in omega (arith, ints, e)

pub own-above : (k n : ℕ) (now next : List ℤ) (x : ℤ) → n ≡ suc k → pos k ≤ℤ sum_of now → next ≡ now ++ x ∷ [] → pos 1 ≤ℤ x → pos n ≤ℤ sum_of next
own-above k n now next x en h e hx =
    let s = ap sum_of e ∙ sum-more now x in
    rw en (omega (arith, ints, s, h, hx))
