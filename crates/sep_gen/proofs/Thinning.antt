-- A list from which some elements are gone, and the places of those that are left.
use Rattle.std.proofs.Common.{◌≡◌, ◌+◌, ℕ, zero, suc, ℤ, pos, List, [], ◌∷◌, ◌++◌, Bool, true, false, cond, not, ◌||◌, map, refl, ap, sym, ◌∙◌, subst, slice_get, Some}
use Rattle.std.specs.Prelude.{filter, find, slice_index_or}
use Rattle.std.specs.List.{position_or_len, flat_map, list_any, remove}
use Rattle.std.proofs.Math.Numerals.{one-add}

-- a list, and what is left of it without some elements that are gone
pub data Thins {A : Type 0} (gone : A → Bool) : List A → List A → Type 0 where
  none : Thins gone [] []
  kept : {x : A} {xs left : List A} → Thins gone xs left → Thins gone (x ∷ xs) (x ∷ left)
  dropped : {x : A} {xs left : List A} → gone x ≡ true → Thins gone xs left → Thins gone (x ∷ xs) left

-- the places of those that are left
pub thinned : {A : Type 0} {gone : A → Bool} {xs left : List A} → Thins gone xs left → List ℤ → List ℤ
thinned none ys = ys
thinned (kept t) [] = []
thinned (kept t) (y ∷ ys) = y ∷ thinned t ys
thinned (dropped is t) [] = []
thinned (dropped is t) (y ∷ ys) = thinned t ys

-- ---- how a list is thinned

pub all_left : {A : Type 0} (gone : A → Bool) (xs : List A) → Thins gone xs xs
all_left gone [] = none
all_left gone (x ∷ xs) = kept (all_left gone xs)

pub joined : {A : Type 0} {gone : A → Bool} {xs left ys rest : List A} → Thins gone xs left → Thins gone ys rest → Thins gone (xs ++ ys) (left ++ rest)
joined none u = u
joined (kept t) u = kept (joined t u)
joined (dropped is t) u = dropped is (joined t u)

-- the list is mapped
pub mapped_without : {A B : Type 0} (gone : B → Bool) (f : A → B) (xs : List A) (k : ℕ) (x : A) → slice_get xs k ≡ Some x → gone (f x) ≡ true → Thins gone (map f xs) (map f (remove xs k))
mapped_without gone f [] k x at is = cc
mapped_without gone f (y ∷ ys) zero x at is = let same : y ≡ x = cc in dropped (ap (λ z. gone (f z)) same ∙ is) (all_left gone (map f ys))
mapped_without gone f (y ∷ ys) (suc k) x at is = kept (mapped_without gone f ys k x at is)

-- only the elements that pass a test are mapped
pub filtered_without : {A B : Type 0} (gone : B → Bool) (f : A → B) (test : A → Bool) (xs : List A) (k : ℕ) (x : A) → slice_get xs k ≡ Some x → gone (f x) ≡ true
    → Thins gone (map f (filter test xs)) (map f (filter test (remove xs k)))
filtered_without gone f test [] k x at is = cc
filtered_without {A} gone f test (y ∷ ys) zero x at is = by (test y)
  where
    by : (b : Bool) → Thins gone (map f (cond b (y ∷ filter test ys) (filter test ys))) (map f (filter test ys))
    by true = let same : y ≡ x = cc in dropped (ap (λ z. gone (f z)) same ∙ is) (all_left gone (map f (filter test ys)))
    by false = all_left gone (map f (filter test ys))
filtered_without {A} gone f test (y ∷ ys) (suc k) x at is = by (test y) (filtered_without gone f test ys k x at is)
  where
    by : (b : Bool) → Thins gone (map f (filter test ys)) (map f (filter test (remove ys k)))
        → Thins gone (map f (cond b (y ∷ filter test ys) (filter test ys))) (map f (cond b (y ∷ filter test (remove ys k)) (filter test (remove ys k))))
    by true rest = kept rest
    by false rest = rest

-- each element makes a part of the list
pub parts_without : {A B : Type 0} (gone : B → Bool) (f : A → List B) (xs : List A) (k : ℕ) (x : A) → slice_get xs k ≡ Some x → Thins gone (f x) [] → Thins gone (flat_map f xs) (flat_map f (remove xs k))
parts_without gone f [] k x at is = cc
parts_without gone f (y ∷ ys) zero x at is = let same : y ≡ x = cc in joined (subst (λ z. Thins gone (f z) []) (sym same) is) (all_left gone (flat_map f ys))
parts_without gone f (y ∷ ys) (suc k) x at is = joined (all_left gone (f y)) (parts_without gone f ys k x at is)

-- ---- where the others stand

behind : (y : ℤ) (ys : List ℤ) (k : ℕ) → slice_index_or (y ∷ ys) (1 + k) (pos 0) ≡ slice_index_or ys k (pos 0)
behind y ys k = ap (λ n. slice_index_or (y ∷ ys) n (pos 0)) (one-add k)

-- the place of the first element that passes a test which none that is gone passes
pub same_place : {A : Type 0} {gone : A → Bool} (p : A → Bool) → ((x : A) → gone x ≡ true → p x ≡ false) → {xs left : List A} (t : Thins gone xs left) (ys : List ℤ)
    → slice_index_or (thinned t ys) (position_or_len p left) (pos 0) ≡ slice_index_or ys (position_or_len p xs) (pos 0)
unfolding thinned
same_place p fails none ys = refl
same_place p fails (kept t) [] = refl
same_place p fails (kept {x} {xs} {left} t) (y ∷ ys) = by (p x) (same_place p fails t ys)
  where
    by : (b : Bool) → slice_index_or (thinned t ys) (position_or_len p left) (pos 0) ≡ slice_index_or ys (position_or_len p xs) (pos 0)
        → slice_index_or (y ∷ thinned t ys) (cond (not b) (1 + position_or_len p left) 0) (pos 0) ≡ slice_index_or (y ∷ ys) (cond (not b) (1 + position_or_len p xs) 0) (pos 0)
    by true same = refl
    by false same = behind y (thinned t ys) (position_or_len p left) ∙ (same ∙ sym (behind y ys (position_or_len p xs)))
same_place p fails (dropped is t) [] = refl
same_place p fails (dropped {x} {xs} {left} is t) (y ∷ ys) =
    same_place p fails t ys ∙ (sym (behind y ys (position_or_len p xs)) ∙ ap (λ b. slice_index_or (y ∷ ys) (cond (not b) (1 + position_or_len p xs) 0) (pos 0)) (sym (fails x is)))

-- ---- what is found without an element that fails

pub find-without : {A : Type 0} (p : A → Bool) (xs : List A) (k : ℕ) (x : A) → slice_get xs k ≡ Some x → p x ≡ false → find p (remove xs k) ≡ find p xs
find-without p [] k x at fails = cc
find-without p (y ∷ ys) zero x at fails = let same : y ≡ x = cc in ap (λ b. cond b (Some y) (find p ys)) (sym (ap p same ∙ fails))
find-without p (y ∷ ys) (suc k) x at fails = ap (λ o. cond (p y) (Some y) o) (find-without p ys k x at fails)

pub any-without : {A : Type 0} (p : A → Bool) (xs : List A) (k : ℕ) (x : A) → slice_get xs k ≡ Some x → p x ≡ false → list_any p (remove xs k) ≡ list_any p xs
any-without p [] k x at fails = cc
any-without p (y ∷ ys) zero x at fails = let same : y ≡ x = cc in ap (λ b. b || list_any p ys) (sym (ap p same ∙ fails))
any-without p (y ∷ ys) (suc k) x at fails = ap (λ b. p y || b) (any-without p ys k x at fails)
