-- What a change of a list of items keeps: their names, that the names differ, and what holds of each item.
use Rattle.std.proofs.Common.{◌≡◌, ◌+◌, ◌≤◌, ℕ, zero, suc, List, [], ◌∷◌, Bool, true, false, cond, ◌||◌, length, map, refl, ap, ◌∙◌, subst, arith, slice_get, Some}
use Rattle.std.specs.List.{list_any, IsDistinct, AllByRecursion, insert, remove}
use Rattle.std.proofs.lemmas.Map.Keys.{IsDistinct-head, IsDistinct-tail, IsDistinct-cons}
use Rattle.std.proofs.lemmas.Slice.Eq.{bytes_eq-Decides}
use Rattle.scene_model.specs.Names.{NameOf, same_name}
use Rattle.scene_model.specs.Naming.{replaced}
use Rattle.scene_model.proofs.Named.{same_name-sym}

-- a list mapped, with one more element at a place
pub map-insert : {A B : Type 0} (f : A → B) (xs : List A) (k : ℕ) (x : A) → map f (insert xs k x) ≡ insert (map f xs) k (f x)
map-insert f [] zero x = refl
map-insert f [] (suc k) x = refl
map-insert f (y ∷ ys) zero x = refl
map-insert f (y ∷ ys) (suc k) x = ap (λ zs. f y ∷ zs) (map-insert f ys k x)

-- and without the one at a place
pub map-remove : {A B : Type 0} (f : A → B) (xs : List A) (k : ℕ) → map f (remove xs k) ≡ remove (map f xs) k
map-remove f [] zero = refl
map-remove f [] (suc k) = refl
map-remove f (y ∷ ys) zero = refl
map-remove f (y ∷ ys) (suc k) = ap (λ zs. f y ∷ zs) (map-remove f ys k)

pub All-insert : {A : Type 0} (P : A → Type 0) (xs : List A) (k : ℕ) (x : A) → AllByRecursion P xs → P x → AllByRecursion P (insert xs k x)
All-insert P [] zero x all this = (this, tt)
All-insert P [] (suc k) x all this = (this, tt)
All-insert P (y ∷ ys) zero x all this = (this, all)
All-insert P (y ∷ ys) (suc k) x all this = (all.0, All-insert P ys k x all.1 this)

pub All-remove : {A : Type 0} (P : A → Type 0) (xs : List A) (k : ℕ) → AllByRecursion P xs → AllByRecursion P (remove xs k)
All-remove P [] zero all = tt
All-remove P [] (suc k) all = tt
All-remove P (y ∷ ys) zero all = all.1
All-remove P (y ∷ ys) (suc k) all = (all.0, All-remove P ys k all.1)

-- a list with one less is no longer
pub length-remove : {A : Type 0} (xs : List A) (k : ℕ) → length (remove xs k) ≤ length xs
length-remove [] zero = omega arith
length-remove [] (suc k) = omega arith
length-remove (y ∷ ys) zero = omega arith
length-remove (y ∷ ys) (suc k) = let rest = length-remove ys k in let one : length (remove (y ∷ ys) (suc k)) ≡ suc (length (remove ys k)) = refl in omega arith

-- a list with one more is longer by one
pub length-insert : {A : Type 0} (xs : List A) (k : ℕ) (x : A) → length (insert xs k x) ≡ length xs + 1
length-insert [] zero x = omega arith
length-insert [] (suc k) x = omega arith
length-insert (y ∷ ys) zero x = omega arith
length-insert (y ∷ ys) (suc k) x = let rest = length-insert ys k x in let one : length (insert (y ∷ ys) (suc k) x) ≡ suc (length (insert ys k x)) = refl in omega arith

-- a name that none has differs from each
all_differ : (n : NameOf) (names : List NameOf) → list_any (same_name n) names ≡ false → AllByRecursion (λ m. same_name n m ≡ false) names
all_differ n [] free = tt
all_differ n (m ∷ ms) free = by (same_name n m) refl free (all_differ n ms)
  where
    by : (b : Bool) → same_name n m ≡ b → (b || list_any (same_name n) ms) ≡ false → (list_any (same_name n) ms ≡ false → AllByRecursion (λ z. same_name n z ≡ false) ms) → AllByRecursion (λ z. same_name n z ≡ false) (m ∷ ms)
    by true same free rest = cc
    by false differs free rest = (differs, rest free)

-- a name that differs from each is none of them
none_of : (n : NameOf) (names : List NameOf) → AllByRecursion (λ m. same_name n m ≡ false) names → list_any (same_name n) names ≡ false
none_of n [] all = refl
none_of n (m ∷ ms) all = ap (λ b. b || list_any (same_name n) ms) all.0 ∙ none_of n ms all.1

-- different names, and a new one among them
pub IsDistinct-insert : (names : List NameOf) (k : ℕ) (n : NameOf) → IsDistinct same_name names → list_any (same_name n) names ≡ false → IsDistinct same_name (insert names k n)
IsDistinct-insert [] zero n distinct free = IsDistinct-cons same_name n [] tt distinct
IsDistinct-insert [] (suc k) n distinct free = IsDistinct-cons same_name n [] tt distinct
IsDistinct-insert (m ∷ ms) zero n distinct free = IsDistinct-cons same_name n (m ∷ ms) (all_differ n (m ∷ ms) free) distinct
IsDistinct-insert (m ∷ ms) (suc k) n distinct free =
    let differs = all_differ n (m ∷ ms) free in
    IsDistinct-cons same_name m (insert ms k n)
    (All-insert (λ z. same_name m z ≡ false) ms k n (IsDistinct-head same_name m ms distinct) (same_name-sym m n ∙ differs.0))
    (IsDistinct-insert ms k n (IsDistinct-tail same_name m ms distinct) (none_of n ms differs.1))

-- different names, without one of them
pub IsDistinct-remove : (names : List NameOf) (k : ℕ) → IsDistinct same_name names → IsDistinct same_name (remove names k)
IsDistinct-remove [] zero distinct = distinct
IsDistinct-remove [] (suc k) distinct = distinct
IsDistinct-remove (m ∷ ms) zero distinct = IsDistinct-tail same_name m ms distinct
IsDistinct-remove (m ∷ ms) (suc k) distinct =
    IsDistinct-cons same_name m (remove ms k) (All-remove (λ z. same_name m z ≡ false) ms k (IsDistinct-head same_name m ms distinct))
    (IsDistinct-remove ms k (IsDistinct-tail same_name m ms distinct))

module _ {T : Type 0} (name_of : T → NameOf) (x : T) where
  -- an item in the place of that of its name has the same name
  pub map-replaced : (items : List T) → map name_of (replaced name_of x items) ≡ map name_of items
  map-replaced [] = refl
  map-replaced (y ∷ ys) = λ j. by (same_name (name_of x) (name_of y)) refl j ∷ map-replaced ys j
    where
      by : (b : Bool) → same_name (name_of x) (name_of y) ≡ b → name_of (cond b x y) ≡ name_of y
      by true same = (bytes_eq-Decides (name_of x) (name_of y)).0 same
      by false differs = refl

  -- what holds of each item, and of the one that takes a place
  pub All-replaced : (P : T → Type 0) (items : List T) → AllByRecursion P items → P x → AllByRecursion P (replaced name_of x items)
  All-replaced P [] all this = tt
  All-replaced P (y ∷ ys) all this = (by (same_name (name_of x) (name_of y)), All-replaced P ys all.1 this)
    where
      by : (b : Bool) → P (cond b x y)
      by true = this
      by false = all.0

-- a name that was taken out of different ones is free
pub removed-free : (names : List NameOf) (k : ℕ) (n : NameOf) → IsDistinct same_name names → slice_get names k ≡ Some n → list_any (same_name n) (remove names k) ≡ false
removed-free [] k n distinct at = cc
removed-free (m ∷ ms) zero n distinct at =
    let same : m ≡ n = cc in
    subst (λ z. list_any (same_name z) ms ≡ false) same (none_of m ms (IsDistinct-head same_name m ms distinct))
removed-free (m ∷ ms) (suc k) n distinct at =
    let differs = at_place (λ z. same_name m z ≡ false) ms k n (IsDistinct-head same_name m ms distinct) at in
    ap (λ b. b || list_any (same_name n) (remove ms k)) (same_name-sym n m ∙ differs) ∙ removed-free ms k n (IsDistinct-tail same_name m ms distinct) at
  where
    at_place : (P : NameOf → Type 0) (names : List NameOf) (k : ℕ) (n : NameOf) → AllByRecursion P names → slice_get names k ≡ Some n → P n
    at_place P [] k n all at = cc
    at_place P (z ∷ zs) zero n all at = let same : z ≡ n = cc in subst P same all.0
    at_place P (z ∷ zs) (suc k) n all at = at_place P zs k n all.1 at
