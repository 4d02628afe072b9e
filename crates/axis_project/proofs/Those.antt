-- The elements of a key, and their numbers among them.
use Rattle.std.proofs.Common.{◌≡◌, ◌∙◌, ap, sym, refl, ℕ, zero, suc, ◌<◌, ◌≤◌, List, [], ◌∷◌, length, get_or, map, Bool, true, false, ◌==◌, if◌then◌else◌, ⊎_elim, arith}
use Rattle.std.specs.List.{AllByRecursion}
use Rattle.std.proofs.lemmas.Bool.{eq-eqb, eqb-true, ne_eqb, cases_order, cases_eq}
use Rattle.axis_project.specs.Components.{those, before, rank}

-- ---- numbers among those of a key

-- an element of the key has a number among those, and stands there
pub those-at : {A : Type 0} (key : ℕ) (ks : List ℕ) (xs : List A) (v : ℕ) (d : A) → v < length ks → v < length xs → get_or ks v 0 ≡ key
    → (before key ks v < length (those key ks xs)) × (get_or (those key ks xs) (before key ks v) d ≡ get_or xs v d)
those-at key [] xs v d k x is = absurd (omega arith)
those-at key (k ∷ ks) [] v d h x is = absurd (omega arith)
those-at {A} key (k ∷ ks) (x ∷ xs) zero d h within is = by (k == key) (eq-eqb k key is)
  where
    by : (b : Bool) → b ≡ true → (0 < length (if b then x ∷ those key ks xs else those key ks xs)) × (get_or (if b then x ∷ those key ks xs else those key ks xs) 0 d ≡ x)
    by true e = (omega arith, refl)
    by false e = cc
those-at {A} key (k ∷ ks) (x ∷ xs) (suc v) d h within is = by (k == key) (those-at key ks xs v d (omega arith) (omega arith) is)
  where
    by : (b : Bool) → (before key ks v < length (those key ks xs)) × (get_or (those key ks xs) (before key ks v) d ≡ get_or xs v d)
        → ((if b then suc (before key ks v) else before key ks v) < length (if b then x ∷ those key ks xs else those key ks xs))
        × (get_or (if b then x ∷ those key ks xs else those key ks xs) (if b then suc (before key ks v) else before key ks v) d ≡ get_or xs v d)
    by true rest = (omega arith, rest.1)
    by false rest = rest

-- a later element has a greater number
rises : (key : ℕ) (ks : List ℕ) (v w : ℕ) → v < length ks → get_or ks v 0 ≡ key → v < w → before key ks v < before key ks w
rises key [] v w h is less = absurd (omega arith)
rises key (k ∷ ks) v zero h is less = absurd (omega arith)
rises key (k ∷ ks) zero (suc w) h is less = by (k == key) (eq-eqb k key is)
  where
    by : (b : Bool) → b ≡ true → 0 < (if b then suc (before key ks w) else before key ks w)
    by true e = omega arith
    by false e = cc
rises key (k ∷ ks) (suc v) (suc w) h is less = by (k == key) (rises key ks v w (omega arith) is (omega arith))
  where
    by : (b : Bool) → before key ks v < before key ks w → (if b then suc (before key ks v) else before key ks v) < (if b then suc (before key ks w) else before key ks w)
    by true rest = omega arith
    by false rest = rest

-- so two elements of a key with one number are one
pub same_rank : (ks : List ℕ) (v w : ℕ) → v < length ks → w < length ks → get_or ks v 0 ≡ get_or ks w 0 → rank ks v ≡ rank ks w → v ≡ w
same_rank ks v w v_within w_within keys ranks = ⊎_elim (λ is. is) (λ apart. absurd (⊎_elim up down apart)) (cases_order v w)
  where
    one_key : before (get_or ks w 0) ks v ≡ before (get_or ks w 0) ks w
    one_key = ap (λ key. before key ks v) (sym keys) ∙ ranks

    up : v < w → ⊥
    up less = let more = rises (get_or ks w 0) ks v w v_within keys less in omega (arith, one_key)

    down : w < v → ⊥
    down less = let more = rises (get_or ks w 0) ks w v w_within refl less in omega (arith, one_key)

-- where there is no element, none is before
pub before_none : (key : ℕ) (ks : List ℕ) → before key ks 0 ≡ 0
before_none key [] = refl
before_none key (k ∷ ks) = refl

-- one element further
pub before_next : (key : ℕ) (ks : List ℕ) (v : ℕ) → v < length ks → before key ks (suc v) ≡ (if get_or ks v 0 == key then suc (before key ks v) else before key ks v)
before_next key [] v h = absurd (omega arith)
before_next key (k ∷ ks) zero h = ap (λ (n : ℕ). if k == key then suc n else n) (before_none key ks)
before_next key (k ∷ ks) (suc v) h = by (k == key) (before_next key ks v (omega arith))
  where
    by : (b : Bool) → before key ks (suc v) ≡ (if get_or ks v 0 == key then suc (before key ks v) else before key ks v)
        → (if b then suc (before key ks (suc v)) else before key ks (suc v)) ≡ (if get_or ks v 0 == key then suc (if b then suc (before key ks v) else before key ks v) else (if b then suc (before key ks v) else before key ks v))
    by true rest = ap suc rest ∙ out (get_or ks v 0 == key)
      where
        out : (c : Bool) → suc (if c then suc (before key ks v) else before key ks v) ≡ (if c then suc (suc (before key ks v)) else suc (before key ks v))
        out true = refl
        out false = refl
    by false rest = rest

pub before_small : (key : ℕ) (ks : List ℕ) (v : ℕ) → before key ks v ≤ v
before_small key [] v = omega arith
before_small key (k ∷ ks) zero = omega arith
before_small key (k ∷ ks) (suc v) = by (k == key) (before_small key ks v)
  where
    by : (b : Bool) → before key ks v ≤ v → (if b then suc (before key ks v) else before key ks v) ≤ suc v
    by true rest = omega arith
    by false rest = omega arith

-- ---- lists of those

pub length-those : {A B : Type 0} (key : ℕ) (ks : List ℕ) (xs : List A) (ys : List B) → length xs ≡ length ys → length (those key ks xs) ≡ length (those key ks ys)
length-those key [] xs ys long = refl
length-those key (k ∷ ks) [] [] long = refl
length-those key (k ∷ ks) [] (y ∷ ys) long = absurd (omega arith)
length-those key (k ∷ ks) (x ∷ xs) [] long = absurd (omega arith)
length-those key (k ∷ ks) (x ∷ xs) (y ∷ ys) long = by (k == key) (length-those key ks xs ys (omega arith))
  where
    by : (b : Bool) → length (those key ks xs) ≡ length (those key ks ys) → length (if b then x ∷ those key ks xs else those key ks xs) ≡ length (if b then y ∷ those key ks ys else those key ks ys)
    by true rest = ap suc rest
    by false rest = rest

pub those-fewer : {A : Type 0} (key : ℕ) (ks : List ℕ) (xs : List A) → length (those key ks xs) ≤ length xs
those-fewer key [] xs = omega arith
those-fewer key (k ∷ ks) [] = omega arith
those-fewer key (k ∷ ks) (x ∷ xs) = by (k == key) (those-fewer key ks xs)
  where
    by : (b : Bool) → length (those key ks xs) ≤ length xs → length (if b then x ∷ those key ks xs else those key ks xs) ≤ suc (length xs)
    by true rest = omega arith
    by false rest = omega arith

-- what holds of all holds of those
pub those-all : {A : Type 0} (P : A → Type 0) (key : ℕ) (ks : List ℕ) (xs : List A) → AllByRecursion P xs → AllByRecursion P (those key ks xs)
those-all P key [] xs all = tt
those-all P key (k ∷ ks) [] all = tt
those-all P key (k ∷ ks) (x ∷ xs) all = by (k == key) (those-all P key ks xs all.1)
  where
    by : (b : Bool) → AllByRecursion P (those key ks xs) → AllByRecursion P (if b then x ∷ those key ks xs else those key ks xs)
    by true rest = (all.0, rest)
    by false rest = rest

-- keys and elements both made of others
pub those-mapped : {A B : Type 0} (P : B → Type 0) (g : A → ℕ) (f : A → B) (key : ℕ) (xs : List A) → AllByRecursion (λ x. g x ≡ key → P (f x)) xs
    → AllByRecursion P (those key (map g xs) (map f xs))
those-mapped P g f key [] all = tt
those-mapped P g f key (x ∷ xs) all = by (g x == key) refl (those-mapped P g f key xs all.1)
  where
    by : (b : Bool) → (g x == key) ≡ b → AllByRecursion P (those key (map g xs) (map f xs)) → AllByRecursion P (if b then f x ∷ those key (map g xs) (map f xs) else those key (map g xs) (map f xs))
    by true is rest = (all.0 (eqb-true (g x) key is), rest)
    by false is rest = rest

-- two tests that come to the same
pub same_tests : (a b c d : ℕ) → (a ≡ b → c ≡ d) → (c ≡ d → a ≡ b) → (a == b) ≡ (c == d)
same_tests a b c d there back = ⊎_elim (λ is. eq-eqb a b is ∙ sym (eq-eqb c d (there is))) (λ differ. ne_eqb a b differ ∙ sym (ne_eqb c d (λ is. differ (back is)))) (cases_eq a b)

-- a list whose elements stand, by their numbers, where those of the key do
pub those-are : {A : Type 0} (key : ℕ) (ks : List ℕ) (xs list : List A) → length xs ≡ length ks → length list ≡ length (those key ks xs)
    → ((v : ℕ) (d : A) → v < length ks → get_or ks v 0 ≡ key → get_or xs v d ≡ get_or list (before key ks v) d) → those key ks xs ≡ list
those-are key [] xs [] long same each = refl
those-are key [] xs (l ∷ ls) long same each = absurd (omega arith)
those-are key (k ∷ ks) [] list long same each = absurd (omega arith)
those-are {A} key (k ∷ ks) (x ∷ xs) list long same each = by (k == key) refl list same each (λ ys as_long found. those-are key ks xs ys (omega arith) as_long found)
  where
    here : (b : Bool) → (k == key) ≡ b → (v : ℕ) → (if k == key then suc (before key ks v) else before key ks v) ≡ (if b then suc (before key ks v) else before key ks v)
    here b is v = ap (λ c. if c then suc (before key ks v) else before key ks v) is

    by : (b : Bool) → (k == key) ≡ b → (ls : List A) → length ls ≡ length (if k == key then x ∷ those key ks xs else those key ks xs)
        → ((v : ℕ) (d : A) → v < length (k ∷ ks) → get_or (k ∷ ks) v 0 ≡ key → get_or (x ∷ xs) v d ≡ get_or ls (before key (k ∷ ks) v) d)
        → ((ys : List A) → length ys ≡ length (those key ks xs) → ((v : ℕ) (d : A) → v < length ks → get_or ks v 0 ≡ key → get_or xs v d ≡ get_or ys (before key ks v) d) → those key ks xs ≡ ys)
        → (if b then x ∷ those key ks xs else those key ks xs) ≡ ls
    by true is [] long_as found rest = absurd (let longer = long_as ∙ ap (λ c. length (if c then x ∷ those key ks xs else those key ks xs)) is in omega arith)
    by true is (l ∷ ls) long_as found rest =
        let longer = long_as ∙ ap (λ c. length (if c then x ∷ those key ks xs else those key ks xs)) is in
        ap (λ y. y ∷ those key ks xs) (found 0 l (omega arith) (eqb-true k key is))
        ∙ ap (λ ys. l ∷ ys) (rest ls (omega arith) (λ v d within key_is. found (suc v) d (omega arith) key_is ∙ ap (λ i. get_or (l ∷ ls) i d) (here true is v)))
    by false is ls long_as found rest =
        let as_long = long_as ∙ ap (λ c. length (if c then x ∷ those key ks xs else those key ks xs)) is in
        rest ls as_long (λ v d within key_is. found (suc v) d (omega arith) key_is ∙ ap (λ i. get_or ls i d) (here false is v))
