-- The first element of which something holds.
use Rattle.std.proofs.Common.{◌≡◌, ◌<◌, ℕ, zero, suc, List, [], ◌∷◌, Bool, true, false, cond, Option, Some, None, refl, sym, subst, arith, slice_get}
use Rattle.std.specs.Prelude.{find, nat_lt}
use Rattle.std.proofs.lemmas.Bool.{ltb-true, ltb-false}
use Rattle.edit_rules.specs.Firsts.{IsFirst}

-- it holds at no place of the list
abbrev pub HoldsNowhere : {A : Type 0} → (ℕ → A → Type 0) → List A → Type 0
HoldsNowhere {A} P xs = (k : ℕ) (x : A) → slice_get xs k ≡ Some x → P k x → ⊥

-- it holds of the head
pub first-here : {A : Type 0} (P : ℕ → A → Type 0) (x : A) (xs : List A) → P 0 x → IsFirst P (x ∷ xs) x
first-here P x xs holds = record { at = 0; there = refl; holds = holds; first = λ k other lt. absurd (omega (arith, lt)) }

-- it doesn't hold of the head
pub first-later : {A : Type 0} (P : ℕ → A → Type 0) (x y : A) (xs : List A) → (P 0 x → ⊥) → IsFirst (λ k. P (suc k)) xs y → IsFirst P (x ∷ xs) y
first-later {A} P x y xs fails later = record { at = suc later.at; there = later.there; holds = later.holds; first = before }
  where
    before : (k : ℕ) (z : A) → k < suc later.at → slice_get (x ∷ xs) k ≡ Some z → P k z → ⊥
    before zero z lt there holds = let same : x ≡ z = cc in fails (subst (P 0) (sym same) holds)
    before (suc k) z lt there holds = later.first k z (omega (arith, lt)) there holds

pub nowhere-later : {A : Type 0} (P : ℕ → A → Type 0) (x : A) (xs : List A) → (P 0 x → ⊥) → HoldsNowhere (λ k. P (suc k)) xs → HoldsNowhere P (x ∷ xs)
nowhere-later P x xs fails later zero z there holds = let same : x ≡ z = cc in fails (subst (P 0) (sym same) holds)
nowhere-later P x xs fails later (suc k) z there holds = later k z there holds

-- there is one first
pub first-unique : {A : Type 0} (P : ℕ → A → Type 0) (xs : List A) (x y : A) → IsFirst P xs x → IsFirst P xs y → x ≡ y
first-unique {A} P xs x y a b = by (nat_lt a.at b.at) (nat_lt b.at a.at) refl refl
  where
    by : (before behind : Bool) → nat_lt a.at b.at ≡ before → nat_lt b.at a.at ≡ behind → x ≡ y
    by true behind lt other = absurd (b.first a.at x (ltb-true _ _ lt) a.there a.holds)
    by false true lt other = absurd (a.first b.at y (ltb-true _ _ other) b.there b.holds)
    by false false lt other =
        let le = ltb-false a.at b.at lt in
        let ge = ltb-false b.at a.at other in
        let same : a.at ≡ b.at = omega (arith, le, ge) in
        let there : slice_get xs b.at ≡ Some x = subst (λ k. slice_get xs k ≡ Some x) same a.there in
        cc (there, b.there)

-- what holds at the same places has the same first
pub first-same : {A : Type 0} (P Q : ℕ → A → Type 0) (xs : List A) (x : A) → ((k : ℕ) (y : A) → P k y → Q k y) → ((k : ℕ) (y : A) → Q k y → P k y) → IsFirst P xs x → IsFirst Q xs x
first-same P Q xs x to back first = record { at = first.at; there = first.there; holds = to first.at x first.holds; first = λ k y lt there holds. first.first k y lt there (back k y holds) }

-- ---- the first that passes a test

module _ {A : Type 0} (p : A → Bool) (P : A → Type 0) (passes : (x : A) → p x ≡ true → P x) (fails : (x : A) → p x ≡ false → P x → ⊥) where
  pub find-first : (xs : List A) (x : A) → find p xs ≡ Some x → IsFirst (λ k. P) xs x
  find-first [] x is = cc
  find-first (y ∷ ys) x is = by (p y) refl is (find-first ys x)
    where
      by : (b : Bool) → p y ≡ b → cond b (Some y) (find p ys) ≡ Some x → (find p ys ≡ Some x → IsFirst (λ k. P) ys x) → IsFirst (λ k. P) (y ∷ ys) x
      by true here is rest = let same : y ≡ x = cc in subst (IsFirst (λ k. P) (y ∷ ys)) same (first-here (λ k. P) y ys (passes y here))
      by false here is rest = first-later (λ k. P) y x ys (fails y here) (rest is)

  pub find-nowhere : (xs : List A) → find p xs ≡ None → HoldsNowhere (λ k. P) xs
  find-nowhere [] none = λ k x there holds. cc
  find-nowhere (y ∷ ys) none = by (p y) refl none (find-nowhere ys)
    where
      by : (b : Bool) → p y ≡ b → cond b (Some y) (find p ys) ≡ None → (find p ys ≡ None → HoldsNowhere (λ k. P) ys) → HoldsNowhere (λ k. P) (y ∷ ys)
      by true here none rest = cc
      by false here none rest = nowhere-later (λ k. P) y ys (fails y here) (rest none)

  pub first-find : (xs : List A) (x : A) → IsFirst (λ k. P) xs x → find p xs ≡ Some x
  first-find xs x first = by (find p xs) refl
    where
      by : (o : Option A) → find p xs ≡ o → find p xs ≡ Some x
      by None is = absurd (find-nowhere xs is first.at x first.there first.holds)
      by (Some y) is = let same : y ≡ x = first-unique (λ k. P) xs y x (find-first xs y is) first in subst (λ z. find p xs ≡ Some z) same is
