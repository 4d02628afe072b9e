-- Names and places of items in a list.
use Rattle.std.proofs.Common.{◌≡◌, ◌+◌, ℕ, List, [], ◌∷◌, ◌++◌, Bool, refl, ap, arith, take, slice_get, Some, zero, suc, add-one}
use Rattle.std.specs.Prelude.{position}
use Rattle.std.specs.List.{list_any}
use Rattle.std.specs.Cmp.Lexicographic.{nat_list_eq_equiv}
use Rattle.std.specs.Option.{is_some}
use Rattle.std.proofs.lemmas.Bool.Decides.{nat_tests}
use Rattle.scene_model.specs.Names.{NameOf, same_name}

-- a place is found exactly where some element passes
pub is_some-position : {A : Type 0} (p : A → Bool) (xs : List A) → is_some (position p xs) ≡ list_any p xs
is_some-position p [] = refl
is_some-position p (x ∷ xs) = grind (arith, nat_tests, is_some-position p xs)

pub same_name-sym : (m n : NameOf) → same_name m n ≡ same_name n m
same_name-sym m n = nat_list_eq_equiv.symm m n

-- the elements before a place, and the one there
pub take-next : {A : Type 0} (xs : List A) (k : ℕ) (x : A) → slice_get xs k ≡ Some x → take (k + 1) xs ≡ take k xs ++ x ∷ []
take-next xs k x at = rw add-one (at_suc xs k x at)
  where
    at_suc : {A : Type 0} (xs : List A) (k : ℕ) (x : A) → slice_get xs k ≡ Some x → take (suc k) xs ≡ take k xs ++ x ∷ []
    at_suc [] k x at = cc
    at_suc (y ∷ ys) zero x at = let e : y ≡ x = cc in ap (λ z. z ∷ []) e
    at_suc (y ∷ ys) (suc k) x at = ap (λ zs. y ∷ zs) (at_suc ys k x at)
