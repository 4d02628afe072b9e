-- What holds of each element of lists, and of two lists together.
use Rattle.std.proofs.Common.{◌≡◌, ℕ, zero, suc, ◌+◌, ◌<◌, ◌≤◌, List, [], ◌∷◌, ◌++◌, All, Some, length, map, take, refl, ap, ◌∙◌, subst, arith, slice_get, slice_index_or}
use Rattle.std.specs.Prelude.{⊤}
use Rattle.std.specs.List.{AllByRecursion}
use Rattle.std.proofs.lemmas.List.Elements.{All-head, All-tail}
use Rattle.turn_table.specs.Counting.{numbers_from}

module _ {A : Type 0} (P : A → Type 0) where
  pub each_of_all : (xs : List A) → All P xs → AllByRecursion P xs
  each_of_all [] all = tt
  each_of_all (x ∷ xs) all = (All-head P x xs all, each_of_all xs (All-tail P x xs all))

  pub all_of_each : (xs : List A) → AllByRecursion P xs → All P xs
  all_of_each [] each i d lt = absurd (omega (arith, lt))
  all_of_each (x ∷ xs) each zero d lt = each.0
  all_of_each (x ∷ xs) each (suc i) d lt = all_of_each xs each.1 i d (omega (arith, lt))

  pub each_left : (xs ys : List A) → AllByRecursion P (xs ++ ys) → AllByRecursion P xs
  each_left [] ys each = tt
  each_left (x ∷ xs) ys each = (each.0, each_left xs ys each.1)

  pub each_right : (xs ys : List A) → AllByRecursion P (xs ++ ys) → AllByRecursion P ys
  each_right [] ys each = each
  each_right (x ∷ xs) ys each = each_right xs ys each.1

  pub each_both : (xs ys : List A) → AllByRecursion P xs → AllByRecursion P ys → AllByRecursion P (xs ++ ys)
  each_both [] ys left right = right
  each_both (x ∷ xs) ys left right = (left.0, each_both xs ys left.1 right)

  -- of each of the first elements
  pub each_taken : (xs : List A) (n : ℕ) → n ≤ length xs → ((k : ℕ) → k < n → (x : A) × (slice_get xs k ≡ Some x) × P x) → AllByRecursion P (take n xs)
  each_taken xs zero le at = tt
  each_taken [] (suc n) le at = absurd (omega (arith, le))
  each_taken (x ∷ xs) (suc n) le at =
      let first = at 0 (omega arith) in
      (subst P (same first.0 first.1) first.2, each_taken xs n (omega (arith, le)) (λ k lt. at (suc k) (omega (arith, lt))))
    where
      same : (y : A) → Some x ≡ Some y → y ≡ x
      same y e = cc

module _ {A : Type 0} (P Q R : A → Type 0) where
  pub each_two : (xs : List A) → ((x : A) → P x → Q x → R x) → AllByRecursion P xs → AllByRecursion Q xs → AllByRecursion R xs
  each_two [] step ps qs = tt
  each_two (x ∷ xs) step ps qs = (step x ps.0 qs.0, each_two xs step ps.1 qs.1)

module _ {A B : Type 0} (P : B → Type 0) (f : A → B) where
  pub each_unmap : (xs : List A) → AllByRecursion P (map f xs) → AllByRecursion (λ (x : A). P (f x)) xs
  each_unmap [] each = tt
  each_unmap (x ∷ xs) each = (each.0, each_unmap xs each.1)

  pub each_map : (xs : List A) → AllByRecursion (λ (x : A). P (f x)) xs → AllByRecursion P (map f xs)
  each_map [] each = tt
  each_map (x ∷ xs) each = (each.0, each_map xs each.1)

-- numbers that are those of a range lie in it
pub in_range : {A : Type 0} (f : A → ℕ) (xs : List A) (k n : ℕ) → map f xs ≡ numbers_from k n → AllByRecursion (λ (x : A). (k ≤ f x) × (f x < k + n)) xs
in_range f [] k n are = tt
in_range f (x ∷ xs) k zero are = absurd (never are)
  where
    never : f x ∷ map f xs ≡ [] → ⊥
    never e = cc
in_range {A} f (x ∷ xs) k (suc n) are =
    let here : f x ≡ k = head (map f xs) (numbers_from (k + 1) n) are in
    let rest : map f xs ≡ numbers_from (k + 1) n = tail (f x) k are in
    ((omega (arith, here), omega (arith, here)), each_two (λ (y : A). (k + 1 ≤ f y) × (f y < k + 1 + n)) (λ y. ⊤) (λ (y : A). (k ≤ f y) × (f y < k + suc n)) xs (λ y r t. (omega (arith, r.0), omega (arith, r.1))) (in_range f xs (k + 1) n rest) (all_true xs))
  where
    head : (ys zs : List ℕ) → f x ∷ ys ≡ k ∷ zs → f x ≡ k
    head ys zs e = cc

    tail : (a b : ℕ) → a ∷ map f xs ≡ b ∷ numbers_from (k + 1) n → map f xs ≡ numbers_from (k + 1) n
    tail a b e = cc

    all_true : (ys : List A) → AllByRecursion (λ y. ⊤) ys
    all_true [] = tt
    all_true (y ∷ ys) = (tt, all_true ys)

-- two lists whose elements have the same number at each index have the same numbers
pub map_same : {A : Type 0} (f : A → ℕ) (xs ys : List A) → length ys ≡ length xs → ((i : ℕ) (d : A) → i < length xs → f (slice_index_or ys i d) ≡ f (slice_index_or xs i d)) → map f ys ≡ map f xs
map_same f [] [] len same = refl
map_same f [] (y ∷ ys) len same = absurd (omega (arith, len))
map_same f (x ∷ xs) [] len same = absurd (omega (arith, len))
map_same f (x ∷ xs) (y ∷ ys) len same =
    let here : f y ≡ f x = same 0 x (omega arith) in
    ap (λ (z : ℕ). z ∷ map f ys) here ∙ ap (λ (zs : List ℕ). f x ∷ zs) (map_same f xs ys (omega (arith, len)) (λ i d lt. same (suc i) d (omega (arith, lt))))
