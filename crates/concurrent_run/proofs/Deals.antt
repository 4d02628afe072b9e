-- Callers' numbers, dealt to sessions and workers.
use Rattle.std.proofs.Common.{◌≡◌, ℕ, zero, suc, ◌+◌, ◌<◌, ◌≤◌, List, [], ◌∷◌, ◌++◌, Bool, true, false, cond, length, refl, sym, ap, ◌∙◌, arith}
use Rattle.std.specs.Prelude.{nat_le}
use Rattle.std.proofs.lemmas.Bool.Decides.{nat_tests}
use Rattle.std.proofs.lemmas.List.{append-nil}
use Rattle.turn_table.specs.Counting.{numbers_from}

-- the numbers up to 8, in order
abbrev pub below : List ℕ → List ℕ
below [] = []
below (x ∷ xs) = cond (nat_le x 8) (x ∷ below xs) (below xs)

-- the numbers above 8, in order
abbrev pub above : List ℕ → List ℕ
above [] = []
above (x ∷ xs) = cond (nat_le x 8) (above xs) (x ∷ above xs)

pub below-append : (xs ys : List ℕ) → below (xs ++ ys) ≡ below xs ++ below ys
below-append [] ys = refl
below-append (x ∷ xs) ys = by (nat_le x 8) (below-append xs ys)
  where
    by : (b : Bool) → below (xs ++ ys) ≡ below xs ++ below ys → cond b (x ∷ below (xs ++ ys)) (below (xs ++ ys)) ≡ cond b (x ∷ below xs) (below xs) ++ below ys
    by true rest = ap (λ zs. x ∷ zs) rest
    by false rest = rest

pub above-append : (xs ys : List ℕ) → above (xs ++ ys) ≡ above xs ++ above ys
above-append [] ys = refl
above-append (x ∷ xs) ys = by (nat_le x 8) (above-append xs ys)
  where
    by : (b : Bool) → above (xs ++ ys) ≡ above xs ++ above ys → cond b (above (xs ++ ys)) (x ∷ above (xs ++ ys)) ≡ cond b (above xs) (x ∷ above xs) ++ above ys
    by true rest = rest
    by false rest = ap (λ zs. x ∷ zs) rest

numbers_next : (k n : ℕ) → numbers_from k n ++ (k + n) ∷ [] ≡ numbers_from k (suc n)
numbers_next k zero = ap (λ x. x ∷ []) (omega arith)
numbers_next k (suc n) = ap (λ zs. k ∷ zs) (ap (λ x. numbers_from (k + 1) n ++ x ∷ []) (omega arith) ∙ numbers_next (k + 1) n)

-- one number more
pub numbers_push : (k n : ℕ) → numbers_from k n ++ (k + n) ∷ [] ≡ numbers_from k (n + 1)
numbers_push k n = let same : suc n ≡ n + 1 = omega arith in numbers_next k n ∙ ap (numbers_from k) same

pub numbers_length : (k n : ℕ) → length (numbers_from k n) ≡ n
numbers_length k zero = refl
numbers_length k (suc n) = ap suc (numbers_length (k + 1) n)

low : (k : ℕ) → k ≤ 8 → nat_le k 8 ≡ true
low k le = grind (arith, nat_tests, le)

high : (k : ℕ) → 8 < k → nat_le k 8 ≡ false
high k lt = grind (arith, nat_tests, lt)

below_high : (k n : ℕ) → 8 < k → below (numbers_from k n) ≡ []
below_high k zero lt = refl
below_high k (suc n) lt = ap (λ b. cond b (k ∷ below (numbers_from (k + 1) n)) (below (numbers_from (k + 1) n))) (high k lt) ∙ below_high (k + 1) n (omega (arith, lt))

above_high : (k n : ℕ) → 8 < k → above (numbers_from k n) ≡ numbers_from k n
above_high k zero lt = refl
above_high k (suc n) lt = ap (λ b. cond b (above (numbers_from (k + 1) n)) (k ∷ above (numbers_from (k + 1) n))) (high k lt) ∙ ap (λ zs. k ∷ zs) (above_high (k + 1) n (omega (arith, lt)))

-- the sessions' numbers are those up to 8, and the workers' those above
pub dealt_below : (n : ℕ) → below (numbers_from 1 8 ++ numbers_from 11 n) ≡ numbers_from 1 8
dealt_below n = below-append (numbers_from 1 8) (numbers_from 11 n) ∙ ap (λ zs. below (numbers_from 1 8) ++ zs) (below_high 11 n (omega arith))

pub dealt_above : (n : ℕ) → above (numbers_from 1 8 ++ numbers_from 11 n) ≡ numbers_from 11 n
dealt_above n = above-append (numbers_from 1 8) (numbers_from 11 n) ∙ ap (λ zs. above (numbers_from 1 8) ++ zs) (above_high 11 n (omega arith))

-- one pass more
pub below_low : (xs ys : List ℕ) (x : ℕ) → ys ≡ below xs → x ≤ 8 → ys ++ x ∷ [] ≡ below (xs ++ x ∷ [])
below_low xs ys x is le = ap (λ zs. zs ++ x ∷ []) is ∙ (ap (λ b. below xs ++ cond b (x ∷ []) []) (sym (low x le)) ∙ sym (below-append xs (x ∷ [])))

pub above_low : (xs ys : List ℕ) (x : ℕ) → ys ≡ above xs → x ≤ 8 → ys ≡ above (xs ++ x ∷ [])
above_low xs ys x is le = is ∙ (sym (append-nil (above xs)) ∙ (ap (λ b. above xs ++ cond b [] (x ∷ [])) (sym (low x le)) ∙ sym (above-append xs (x ∷ []))))

pub below_above : (xs ys : List ℕ) (x : ℕ) → ys ≡ below xs → 8 < x → ys ≡ below (xs ++ x ∷ [])
below_above xs ys x is lt = is ∙ (sym (append-nil (below xs)) ∙ (ap (λ b. below xs ++ cond b (x ∷ []) []) (sym (high x lt)) ∙ sym (below-append xs (x ∷ []))))

pub above_above : (xs ys : List ℕ) (x : ℕ) → ys ≡ above xs → 8 < x → ys ++ x ∷ [] ≡ above (xs ++ x ∷ [])
above_above xs ys x is lt = ap (λ zs. zs ++ x ∷ []) is ∙ (ap (λ b. above xs ++ cond b [] (x ∷ [])) (sym (high x lt)) ∙ sym (above-append xs (x ∷ [])))
