-- Numbers as they are passed on: within their width they are as they were.
use Rattle.std.proofs.Common.{◌≡◌, ◌≤◌, ◌<◌, ◌^◌, ◌+◌, ℕ, ℤ, pos, List, length, get_or, ◌+ℤ◌, ◌*ℤ◌, nat_abs, arith, sym, ap, ◌∙◌, FitsSigned, to_z, of_z, subst}
use Rattle.std.specs.Int.{w32, w64, w128, Width}
use Rattle.std.proofs.lemmas.Int.{ints, to_z-of_z, fits_signed_from_abs}
use Rattle.std.proofs.lemmas.List.{get_or_default}
use Rattle.block_sums.specs.Loads.{load_at}

-- a bound on a number bounds what is passed
pub passed-small : (w : Width) (z : ℤ) (n : ℕ) → FitsSigned w z → nat_abs z ≤ n → nat_abs (to_z w (of_z w z)) ≤ n
passed-small w z n f h = subst (λ t. nat_abs t ≤ n) (sym (to_z-of_z w z f)) h

-- a product of numbers that are passed fits where that of the numbers does
pub product-fits : (w : Width) (x y a b : ℤ) → x ≡ a → y ≡ b → FitsSigned w a → FitsSigned w b → FitsSigned w (a *ℤ b) → FitsSigned w (to_z w (of_z w x) *ℤ to_z w (of_z w y))
product-fits w x y a b ex ey fa fb f =
    subst (λ t. FitsSigned w (t *ℤ to_z w (of_z w y))) (sym (ap (λ t. to_z w (of_z w t)) ex ∙ to_z-of_z w a fa))
    (subst (λ t. FitsSigned w (a *ℤ t)) (sym (ap (λ t. to_z w (of_z w t)) ey ∙ to_z-of_z w b fb)) f)

-- and so for a sum
pub sum-fits : (w : Width) (x y a b : ℤ) → to_z w (of_z w x) ≡ a → to_z w (of_z w y) ≡ b → FitsSigned w (a +ℤ b) → FitsSigned w (to_z w (of_z w x) +ℤ to_z w (of_z w y))
sum-fits w x y a b ex ey f = subst (λ t. FitsSigned w (t +ℤ to_z w (of_z w y))) (sym ex) (subst (λ t. FitsSigned w (a +ℤ t)) (sym ey) f)

pub sum-is : (w : Width) (x y a b : ℤ) → to_z w (of_z w x) ≡ a → to_z w (of_z w y) ≡ b → FitsSigned w (a +ℤ b) → to_z w (of_z w (to_z w (of_z w x) +ℤ to_z w (of_z w y))) ≡ a +ℤ b
sum-is w x y a b ex ey f = rw (ex, ey) (to_z-of_z w (a +ℤ b) f)

pub fits-32 : (z : ℤ) (n : ℕ) → nat_abs z ≤ n → n < 2 ^ 31 → FitsSigned w32 z
fits-32 z n h b = fits_signed_from_abs w32 z (below (nat_abs z) n h b)
  where
    below : (k n : ℕ) → k ≤ n → n < 2 ^ 31 → k < 2 ^ 31
    below k n h b = omega arith

pub fits-64 : (z : ℤ) (n : ℕ) → nat_abs z ≤ n → n < 2 ^ 63 → FitsSigned w64 z
fits-64 z n h b = fits_signed_from_abs w64 z (below (nat_abs z) n h b)
  where
    below : (k n : ℕ) → k ≤ n → n < 2 ^ 63 → k < 2 ^ 63
    below k n h b = omega arith

pub fits-128 : (z : ℤ) (n : ℕ) → nat_abs z ≤ n → n < 2 ^ 127 → FitsSigned w128 z
fits-128 z n h b = fits_signed_from_abs w128 z (below (nat_abs z) n h b)
  where
    below : (k n : ℕ) → k ≤ n → n < 2 ^ 127 → k < 2 ^ 127
    below k n h b = omega arith

pub sum-small : (a b : ℤ) (m n : ℕ) → nat_abs a ≤ m → nat_abs b ≤ n → nat_abs (a +ℤ b) ≤ m + n
sum-small a b m n ha hb = omega (arith, ints, ha, hb)

-- a number that is known by an equation
pub passed-is : (w : Width) (x a : ℤ) → x ≡ a → FitsSigned w a → to_z w (of_z w x) ≡ a
passed-is w x a e f = ap (λ t. to_z w (of_z w t)) e ∙ to_z-of_z w a f

-- what is read of a list, as it is passed on
pub read-small : (xs : List ℤ) (i n : ℕ) (x : ℤ) → i < length xs → x ≡ get_or xs i x → nat_abs (load_at xs i) ≤ n → n < 2 ^ 63 → to_z w64 (of_z w64 x) ≡ load_at xs i
read-small xs i n x h e near b = passed-is w64 x (load_at xs i) (e ∙ get_or_default xs i x (pos 0) h) (fits-64 (load_at xs i) n near b)

pub read-bounded : (xs : List ℤ) (i n : ℕ) (x : ℤ) → i < length xs → x ≡ get_or xs i x → nat_abs (load_at xs i) ≤ n → n < 2 ^ 63 → nat_abs (to_z w64 (of_z w64 x)) ≤ n
read-bounded xs i n x h e near b = subst (λ z. nat_abs z ≤ n) (sym (read-small xs i n x h e near b)) near
