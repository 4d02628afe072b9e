-- The separations that push, one multiplier further.
use Rattle.std.proofs.Common.{◌≡◌, ◌+◌, ◌<◌, ℕ, List, [], ◌∷◌, ◌++◌, Bool, true, false, cond, length, drop, get_or, ap, sym, ◌∙◌, append_assoc}
use Rattle.std.proofs.lemmas.List.{drop_more}
use Rattle.frac128.specs.Fraction.{Fraction}
use Rattle.doc_book.specs.Hints.{is_pushing, pushing_from}

from_next : (ms : List Fraction) (k : ℕ) (m : Fraction) (b : Bool) → k < length ms → m ≡ get_or ms k m → is_pushing m ≡ b
    → pushing_from k (drop k ms) ≡ cond b (k ∷ pushing_from (k + 1) (drop (k + 1) ms)) (pushing_from (k + 1) (drop (k + 1) ms))
from_next ms k m b within at is =
    ap (pushing_from k) (drop_more ms k m within)
    ∙ ap (λ (f : Fraction). cond (is_pushing f) (k ∷ pushing_from (k + 1) (drop (k + 1) ms)) (pushing_from (k + 1) (drop (k + 1) ms))) (sym at)
    ∙ ap (λ b. cond b (k ∷ pushing_from (k + 1) (drop (k + 1) ms)) (pushing_from (k + 1) (drop (k + 1) ms))) is

-- a multiplier that is 0 leaves the numbers
pub pushing-same : (numbers : List ℕ) (ms : List Fraction) (k : ℕ) (m : Fraction) → k < length ms → m ≡ get_or ms k m → is_pushing m ≡ false
    → numbers ++ pushing_from (k + 1) (drop (k + 1) ms) ≡ numbers ++ pushing_from k (drop k ms)
pushing-same numbers ms k m within at is = ap (λ ks. numbers ++ ks) (sym (from_next ms k m false within at is))

-- one that isn't adds its own
pub pushing-more : (numbers : List ℕ) (ms : List Fraction) (k : ℕ) (m : Fraction) → k < length ms → m ≡ get_or ms k m → is_pushing m ≡ true
    → (numbers ++ k ∷ []) ++ pushing_from (k + 1) (drop (k + 1) ms) ≡ numbers ++ pushing_from k (drop k ms)
pushing-more numbers ms k m within at is =
    append_assoc numbers (k ∷ []) (pushing_from (k + 1) (drop (k + 1) ms)) ∙ ap (λ ks. numbers ++ ks) (sym (from_next ms k m true within at is))
