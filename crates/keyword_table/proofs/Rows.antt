-- The row of a spelling.
use Rattle.std.proofs.Common.{◌≡◌, ℕ, ◌+◌, ◌<◌, zero, suc, Bool, true, false, cond, List, [], ◌∷◌, length, Option, Some, None, ap, sym, ◌∙◌, refl, arith}
use Rattle.std.specs.Prelude.{bytes_eq, slice_get, Contains, IfSome, IsNone, slice_index_or}
use Rattle.std.specs.Borrow.{Bor}
use Rattle.std.specs.List.{position_from, list_any}
use Rattle.std.proofs.lemmas.List.{length-map}
use Rattle.std.proofs.lemmas.Slice.Eq.{bytes_eq-Decides}
use Rattle.std.proofs.lemmas.Option.{slice_get-get_or, slice_get_within, get_or_from_slice_get}
use Rattle.keyword_table.specs.Spellings.{all_differ, spellings}

-- a search gives the place of a spelling
pub row_found : (w : List ℕ) (rows : List (Bor (List ℕ))) (i r : ℕ) → position_from (λ (row : Bor (List ℕ)). bytes_eq row.now w) i rows ≡ Some r
    → (k : ℕ) × (r ≡ i + k) × (slice_get (spellings rows) k ≡ Some w)
row_found w [] i r is = absurd (cc is)
row_found w (row ∷ rows) i r is = by (bytes_eq row.now w) refl is (λ later. row_found w rows (i + 1) r later)
  where
    by : (b : Bool) → bytes_eq row.now w ≡ b → cond b (Some i) (position_from (λ (row : Bor (List ℕ)). bytes_eq row.now w) (i + 1) rows) ≡ Some r
        → (position_from (λ (row : Bor (List ℕ)). bytes_eq row.now w) (i + 1) rows ≡ Some r → (k : ℕ) × (r ≡ i + 1 + k) × (slice_get (spellings rows) k ≡ Some w))
        → (k : ℕ) × (r ≡ i + k) × (slice_get (spellings (row ∷ rows)) k ≡ Some w)
    by true same here further = let e : i ≡ r = cc here in (0, omega arith, ap Some ((bytes_eq-Decides row.now w).0 same))
    by false other later further = let found = further later in (suc found.0, omega (arith, found.1), found.2)

-- where it finds none, no row has the spelling
pub none_found : (w : List ℕ) (rows : List (Bor (List ℕ))) (i k : ℕ) → position_from (λ (row : Bor (List ℕ)). bytes_eq row.now w) i rows ≡ None
    → slice_get (spellings rows) k ≡ Some w → ⊥
none_found w [] i k is here = cc here
none_found w (row ∷ rows) i k is here = by (bytes_eq row.now w) refl is k here (λ later j there. none_found w rows (i + 1) j later there)
  where
    by : (b : Bool) → bytes_eq row.now w ≡ b → cond b (Some i) (position_from (λ (row : Bor (List ℕ)). bytes_eq row.now w) (i + 1) rows) ≡ None
        → (k : ℕ) → slice_get (spellings (row ∷ rows)) k ≡ Some w
        → (position_from (λ (row : Bor (List ℕ)). bytes_eq row.now w) (i + 1) rows ≡ None → (j : ℕ) → slice_get (spellings rows) j ≡ Some w → ⊥) → ⊥
    by true same is k here further = cc is
    by false other is zero here further = let same : row.now ≡ w = cc here in cc (other, (bytes_eq-Decides row.now w).1 same)
    by false other is (suc k) here further = further is k here

-- a spelling that stands in some row is among them
any_at : (w : List ℕ) (xs : List (List ℕ)) (k : ℕ) → slice_get xs k ≡ Some w → list_any (bytes_eq w) xs ≡ true
any_at w [] k here = absurd (cc here)
any_at w (x ∷ xs) zero here = let same : w ≡ x = sym (cc here) in grind (arith, (bytes_eq-Decides w x).1 same)
any_at w (x ∷ xs) (suc k) here = grind (arith, any_at w xs k here)

-- where all spellings differ, one stands in one row
pub same_row : (w : List ℕ) (xs : List (List ℕ)) (i j : ℕ) → all_differ xs ≡ true → slice_get xs i ≡ Some w → slice_get xs j ≡ Some w → i ≡ j
same_row w [] i j differ first second = absurd (cc first)
same_row w (x ∷ xs) zero zero differ first second = refl
same_row w (x ∷ xs) zero (suc j) differ first second =
    let same : x ≡ w = cc first in
    let again : list_any (bytes_eq x) xs ≡ true = any_at x xs j (second ∙ ap Some (sym same)) in
    absurd (grind (arith, differ, again))
same_row w (x ∷ xs) (suc i) zero differ first second =
    let same : x ≡ w = cc second in
    let again : list_any (bytes_eq x) xs ≡ true = any_at x xs i (first ∙ ap Some (sym same)) in
    absurd (grind (arith, differ, again))
same_row w (x ∷ xs) (suc i) (suc j) differ first second =
    let rest : all_differ xs ≡ true = grind (arith, differ) in
    ap suc (same_row w xs i j rest first second)

-- what finding a spelling answers
pub record FindsRow (xs : List (List ℕ)) (w : List ℕ) (result : Option ℕ) : Type 0 where
  pub row : IfSome result (λ row. slice_get xs row ≡ Some w)
  pub in_table : IfSome result (λ row. row < length xs)
  pub no_row : IsNone result → ¬ Contains xs w
  pub none : ¬ Contains xs w → IsNone result
  pub own : (row : ℕ) → slice_get xs row ≡ Some w → result ≡ Some row

pub finds_row : (w : List ℕ) (rows : List (Bor (List ℕ))) (result : Option ℕ) → all_differ (spellings rows) ≡ true
    → result ≡ position_from (λ (row : Bor (List ℕ)). bytes_eq row.now w) 0 rows → FindsRow (spellings rows) w result
finds_row w rows None differ is = record {
  row = tt;
  in_table = tt;
  no_row = λ _ among. none_found w rows 0 among.0 (sym is) (slice_get-get_or (spellings rows) among.0 w among.1 ∙ ap Some among.2);
  none = λ _. refl;
  own = λ row here. absurd (none_found w rows 0 row (sym is) here);
}
finds_row w rows (Some r) differ is =
    let found = row_found w rows 0 r (sym is) in
    let place : r ≡ found.0 = omega (arith, found.1) in
    let here : slice_get (spellings rows) r ≡ Some w = ap (slice_get (spellings rows)) place ∙ found.2 in
    let within : r < length (spellings rows) = slice_get_within (spellings rows) r w here in
    record {
      row = here;
      in_table = within;
      no_row = λ none. absurd (cc none);
      none = λ missing. absurd (missing (r, within, get_or_from_slice_get (spellings rows) r w w here));
      own = λ row there. ap Some (same_row w (spellings rows) r row differ here there);
    }

-- how many rows there are
pub length-spellings : (rows : List (Bor (List ℕ))) → length (spellings rows) ≡ length rows
length-spellings rows = length-map rows (λ (row : Bor (List ℕ)). row.now)

-- the spelling of a row
pub slice_get-spellings : (rows : List (Bor (List ℕ))) (i : ℕ) (d : Bor (List ℕ)) → i < length rows → slice_get (spellings rows) i ≡ Some (slice_index_or rows i d).now
slice_get-spellings (row ∷ rows) zero d fits = refl
slice_get-spellings (row ∷ rows) (suc i) d fits = slice_get-spellings rows i d (omega (arith, fits))
slice_get-spellings [] i d fits = absurd (omega (arith, fits))
