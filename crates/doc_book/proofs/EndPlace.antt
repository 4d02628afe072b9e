-- What a look over the entries finds.
use Rattle.std.proofs.Common.{◌≡◌, ◌+◌, ℕ, List, [], ◌∷◌, Bool, true, false, cond, not, suc, Option, Some, None, length, refl, ap, ◌∙◌, arith}
use Rattle.std.specs.Prelude.{position, nat_lt}
use Rattle.std.specs.List.{position_or_len}
use Rattle.std.specs.Option.{option_map}
use Rattle.std.proofs.lemmas.Bool.Decides.{nat_tests}
use Rattle.doc_book.specs.declared.entries.Entry.{Entry}
use Rattle.doc_book.specs.History.{is_end, end_place, after_end}

later : (at n : ℕ) → option_map (λ k. k + 1) (cond (nat_lt at n) (Some at) None) ≡ cond (nat_lt (1 + at) (suc n)) (Some (1 + at)) None
later at n = grind (arith, nat_tests)

-- the place of End is the first place of an entry that is End
pub end_place-position : (h : List Entry) → end_place h ≡ position is_end h
end_place-position [] = refl
end_place-position (e ∷ es) = elim (is_end e) as (λ b. cond b (Some 0) (option_map (λ k. k + 1) (end_place es)) ≡ cond (nat_lt (cond (not b) (1 + position_or_len is_end es) 0) (suc (length es))) (Some (cond (not b) (1 + position_or_len is_end es) 0)) None) [
  | true ↦ grind (arith, nat_tests)
  | false ↦ ap (option_map (λ k. k + 1)) (end_place-position es) ∙ later (position_or_len is_end es) (length es)
]

-- how many entries stand after End
pub length-after_end : (h : List Entry) (k : ℕ) → end_place h ≡ Some k → length (after_end h) + k + 1 ≡ length h
length-after_end [] k at = cc
length-after_end (e ∷ es) k at = by (is_end e) (end_place es) refl at (λ j rest. length-after_end es j rest)
  where
    by : (b : Bool) (o : Option ℕ) → end_place es ≡ o → cond b (Some 0) (option_map (λ j. j + 1) o) ≡ Some k → ((j : ℕ) → end_place es ≡ Some j → length (after_end es) + j + 1 ≡ length es)
        → length (cond b es (after_end es)) + k + 1 ≡ length (e ∷ es)
    by true o is at rest = let zero_is : 0 ≡ k = cc in omega arith
    by false None is at rest = cc
    by false (Some j) is at rest = let next : j + 1 ≡ k = cc in let below = rest j is in omega arith

pub after_end-none : (h : List Entry) → end_place h ≡ None → after_end h ≡ []
after_end-none [] none = refl
after_end-none (e ∷ es) none = by (is_end e) (end_place es) refl none (λ rest. after_end-none es rest)
  where
    by : (b : Bool) (o : Option ℕ) → end_place es ≡ o → cond b (Some 0) (option_map (λ j. j + 1) o) ≡ None → (end_place es ≡ None → after_end es ≡ []) → cond b es (after_end es) ≡ []
    by true o is none rest = cc
    by false None is none rest = rest is
    by false (Some j) is none rest = cc
