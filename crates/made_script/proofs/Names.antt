-- A letter with a number behind it is a name.
use Rattle.std.proofs.Common.{◌≡◌, ℕ, ◌<◌, ◌≤◌, ◌^◌, Bool, true, false, ◌||◌, leb, eqb, List, [], ◌∷◌, length, refl, arith}
use Rattle.std.specs.Prelude.{decimal}
use Rattle.std.specs.List.{list_all}
use Rattle.std.specs.Str.{all_ascii_digits}
use Rattle.std.proofs.lemmas.Bool.{and_parts, and_from, le-leb}
use Rattle.units.specs.Name.{is_letter, is_digit, is_name, is_name_byte}
use Rattle.script_text.proofs.Numerals.{decimal_is}
use Rattle.made_script.specs.Steps.{item_name}

first_of_three : (a b c : Bool) → a ≡ true → ((a || b) || c) ≡ true
first_of_three true b c h = refl
first_of_three false b c h = absurd cc

second_of_three : (a b c : Bool) → b ≡ true → ((a || b) || c) ≡ true
second_of_three true b c h = refl
second_of_three false true c h = refl
second_of_three false false c h = absurd cc

letter_byte : (c : ℕ) → is_letter c ≡ true → is_name_byte c ≡ true
letter_byte c h = first_of_three (is_letter c) (is_digit c) (eqb c 95) h

digit_byte : (c : ℕ) → is_digit c ≡ true → is_name_byte c ≡ true
digit_byte c h = second_of_three (is_letter c) (is_digit c) (eqb c 95) h

digits_bytes : (w : List ℕ) → all_ascii_digits w ≡ true → list_all is_name_byte w ≡ true
digits_bytes [] h = refl
digits_bytes (c ∷ w) h = let p = and_parts (is_digit c) (all_ascii_digits w) h in and_from _ _ (digit_byte c p.0) (digits_bytes w p.1)

pub is_item_name : (letter number : ℕ) → is_letter letter ≡ true → number < 10 ^ 9 → is_name (item_name letter number) ≡ true
is_item_name letter number h small =
    let m = decimal_is number small in
    let few : length (decimal number) ≤ 9 = m.short in
    let least : leb 1 (length (letter ∷ decimal number)) ≡ true = le-leb _ _ (omega arith) in
    let most : leb (length (letter ∷ decimal number)) 24 ≡ true = le-leb _ _ (omega (arith, few)) in
    and_from _ _ (and_from _ _ (and_from _ _ least most) h) (and_from _ _ (letter_byte letter h) (digits_bytes (decimal number) m.digits))
