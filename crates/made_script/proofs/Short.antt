-- A line of few words is short, since each word is.
use Rattle.std.proofs.Common.{◌≡◌, suc, ◌+◌, ◌*◌, ◌<◌, ◌≤◌, ◌^◌, Bool, true, false, ◌&&◌, leb, List, [], ◌∷◌, ◌++◌, length, refl, arith, length-append, inl, inr}
use Rattle.std.specs.Prelude.{◌⊎◌, ℤ, pos, negsuc, nat_abs, decimal, bytes_eq, slice_index}
use Rattle.std.specs.Fmt.{signed_decimal}
use Rattle.std.specs.List.{list_all, list_any, AllByRecursion}
use Rattle.std.proofs.lemmas.Bool.{and_parts, or_cases, leb-true, both_ways}
use Rattle.std.proofs.lemmas.Slice.Eq.{bytes_eq-Decides}
use Rattle.units.specs.Name.{is_letter, is_name, is_name_byte}
use Rattle.script_text.specs.Words.{Word, spaced}
use Rattle.script_text.specs.Keywords.{keyword_word}
use Rattle.script_text.specs.Grammar.{Choice, AxisChoice, AlignLineChoice, ExactnessChoice, StiffnessChoice, choice_words}
use Rattle.script_text.specs.declared.keywords.Keyword.{Keyword}
use Rattle.script_text.specs.declared.keywords.Keyword.TheVariants as keyword
use Rattle.script_text.specs.Commands.{Field, NameField, NumberField, ChoiceField, MembersField, AreNames, AreFields, fields_words}
use Rattle.script_text.proofs.Numerals.{decimal_is}

abbrev pub AreShort : List Word → Type 0
AreShort ws = AllByRecursion (λ w. length w ≤ 25) ws

pub length-spaced : (ws : List Word) → AreShort ws → length (spaced ws) ≤ 26 * length ws
length-spaced [] h = omega arith
length-spaced (w ∷ []) h = let s : length w ≤ 25 = h.0 in omega (arith, s)
length-spaced (w ∷ v ∷ ws) h =
    let s : length w ≤ 25 = h.0 in
    let rest : length (spaced (v ∷ ws)) ≤ 26 * length (v ∷ ws) = length-spaced (v ∷ ws) h.1 in
    let all : length (w ++ 32 ∷ spaced (v ∷ ws)) ≡ length w + length (32 ∷ spaced (v ∷ ws)) = length-append w (32 ∷ spaced (v ∷ ws)) in
    omega (arith, s, rest, all)

pub keyword_short : (k : Keyword) → length (keyword_word k) ≤ 25
keyword_short keyword.Box = omega arith
keyword_short keyword.Oval = omega arith
keyword_short keyword.Diamond = omega arith
keyword_short keyword.Size = omega arith
keyword_short keyword.Move = omega arith
keyword_short keyword.Shift = omega arith
keyword_short keyword.Hold = omega arith
keyword_short keyword.Free = omega arith
keyword_short keyword.Remove = omega arith
keyword_short keyword.Link = omega arith
keyword_short keyword.Unlink = omega arith
keyword_short keyword.Guide = omega arith
keyword_short keyword.Align = omega arith
keyword_short keyword.Spread = omega arith
keyword_short keyword.Rank = omega arith
keyword_short keyword.Apart = omega arith
keyword_short keyword.Group = omega arith
keyword_short keyword.Page = omega arith
keyword_short keyword.Drop = omega arith
keyword_short keyword.Undo = omega arith
keyword_short keyword.Layout = omega arith
keyword_short keyword.Where = omega arith

name_short : (w : Word) → is_name w ≡ true → length w ≤ 25
name_short w e =
    let long = leb 1 (length w) && leb (length w) 24 in
    let begun = long && is_letter (slice_index w 0) in
    let h = and_parts begun (list_all is_name_byte w) e in
    let g = and_parts long (is_letter (slice_index w 0)) h.0 in
    let k = and_parts (leb 1 (length w)) (leb (length w) 24) g.0 in
    let l : length w ≤ 24 = leb-true (length w) 24 k.1 in
    omega (arith, l)

number_short : (z : ℤ) → nat_abs z < 10 ^ 9 → length (signed_decimal z) ≤ 25
number_short (pos n) lt = let s : length (decimal n) ≤ 9 = (decimal_is n lt).short in omega (arith, s)
number_short (negsuc n) lt = let s : length (decimal (suc n)) ≤ 9 = (decimal_is (suc n) lt).short in omega (arith, s)

same_short : (w v : Word) (b : Bool) → (b ≡ true → w ≡ v) → length v ≤ 25 → (length w ≤ 25) ⊎ (b ≡ false)
same_short w v true same h = inl (rw (same refl) h)
same_short w v false same h = inr refl

any_short : (table : List Word) (w : Word) → AreShort table → list_any (bytes_eq w) table ≡ true → length w ≤ 25
any_short [] w h e = absurd cc
any_short (v ∷ table) w h e =
    elim (same_short w v (bytes_eq w v) (bytes_eq-Decides w v).0 h.0) [
      | inl known ↦ known
      | inr other ↦ any_short table w h.1 (elim (or_cases (bytes_eq w v) (list_any (bytes_eq w) table) e) [ inl same ↦ absurd (both_ways _ other same) | inr rest ↦ rest ])
    ]

choices_short : (c : Choice) → AreShort (choice_words c)
choices_short AxisChoice = (omega arith, (omega arith, tt))
choices_short AlignLineChoice = (omega arith, (omega arith, (omega arith, tt)))
choices_short ExactnessChoice = (omega arith, (omega arith, tt))
choices_short StiffnessChoice = (omega arith, (omega arith, tt))

names_short : (ms rest : List Word) → AreNames ms → AreShort rest → AreShort (ms ++ rest)
names_short [] rest h g = g
names_short (m ∷ ms) rest h g = (name_short m h.0, names_short ms rest h.1 g)

pub fields_short : (fs : List Field) → AreFields fs → AreShort (fields_words fs)
fields_short [] h = tt
fields_short (NameField n ∷ fs) h = (name_short n h.0, fields_short fs h.1)
fields_short (NumberField z ∷ fs) h = (number_short z h.0, fields_short fs h.1)
fields_short (ChoiceField c w ∷ fs) h = (any_short (choice_words c) w (choices_short c) h.0, fields_short fs h.1)
fields_short (MembersField ms ∷ fs) h = names_short ms (fields_words fs) h.0.1 (fields_short fs h.1)
