-- No word of a command has a space or a LF.
use Rattle.std.proofs.Common.{◌≡◌, ℕ, suc, ◌+◌, ◌<◌, ◌≤◌, ◌^◌, Bool, true, false, ◌&&◌, ◌||◌, leb, eqb, List, [], ◌∷◌, ◌++◌, refl, arith, inl, inr}
use Rattle.std.specs.Prelude.{◌⊎◌, ℤ, pos, negsuc, nat_abs, decimal, bytes_eq}
use Rattle.std.specs.List.{list_all, list_any, AllByRecursion}
use Rattle.std.specs.Fmt.{signed_decimal}
use Rattle.std.specs.Str.{all_ascii_digits}
use Rattle.std.proofs.lemmas.Bool.{and_parts, and_from, or_cases, le-leb, leb-true, ne_eqb, eqb-true, both_ways}
use Rattle.std.proofs.lemmas.Slice.Eq.{bytes_eq-Decides}
use Rattle.script_text.specs.Grammar.{Choice, AxisChoice, AlignLineChoice, ExactnessChoice, StiffnessChoice, choice_words}
use Rattle.std.proofs.lemmas.List.Elements.{All-from_recursion}
use Rattle.units.specs.Name.{is_name, is_name_byte, is_letter, is_digit}
use Rattle.script_text.specs.declared.scripts.Command.{Command}
use Rattle.script_text.specs.declared.scripts.Line.{Line}
use Rattle.script_text.specs.Words.{Word, spaced}
use Rattle.script_text.specs.Keywords.{keyword_word}
use Rattle.script_text.specs.declared.keywords.Keyword.{Keyword}
use Rattle.script_text.specs.declared.keywords.Keyword.TheVariants as keyword
use Rattle.script_text.specs.Commands.{Field, NameField, NumberField, ChoiceField, MembersField, AreNames, command_keyword, command_fields, fields_words, AreFields, IsCommand, command_words}
use Rattle.script_text.specs.Scripts.{line_text}
use Rattle.script_text.proofs.Numerals.{decimal_is}
use Rattle.script_text.proofs.WholeLines.{Lacks, AllLack, line_text-digit}

-- each byte is at least `-`, so none is a space or a LF
abbrev above : Word → Bool
above w = list_all (leb 45) w

lacks : (by : ℕ) → by < 45 → (w : Word) → above w ≡ true → AllByRecursion (λ b. eqb b by ≡ false) w
lacks by lt [] e = tt
lacks by lt (b ∷ w) e = let p = and_parts (leb 45 b) (above w) e in let l : 45 ≤ b = leb-true _ _ p.0 in (ne_eqb _ _ (λ same. omega arith), lacks by lt w p.1)

letter_above : (c : ℕ) → is_letter c ≡ true → 45 ≤ c
letter_above c e = elim (or_cases (leb 65 c && leb c 90) (leb 97 c && leb c 122) e) [ inl h ↦ (let l : 65 ≤ c = leb-true _ _ (and_parts (leb 65 c) (leb c 90) h).0 in omega arith) | inr h ↦ (let l : 97 ≤ c = leb-true _ _ (and_parts (leb 97 c) (leb c 122) h).0 in omega arith) ]

digit_above : (c : ℕ) → (leb 48 c && leb c 57) ≡ true → 45 ≤ c
digit_above c e = let p = and_parts _ _ e in let l : 48 ≤ c = leb-true _ _ p.0 in omega arith

byte_above : (c : ℕ) → is_name_byte c ≡ true → 45 ≤ c
byte_above c e = elim (or_cases (is_letter c || is_digit c) (eqb c 95) e) [ inl h ↦ elim (or_cases (is_letter c) (is_digit c) h) [ inl l ↦ letter_above c l | inr d ↦ digit_above c d ] | inr h ↦ (let s : c ≡ 95 = eqb-true _ _ h in omega arith) ]

bytes_above : (w : Word) → list_all is_name_byte w ≡ true → above w ≡ true
bytes_above [] e = refl
bytes_above (c ∷ w) e = let p = and_parts (is_name_byte c) (list_all is_name_byte w) e in and_from _ _ (le-leb _ _ (byte_above c p.0)) (bytes_above w p.1)

name_above : (w : Word) → is_name w ≡ true → above w ≡ true
name_above w e = bytes_above w (and_parts _ _ e).1

digits_above : (w : Word) → all_ascii_digits w ≡ true → above w ≡ true
digits_above [] e = refl
digits_above (c ∷ w) e = let p = and_parts _ (all_ascii_digits w) e in and_from _ _ (le-leb _ _ (digit_above c p.0)) (digits_above w p.1)

number_above : (z : ℤ) → nat_abs z < 10 ^ 9 → above (signed_decimal z) ≡ true
number_above (pos n) lt = digits_above (decimal n) (decimal_is n lt).digits
number_above (negsuc n) lt = digits_above (decimal (suc n)) (decimal_is (suc n) lt).digits

-- ---- the table, a line for each command

keyword_above : (k : Keyword) → above (keyword_word k) ≡ true
keyword_above keyword.Box = refl
keyword_above keyword.Oval = refl
keyword_above keyword.Diamond = refl
keyword_above keyword.Size = refl
keyword_above keyword.Move = refl
keyword_above keyword.Shift = refl
keyword_above keyword.Hold = refl
keyword_above keyword.Free = refl
keyword_above keyword.Remove = refl
keyword_above keyword.Link = refl
keyword_above keyword.Unlink = refl
keyword_above keyword.Guide = refl
keyword_above keyword.Align = refl
keyword_above keyword.Spread = refl
keyword_above keyword.Rank = refl
keyword_above keyword.Apart = refl
keyword_above keyword.Group = refl
keyword_above keyword.Page = refl
keyword_above keyword.Drop = refl
keyword_above keyword.Undo = refl
keyword_above keyword.Layout = refl
keyword_above keyword.Where = refl

-- ---- all words of a command

abbrev all_above : List Word → Type 0
all_above ws = AllByRecursion (λ w. above w ≡ true) ws

same_above : (w v : Word) (b : Bool) → (b ≡ true → w ≡ v) → above v ≡ true → (above w ≡ true) ⊎ (b ≡ false)
same_above w v true same h = inl (rw (same refl) h)
same_above w v false same h = inr refl

any_above : (table : List Word) (w : Word) → all_above table → list_any (bytes_eq w) table ≡ true → above w ≡ true
any_above [] w h e = absurd cc
any_above (v ∷ table) w h e =
    elim (same_above w v (bytes_eq w v) (bytes_eq-Decides w v).0 h.0) [
      | inl known ↦ known
      | inr other ↦ any_above table w h.1 (elim (or_cases (bytes_eq w v) (list_any (bytes_eq w) table) e) [ inl same ↦ absurd (both_ways _ other same) | inr rest ↦ rest ])
    ]

choices_above : (c : Choice) → all_above (choice_words c)
choices_above AxisChoice = (refl, (refl, tt))
choices_above AlignLineChoice = (refl, (refl, (refl, tt)))
choices_above ExactnessChoice = (refl, (refl, tt))
choices_above StiffnessChoice = (refl, (refl, tt))

names_above : (ms rest : List Word) → AreNames ms → all_above rest → all_above (ms ++ rest)
names_above [] rest h g = g
names_above (m ∷ ms) rest h g = (name_above m h.0, names_above ms rest h.1 g)

fields_above : (fs : List Field) → AreFields fs → all_above (fields_words fs)
fields_above [] h = tt
fields_above (NameField n ∷ fs) h = (name_above n h.0, fields_above fs h.1)
fields_above (NumberField z ∷ fs) h = (number_above z h.0, fields_above fs h.1)
fields_above (ChoiceField c w ∷ fs) h = (any_above (choice_words c) w (choices_above c) h.0, fields_above fs h.1)
fields_above (MembersField ms ∷ fs) h = names_above ms (fields_words fs) h.0.1 (fields_above fs h.1)

all_lack : (by : ℕ) → by < 45 → (ws : List Word) → all_above ws → AllLack by ws
all_lack by lt [] h = tt
all_lack by lt (w ∷ ws) h = (All-from_recursion (λ b. eqb b by ≡ false) w (lacks by lt w h.0), all_lack by lt ws h.1)

pub command_lacks : (by : ℕ) → by < 45 → (c : Command) → IsCommand c → AllLack by (command_words c)
command_lacks by lt c h = all_lack by lt (command_words c) (keyword_above (command_keyword c), fields_above (command_fields c) h.fields)

append_rec : (a b : List ℕ) → AllByRecursion (λ c. eqb c 10 ≡ false) a → AllByRecursion (λ c. eqb c 10 ≡ false) b → AllByRecursion (λ c. eqb c 10 ≡ false) (a ++ b)
append_rec [] b h g = g
append_rec (x ∷ a) b h g = (h.0, append_rec a b h.1 g)

-- a joined line lacks LF
join_lacks : (ws : List Word) → all_above ws → AllByRecursion (λ b. eqb b 10 ≡ false) (spaced ws)
join_lacks [] h = tt
join_lacks (w ∷ []) h = lacks 10 (omega arith) w h.0
join_lacks (w ∷ v ∷ ws) h = append_rec w (32 ∷ spaced (v ∷ ws)) (lacks 10 (omega arith) w h.0) (ne_eqb 32 10 (λ e. omega arith), join_lacks (v ∷ ws) h.1)

pub line_lacks : (l : Line) → 1 ≤ l.session → l.session ≤ 8 → IsCommand l.command → Lacks 10 (line_text l)
line_lacks l low high h = rw (line_text-digit l high) (All-from_recursion (λ b. eqb b 10 ≡ false) ((48 + l.session) ∷ 32 ∷ spaced (command_words l.command)) (ne_eqb _ _ (λ e. omega arith), (ne_eqb 32 10 (λ e. omega arith), join_lacks (command_words l.command) (keyword_above (command_keyword l.command), fields_above (command_fields l.command) h.fields))))
