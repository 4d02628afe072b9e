-- The lines of a made script are lines that a script can have.
use Rattle.std.proofs.Common.{◌≡◌, ℕ, ◌+◌, ◌-◌, ◌*◌, ◌%◌, ◌/◌, ◌<◌, ◌≤◌, ◌^◌, true, List, [], ◌∷◌, ◌++◌, length, refl, arith, subst, sym}
use Rattle.std.specs.Prelude.{ℤ, pos, negsuc, ◌-ℤ◌, nat_abs, decimal}
use Rattle.std.proofs.Math.Nat.{mod-lt}
use Rattle.std.proofs.lemmas.Int.{ints}
use Rattle.units.specs.Name.{is_name}
use Rattle.units.specs.declared.geometry.Axis.{Axis}
use Rattle.units.specs.declared.geometry.Axis.TheVariants.{X, Y}
use Rattle.script_text.specs.Words.{spaced}
use Rattle.script_text.specs.Grammar.{AxisChoice, is_choice, axis_word}
use Rattle.script_text.specs.Commands.{AreFields, command_fields, command_keyword, command_words, fields_words}
use Rattle.script_text.specs.declared.scripts.Command.{Command}
use Rattle.script_text.specs.declared.scripts.Line.{Line}
use Rattle.script_text.specs.Scripts.{AreLines, IsLine}
use Rattle.script_text.proofs.Numerals.{decimal_is}
use Rattle.made_script.specs.declared.steps.Kind.{Kind}
use Rattle.made_script.specs.declared.steps.Kind.TheVariants as kind
use Rattle.made_script.specs.Draws.{after, drawn, place_drawn}
use Rattle.made_script.specs.Steps.{axis_drawn, box_of, command_of, one_box, other_box}
use Rattle.made_script.proofs.Names.{is_item_name}
use Rattle.made_script.proofs.Short.{AreShort, fields_short, keyword_short, length-spaced}

-- ---- fields

drawn-lt : (state m : ℕ) → 0 < m → drawn state m < m
drawn-lt state m some = mod-lt (state / 2 ^ 33) some

near_by : (n : ℕ) (z : ℤ) → z ≡ pos n -ℤ pos 1000 → n < 2001 → nat_abs z < 10 ^ 9
near_by n (pos m) e h = omega (arith, ints, e, h)
near_by n (negsuc m) e h = omega (arith, ints, e, h)

near : (n : ℕ) → n < 2001 → nat_abs (pos n -ℤ pos 1000) < 10 ^ 9
near n h = near_by n (pos n -ℤ pos 1000) refl h

place_near : (state : ℕ) → nat_abs (place_drawn state) < 10 ^ 9
place_near state = near (drawn state 2001) (drawn-lt state 2001 (omega arith))

box_named : (n : ℕ) → n < 10 ^ 9 → is_name (box_of n) ≡ true
box_named n h = is_item_name 98 n refl h

one_named : (first : ℕ) → is_name (one_box first) ≡ true
one_named first = let l = drawn-lt first 96 (omega arith) in box_named (drawn first 96 + 1) (omega (arith, l))

other_named : (first second : ℕ) → is_name (other_box first second) ≡ true
other_named first second =
    let n = drawn first 96 + 1 + drawn second 95 in
    let l : n % 96 < 96 = mod-lt n (omega arith) in box_named (n % 96 + 1) (omega (arith, l))

axis_is : (a : Axis) → is_choice AxisChoice (axis_word a) ≡ true
axis_is X = refl
axis_is Y = refl

pub fields_of : (k : Kind) (n state : ℕ) → n ≤ 120 → AreFields (command_fields (command_of k n state))
fields_of kind.Box n state h =
    let w = drawn-lt (after 3 state) 81 (omega arith) in
    let l = drawn-lt (after 4 state) 41 (omega arith) in
    (box_named n (omega (arith, h)), (place_near (after 1 state), (place_near (after 2 state), (omega (arith, w), (omega (arith, l), tt)))))
fields_of kind.Guide n state h = (is_item_name 103 n refl (omega (arith, h)), (refl, (place_near (after 1 state), tt)))
fields_of kind.Link n state h = (is_item_name 108 n refl (omega (arith, h)), (one_named (after 1 state), (other_named (after 1 state) (after 2 state), tt)))
fields_of kind.Align n state h = (
  is_item_name 99 n refl (omega (arith, h)),
  (
    is_item_name 103 n refl (omega (arith, h)),
    (
      refl,
      ((omega arith, (box_named (12 * n - 11) (omega (arith, h)), (box_named (12 * n - 7) (omega (arith, h)), (box_named (12 * n - 3) (omega (arith, h)), tt)))), tt),
    ),
  ),
)
fields_of kind.Apart n state h =
    let gap = drawn-lt (after 4 state) 201 (omega arith) in (
      is_item_name 100 n refl (omega (arith, h)),
      (
        axis_is (axis_drawn (after 1 state)),
        (
          one_named (after 2 state),
          (
            other_named (after 2 state) (after 3 state),
            (omega (arith, gap), (refl, tt)),
          ),
        ),
      ),
    )
fields_of kind.Move n state h =
    let i = drawn-lt (after 1 state) 96 (omega arith) in
    (box_named (drawn (after 1 state) 96 + 1) (omega (arith, i)), (place_near (after 2 state), (place_near (after 3 state), tt)))
fields_of kind.Undo n state h = tt
fields_of kind.Layout n state h = tt

-- ---- lines

few_words : (k : Kind) (n state : ℕ) → length (fields_words (command_fields (command_of k n state))) ≤ 6
few_words kind.Box n state = omega arith
few_words kind.Guide n state = omega arith
few_words kind.Link n state = omega arith
few_words kind.Align n state = omega arith
few_words kind.Apart n state = omega arith
few_words kind.Move n state = omega arith
few_words kind.Undo n state = omega arith
few_words kind.Layout n state = omega arith

short_line : (c : Command) → AreFields (command_fields c) → length (fields_words (command_fields c)) ≤ 6 → length (spaced (decimal 1 ∷ command_words c)) ≤ 2048
short_line c fields few =
    let digit : length (decimal 1) ≤ 9 = (decimal_is 1 (omega arith)).short in
    let all : AreShort (decimal 1 ∷ command_words c) = (omega (arith, digit), (keyword_short (command_keyword c), fields_short (command_fields c) fields)) in
    let l = length-spaced (decimal 1 ∷ command_words c) all in
    omega (arith, few, l)

line_is : (number : ℕ) (k : Kind) (n state : ℕ) → n ≤ 120 → IsLine number record { number = number; session = 1; command = command_of k n state }
line_is number k n state h = record {
  numbered = refl;
  session = (omega arith, omega arith);
  command = record { fields = fields_of k n state h };
  short = short_line (command_of k n state) (fields_of k n state h) (few_words k n state);
}

-- a line more behind others
pub lines_more : (first : ℕ) (ls : List Line) (l : Line) → AreLines first ls → IsLine (first + length ls) l → AreLines first (ls ++ l ∷ [])
lines_more first [] l are is = (subst (λ n. IsLine n l) (omega arith) is, tt)
lines_more first (x ∷ ls) l are is = (are.0, lines_more (first + 1) ls l are.1 (subst (λ n. IsLine n l) (omega arith) is))

-- so may a line that the program makes
pub line_added : (ls : List Line) (k : Kind) (n state : ℕ) (command : Command) (count : ℕ) → AreLines 2 ls → n ≤ 120 → count ≡ length ls → command ≡ command_of k n state
    → AreLines 2 (ls ++ record { number = count + 2; session = 1; command = command } ∷ [])
line_added ls k n state command count are few counted is =
    lines_more 2 ls record { number = count + 2; session = 1; command = command } are
    (subst (λ (c : Command). IsLine (2 + length ls) record { number = count + 2; session = 1; command = c }) (sym is)
    (subst (λ (m : ℕ). IsLine m record { number = count + 2; session = 1; command = command_of k n state }) (omega (arith, counted)) (line_is (count + 2) k n state few)))
