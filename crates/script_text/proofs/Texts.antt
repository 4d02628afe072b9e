-- Bytes and the script that they spell.
use Rattle.std.proofs.Common.{◌≡◌, ℕ, zero, suc, ◌+◌, ◌<◌, ◌≤◌, true, false, cond, eqb, List, [], ◌∷◌, ◌++◌, length, map, get_or, Result, Ok, refl, sym, ap, subst, ◌∙◌, append_assoc, arith}
use Rattle.std.specs.Prelude.{ℤ, pos, codes, bytes_eq}
use Rattle.std.specs.List.{concat, join_with_byte, AllByRecursion}
use Rattle.std.proofs.lemmas.List.{append-nil}
use Rattle.std.proofs.lemmas.List.Splits.{join_with_byte-slice_split}
use Rattle.std.proofs.lemmas.List.Elements.{All-from_recursion}
use Rattle.units.specs.declared.geometry.Axis.{Axis}
use Rattle.units.specs.declared.geometry.Axis.TheVariants as axis
use Rattle.scene_model.specs.declared.items.Form.TheVariants as form
use Rattle.scene_model.specs.declared.items.AlignLine.{AlignLine}
use Rattle.scene_model.specs.declared.items.AlignLine.TheVariants as line
use Rattle.edit_rules.specs.declared.edits.Edit.{Edit}
use Rattle.edit_rules.specs.declared.edits.Edit.TheVariants as edit
use Rattle.script_text.specs.Words.{Word}
use Rattle.script_text.specs.Pieces.{pieces}
use Rattle.script_text.specs.Commands.{Field, NameField, NumberField, ChoiceField, MembersField, edit_keyword, edit_fields, command_keyword, command_fields}
use Rattle.script_text.specs.Scripts.{IsLine, AreLines, IsScript, Spells, line_text, with_lf}
use Rattle.script_text.specs.Reading.{LineParts, line_parts, line_at, body_pieces, script_pieces}
use Rattle.script_text.specs.declared.keywords.Keyword.{Keyword}
use Rattle.script_text.specs.declared.keywords.Keyword.TheVariants as keyword
use Rattle.script_text.specs.declared.scripts.Command.{Command}
use Rattle.script_text.specs.declared.scripts.Command.TheVariants as command
use Rattle.script_text.specs.declared.scripts.Line.{Line}
use Rattle.script_text.specs.declared.faults.FaultKind.{FaultKind}
use Rattle.script_text.proofs.WholeLines.{Lacks, AllLack, split_lines, line_again, line_text-digit}
use Rattle.script_text.proofs.Bytes.{line_lacks, command_lacks}

-- ---- a command is known by its word and fields: a line for each command

nth : ℕ → List Field → Field
nth i [] = NameField []
nth zero (f ∷ fs) = f
nth (suc i) (f ∷ fs) = nth i fs

name_in : Field → Word
name_in (NameField n) = n
name_in _ = []

number_in : Field → ℤ
number_in (NumberField z) = z
number_in _ = pos 0

members_in : Field → List Word
members_in (MembersField ms) = ms
members_in _ = []

word_in : Field → Word
word_in (ChoiceField c w) = w
word_in _ = []

axis_in : Field → Axis
axis_in f = cond (bytes_eq (word_in f) (codes "x")) axis.X axis.Y

line_in : Field → AlignLine
line_in f = cond (bytes_eq (word_in f) (codes "low")) line.Low (cond (bytes_eq (word_in f) (codes "mid")) line.Mid line.High)

from : Keyword → List Field → Command
from keyword.Box fs = command.Edit (edit.Put (name_in (nth 0 fs)) form.Box (number_in (nth 1 fs)) (number_in (nth 2 fs)) (number_in (nth 3 fs)) (number_in (nth 4 fs)))
from keyword.Oval fs = command.Edit (edit.Put (name_in (nth 0 fs)) form.Oval (number_in (nth 1 fs)) (number_in (nth 2 fs)) (number_in (nth 3 fs)) (number_in (nth 4 fs)))
from keyword.Diamond fs = command.Edit (edit.Put (name_in (nth 0 fs)) form.Diamond (number_in (nth 1 fs)) (number_in (nth 2 fs)) (number_in (nth 3 fs)) (number_in (nth 4 fs)))
from keyword.Size fs = command.Edit (edit.Size (name_in (nth 0 fs)) (number_in (nth 1 fs)) (number_in (nth 2 fs)))
from keyword.Move fs = command.Edit (edit.Move (name_in (nth 0 fs)) (number_in (nth 1 fs)) (number_in (nth 2 fs)))
from keyword.Shift fs = command.Edit (edit.Shift (name_in (nth 0 fs)) (number_in (nth 1 fs)))
from keyword.Hold fs = command.Edit (edit.Hold (name_in (nth 0 fs)))
from keyword.Free fs = command.Edit (edit.Free (name_in (nth 0 fs)))
from keyword.Remove fs = command.Edit (edit.Remove (name_in (nth 0 fs)))
from keyword.Link fs = command.Edit (edit.Join (name_in (nth 0 fs)) (name_in (nth 1 fs)) (name_in (nth 2 fs)))
from keyword.Unlink fs = command.Edit (edit.Unlink (name_in (nth 0 fs)))
from keyword.Guide fs = command.Edit (edit.Guide (name_in (nth 0 fs)) (axis_in (nth 1 fs)) (number_in (nth 2 fs)))
from keyword.Align fs = command.Edit (edit.Align (name_in (nth 0 fs)) (name_in (nth 1 fs)) (line_in (nth 2 fs)) (members_in (nth 3 fs)))
from keyword.Spread fs = command.Edit (edit.Spread (name_in (nth 0 fs)) (axis_in (nth 1 fs)) (number_in (nth 2 fs)) (members_in (nth 3 fs)))
from keyword.Rank fs = command.Edit (edit.Rank (name_in (nth 0 fs)) (axis_in (nth 1 fs)) (number_in (nth 2 fs)) (members_in (nth 3 fs)))
from keyword.Apart fs = command.Edit (edit.Apart (name_in (nth 0 fs)) (axis_in (nth 1 fs)) (name_in (nth 2 fs)) (name_in (nth 3 fs)) (number_in (nth 4 fs)) (bytes_eq (word_in (nth 5 fs)) (codes "exact")))
from keyword.Group fs = command.Edit (edit.Group (name_in (nth 0 fs)) (number_in (nth 1 fs)) (members_in (nth 2 fs)))
from keyword.Page fs = command.Edit (edit.Page (name_in (nth 0 fs)) (number_in (nth 1 fs)) (number_in (nth 2 fs)) (number_in (nth 3 fs)) (number_in (nth 4 fs)) (number_in (nth 5 fs)) (bytes_eq (word_in (nth 6 fs)) (codes "rigid")))
from keyword.Drop fs = command.Edit (edit.Drop (name_in (nth 0 fs)))
from keyword.Where fs = command.Where (name_in (nth 0 fs))
from keyword.Undo fs = command.Undo
from keyword.Layout fs = command.Layout

edit_back : (e : Edit) → from (edit_keyword e) (edit_fields e) ≡ command.Edit e
unfolding from nth name_in number_in members_in word_in axis_in line_in
edit_back (edit.Put n form.Box x y w h) = refl
edit_back (edit.Put n form.Oval x y w h) = refl
edit_back (edit.Put n form.Diamond x y w h) = refl
edit_back (edit.Size n w h) = refl
edit_back (edit.Move n x y) = refl
edit_back (edit.Shift n p) = refl
edit_back (edit.Hold n) = refl
edit_back (edit.Free n) = refl
edit_back (edit.Remove n) = refl
edit_back (edit.Join n a b) = refl
edit_back (edit.Unlink n) = refl
edit_back (edit.Guide n axis.X p) = refl
edit_back (edit.Guide n axis.Y p) = refl
edit_back (edit.Align n g line.Low ms) = refl
edit_back (edit.Align n g line.Mid ms) = refl
edit_back (edit.Align n g line.High ms) = refl
edit_back (edit.Spread n axis.X gap ms) = refl
edit_back (edit.Spread n axis.Y gap ms) = refl
edit_back (edit.Rank n axis.X gap ms) = refl
edit_back (edit.Rank n axis.Y gap ms) = refl
edit_back (edit.Apart n axis.X a b gap false) = refl
edit_back (edit.Apart n axis.X a b gap true) = refl
edit_back (edit.Apart n axis.Y a b gap false) = refl
edit_back (edit.Apart n axis.Y a b gap true) = refl
edit_back (edit.Group n pad ms) = refl
edit_back (edit.Page n x y w h margin false) = refl
edit_back (edit.Page n x y w h margin true) = refl
edit_back (edit.Drop n) = refl

back : (c : Command) → from (command_keyword c) (command_fields c) ≡ c
unfolding from nth name_in
back (command.Edit e) = edit_back e
back command.Undo = refl
back command.Layout = refl
back (command.Where n) = refl

-- ---- a line is known by its number and its parts

abbrev made : ℕ → ℕ → Command → Line
made n s c = record { number = n; session = s; command = c }

same_made : (n m s t : ℕ) (c d : Command) → n ≡ m → s ≡ t → c ≡ d → made n s c ≡ made m t d
same_made n m s t c d e f g = rw (e, f, g) refl

same_ok : (x y : LineParts) → let f : LineParts → Result LineParts FaultKind = (λ z. Ok z) in f x ≡ f y → x ≡ y
same_ok x y e = cc

same_line : (a b : Line) → a.number ≡ b.number → line_parts a ≡ line_parts b → a ≡ b
same_line a b n e =
    let c : a.command ≡ b.command = sym (back a.command) ∙ ap (λ (x : LineParts). from x.1.0 x.1.1) e ∙ back b.command in
    let s : a.session ≡ b.session = ap (λ (x : LineParts). x.0) e in
    same_made a.number b.number a.session b.session a.command b.command n s c

-- lines are known by their texts
same_texts : (k : ℕ) (a b : Line) → k < 2000 → IsLine (k + 2) a → IsLine (k + 2) b → line_text a ≡ line_text b → a ≡ b
same_texts k a b lt ha hb e =
    let ra : line_at k (line_text a) ≡ Ok (line_parts a) = line_again k a lt ha record { is = command_lacks 32 (omega arith) a.command ha.command } in
    let rb : line_at k (line_text b) ≡ Ok (line_parts b) = line_again k b lt hb record { is = command_lacks 32 (omega arith) b.command hb.command } in
    same_line a b (ha.numbered ∙ sym hb.numbered) (same_ok (line_parts a) (line_parts b) (sym ra ∙ ap (line_at k) e ∙ rb))

pub not_end : (l : Line) → l.session ≤ 8 → line_text l ≡ codes "end" → ⊥
not_end l le e = let t : 48 + l.session ≡ 101 = ap (λ (v : List ℕ). get_or v 0 0) (sym (line_text-digit l le) ∙ e) in omega arith

pub session_small : (n : ℕ) (l : Line) → IsLine n l → l.session ≤ 8
session_small n l h = omega (arith, h.session.1)

pub same_bodies : (k : ℕ) (a b : List Line) → AreLines (k + 2) a → AreLines (k + 2) b → k + length a ≤ 2000 → body_pieces a ≡ body_pieces b → a ≡ b
same_bodies k [] [] ha hb le e = refl
same_bodies k [] (b ∷ bs) ha hb le e = let t : line_text b ≡ codes "end" = cc in absurd (not_end b (session_small (k + 2) b hb.0) t)
same_bodies k (a ∷ others) [] ha hb le e = let t : line_text a ≡ codes "end" = cc in absurd (not_end a (session_small (k + 2) a ha.0) t)
same_bodies k (a ∷ others) (b ∷ bs) ha hb le e =
    let h : line_text a ≡ line_text b = cc in
    let t : body_pieces others ≡ body_pieces bs = cc in
    let n : k + 2 + 1 ≡ k + 1 + 2 = omega arith in
    let x = same_texts k a b (omega arith) ha.0 hb.0 h in
    let y = same_bodies (k + 1) others bs (subst (λ (m : ℕ). AreLines m others) n ha.1) (subst (λ (m : ℕ). AreLines m bs) n hb.1) (omega arith) t in cc

join_cons : (w : List ℕ) (ws : List (List ℕ)) → (ws ≡ [] → ⊥) → join_with_byte 10 (w ∷ ws) ≡ w ++ 10 ∷ join_with_byte 10 ws
join_cons w [] some = absurd (some refl)
join_cons w (v ∷ ws) some = refl

some_behind : (ws more : List (List ℕ)) → (more ≡ [] → ⊥) → ws ++ more ≡ [] → ⊥
some_behind [] more some e = some e
some_behind (w ∷ ws) more some e = absurd cc

-- ---- what is spelled so is read

closed_lacks : (w : Word) → AllByRecursion (λ b. eqb b 10 ≡ false) w → Lacks 10 w
closed_lacks w h = All-from_recursion (λ b. eqb b 10 ≡ false) w h

pub header_lacks : Lacks 10 (codes "dunnart 1")
header_lacks = closed_lacks (codes "dunnart 1") (refl, (refl, (refl, (refl, (refl, (refl, (refl, (refl, (refl, tt)))))))))

pub bodies_lack : (n : ℕ) (ls : List Line) → AreLines n ls → AllLack 10 (map line_text ls ++ codes "end" ∷ [])
bodies_lack n [] h = (closed_lacks (codes "end") (refl, (refl, (refl, tt))), tt)
bodies_lack n (l ∷ ls) h = (line_lacks l h.0.session.0 (omega (arith, h.0.session.1)) h.0.command, bodies_lack (n + 1) ls h.1)

pub spelled_pieces : (bytes : List ℕ) (ls : List Line) → Spells bytes ls → pieces 10 bytes ≡ script_pieces ls
spelled_pieces bytes ls h =
    let lack : AllLack 10 (codes "dunnart 1" ∷ map line_text ls ++ codes "end" ∷ []) = (header_lacks, bodies_lack 2 ls h.script.are) in
    ap (pieces 10) h.text
    ∙ split_lines 10 (codes "dunnart 1" ∷ map line_text ls ++ codes "end" ∷ []) refl lack
    ∙ ap (λ (x : List (List ℕ)). codes "dunnart 1" ∷ x) (append_assoc (map line_text ls) (codes "end" ∷ []) ([] ∷ []))

tail : (w : List ℕ) (a b : List (List ℕ)) → w ∷ a ≡ w ∷ b → a ≡ b
tail w a b e = cc

pub one_script : (bytes : List ℕ) (a b : List Line) → Spells bytes a → Spells bytes b → a ≡ b
one_script bytes a b h g = same_bodies 0 a b h.script.are g.script.are (omega (arith, h.script.few)) (tail (codes "dunnart 1") (body_pieces a) (body_pieces b) (sym (spelled_pieces bytes a h) ∙ spelled_pieces bytes b g))

-- ---- what is read is spelled so

-- pieces in front, joined again
pub join_front : (ws more : List (List ℕ)) → (more ≡ [] → ⊥) → join_with_byte 10 (ws ++ more) ≡ concat (map with_lf ws) ++ join_with_byte 10 more
join_front [] more some = refl
join_front (w ∷ ws) more some =
    join_cons w (ws ++ more) (some_behind ws more some)
    ∙ ap (λ (x : List ℕ). w ++ 10 ∷ x) (join_front ws more some)
    ∙ sym (append_assoc w (10 ∷ []) (concat (map with_lf ws) ++ join_with_byte 10 more))
    ∙ sym (append_assoc (with_lf w) (concat (map with_lf ws)) (join_with_byte 10 more))

pub script_sound : (bytes : List ℕ) (ls : List Line) → IsScript ls → pieces 10 bytes ≡ script_pieces ls → Spells bytes ls
script_sound bytes ls is p =
    let texts : List (List ℕ) = codes "dunnart 1" ∷ map line_text ls ++ codes "end" ∷ [] in
    let regrouped : script_pieces ls ≡ (codes "dunnart 1" ∷ map line_text ls ++ codes "end" ∷ []) ++ [] ∷ [] = ap (λ (x : List (List ℕ)). codes "dunnart 1" ∷ x) (sym (append_assoc (map line_text ls) (codes "end" ∷ []) ([] ∷ []))) in
    record {
      script = is;
      text = sym (join_with_byte-slice_split 10 bytes) ∙ ap (join_with_byte 10) (p ∙ regrouped)
          ∙ join_front (codes "dunnart 1" ∷ map line_text ls ++ codes "end" ∷ []) ([] ∷ []) (λ e. absurd cc)
          ∙ append-nil (concat (map with_lf (codes "dunnart 1" ∷ map line_text ls ++ codes "end" ∷ [])));
    }
