-- Lines: what is read is spelled so, and what is spelled so is read.
use Rattle.std.proofs.Common.{◌≡◌, ℕ, ◌+◌, ◌-◌, ◌<◌, ◌≤◌, Bool, true, false, cond, ltb, leb, eqb, List, [], ◌∷◌, ◌++◌, length, map, drop, get_or, All, Option, Some, None, Result, Ok, Err, refl, sym, ap, subst, ◌∙◌, append_assoc, arith}
use Rattle.std.specs.Prelude.{⊤, decimal, slice_index}
use Rattle.std.specs.List.{join_with_byte, concat}
use Rattle.std.proofs.lemmas.Fmt.{decimal_digit}
use Rattle.std.proofs.lemmas.Bool.{eqb-true, le-ltb, lt-leb, and_parts, le-leb, leb-true, ltb-false, leb-false, not-false}
use Rattle.std.proofs.lemmas.List.Splits.{slice_split_at, slice_split_none, join_with_byte-slice_split}
use Rattle.script_text.specs.Words.{Word, spaced}
use Rattle.script_text.specs.Pieces.{pieces}
use Rattle.script_text.specs.Keywords.{keyword_word}
use Rattle.script_text.specs.Grammar.{slots}
use Rattle.script_text.specs.Commands.{Field, IsCommand, command_words, command_keyword, command_fields, fields_words}
use Rattle.script_text.specs.Scripts.{line_text, IsLine}
use Rattle.script_text.specs.Reading.{Parts, parts, LineParts, line_parts, keyword_of, fields_at, parts_or, command_at, command_by, line_at, with_session, begins_session}
use Rattle.script_text.specs.declared.scripts.Command.{Command}
use Rattle.script_text.specs.declared.scripts.Line.{Line}
use Rattle.script_text.specs.declared.keywords.Keyword.{Keyword}
use Rattle.script_text.specs.declared.faults.FaultKind.{FaultKind}
use Rattle.script_text.proofs.Table.{keyword_again, keyword_sound}
use Rattle.script_text.proofs.Laws.{command_slots, fields_again, fields_sound, SaysAll}

-- ---- a command

command_by_again : (ws : List Word) (r : Option Keyword) (k : Keyword) (fs : List Field) → r ≡ Some k → fields_at (slots k) ws ≡ Some fs → command_by ws r ≡ Ok (k, fs)
command_by_again ws r k fs e fields = rw (e, fields) refl

command_again : (c : Command) → IsCommand c → command_at (command_words c) ≡ Ok (parts c)
command_again c h =
    let fields : fields_at (slots (command_keyword c)) (fields_words (command_fields c)) ≡ Some (command_fields c) = fields_again (command_keyword c) (command_fields c) (command_slots c) h.fields in
    command_by_again (fields_words (command_fields c)) (keyword_of (keyword_word (command_keyword c))) (command_keyword c) (command_fields c) (keyword_again (command_keyword c)) fields

-- ---- words without the byte

-- no byte of the word is the byte by
abbrev pub Lacks : ℕ → List ℕ → Type 0
Lacks by w = All (λ b. eqb b by ≡ false) w

abbrev pub AllLack : ℕ → List (List ℕ) → Type 0
AllLack by [] = ⊤
AllLack by (w ∷ ws) = Lacks by w × AllLack by ws

pub split_join : (by : ℕ) (w : List ℕ) (ws : List (List ℕ)) → eqb by by ≡ true → Lacks by w → AllLack by ws → pieces by (join_with_byte by (w ∷ ws)) ≡ w ∷ ws
split_join by w [] same h hs = slice_split_none (λ b. eqb b by) w h
split_join by w (v ∷ ws) same h hs = slice_split_at (λ b. eqb b by) w by (join_with_byte by (v ∷ ws)) h same ∙ ap (λ (x : List (List ℕ)). w ∷ x) (split_join by v ws same hs.0 hs.1)

pub split_lines : (by : ℕ) (ws : List (List ℕ)) → eqb by by ≡ true → AllLack by ws → pieces by (concat (map (λ w. w ++ by ∷ []) ws)) ≡ ws ++ [] ∷ []
split_lines by [] same hs = refl
split_lines by (w ∷ ws) same hs =
    ap (pieces by) (append_assoc w (by ∷ []) (concat (map (λ v. v ++ by ∷ []) ws)))
    ∙ slice_split_at (λ b. eqb b by) w by (concat (map (λ v. v ++ by ∷ []) ws)) hs.0 same
    ∙ ap (λ (x : List (List ℕ)). w ∷ x) (split_lines by ws same hs.1)

-- ---- a line

pub record SplitsWords (c : Command) : Type 0 where
  pub is : AllLack 32 (command_words c)

decimal_session : (s : ℕ) → s ≤ 8 → decimal s ≡ (48 + s) ∷ []
decimal_session s le = decimal_digit s (omega arith)

-- the text of a line is the digit of its session, a space, and the words of its command
pub line_text-digit : (l : Line) → l.session ≤ 8 → line_text l ≡ (48 + l.session) ∷ 32 ∷ spaced (command_words l.command)
line_text-digit l le = ap (λ (d : List ℕ). d ++ 32 ∷ spaced (command_words l.command)) (decimal_session l.session le)

pub line_again : (k : ℕ) (l : Line) → k < 2000 → IsLine (k + 2) l → SplitsWords l.command → line_at k (line_text l) ≡ Ok (line_parts l)
line_again k l lt h plain =
    let e = line_text-digit l (omega (arith, h.session.1)) in
    let short : ltb 2048 (length ((48 + l.session) ∷ 32 ∷ spaced (command_words l.command))) ≡ false = le-ltb _ _ (subst (λ (v : List ℕ). length v ≤ 2048) e h.short) in
    let few : leb 2000 k ≡ false = lt-leb _ _ lt in
    let low : leb 49 (48 + l.session) ≡ true = le-leb _ _ (omega (arith, h.session.0)) in
    let high : leb (48 + l.session) 56 ≡ true = le-leb _ _ (omega (arith, h.session.1)) in
    let words : pieces 32 (spaced (command_words l.command)) ≡ command_words l.command = split_join 32 (keyword_word (command_keyword l.command)) (fields_words (command_fields l.command)) refl plain.is.0 plain.is.1 in
    let s : 48 + l.session - 48 ≡ l.session = omega arith in
    rw (e, short, few, low, high, words, command_again l.command h.command, s) refl

parts_or_ok : (k : Keyword) (r : Option (List Field)) (x : Parts) → parts_or k r ≡ Ok x → (fs : List Field) × (r ≡ Some fs) × (x ≡ (k, fs))
parts_or_ok k None x e = absurd cc
parts_or_ok k (Some fs) x e = (fs, refl, cc)

command_by_ok : (ws : List Word) (r : Option Keyword) (x : Parts) → command_by ws r ≡ Ok x → (k : Keyword) × (fs : List Field) × (r ≡ Some k) × (x ≡ (k, fs)) × SaysAll ws fs
command_by_ok ws None x e = absurd cc
command_by_ok ws (Some k) x e =
    let a = parts_or_ok k (fields_at (slots k) ws) x e in
    (k, a.0, refl, a.2, fields_sound (slots k) ws a.0 a.1)

said : (w : Word) (ws : List Word) (c : Command) (fs : List Field) → w ≡ keyword_word (command_keyword c) → command_fields c ≡ fs → SaysAll ws fs → (w ∷ ws ≡ command_words c) × IsCommand c
said w ws c fs is f s = let words : ws ≡ fields_words (command_fields c) = s.words ∙ ap fields_words (sym f) in (rw (is, words) refl, record { fields = rw f s.are })

command_sound : (ws : List Word) (c : Command) → command_at ws ≡ Ok (parts c) → (ws ≡ command_words c) × IsCommand c
command_sound [] c e = absurd cc
command_sound (w ∷ ws) c e =
    let a = command_by_ok ws (keyword_of w) (parts c) e in
    let f : command_fields c ≡ a.1 = ap (λ (x : Parts). x.1) a.3 in
    let k : command_keyword c ≡ a.0 = ap (λ (x : Parts). x.0) a.3 in
    let is : w ≡ keyword_word (command_keyword c) = keyword_sound w a.0 a.2 ∙ ap keyword_word (sym k) in
    said w ws c a.1 is f a.4

-- ---- what is known of a line that is read

not_err : (b : Bool) (f : FaultKind) (r : Result LineParts FaultKind) (x : LineParts) → cond b (Err f) r ≡ Ok x → (b ≡ false) × (r ≡ Ok x)
not_err true f r x e = absurd cc
not_err false f r x e = (refl, e)

pub record GoodLine (k : ℕ) (line : List ℕ) (x : LineParts) : Type 0 where
  pub short : length line ≤ 2048
  pub few : k < 2000
  pub session : begins_session line ≡ true
  pub rest : with_session (slice_index line 0 - 48) (command_at (pieces 32 (drop 2 line))) ≡ Ok x

good_line : (k : ℕ) (line : List ℕ) (x : LineParts) → line_at k line ≡ Ok x → GoodLine k line x
good_line k line x e =
    let a = not_err _ _ _ x e in
    let b = not_err _ _ _ x a.1 in
    let c = not_err _ _ _ x b.1 in
    record { short = ltb-false _ _ a.0; few = leb-false _ _ b.0; session = not-false _ c.0; rest = c.1 }

pub line_below : (k : ℕ) (line : List ℕ) (x : LineParts) → line_at k line ≡ Ok x → k < 2000
line_below k line x e = (good_line k line x e).few

abbrev ok : {A : Type 0} → A → Result A FaultKind
ok x = Ok x

with_session_ok : (s : ℕ) (r : Result Parts FaultKind) (x : LineParts) → with_session s r ≡ Ok x → (r ≡ Ok x.1) × (s ≡ x.0)
with_session_ok s (Ok c) x e = let p : (s, c) ≡ x = cc in (ap (λ (y : LineParts). ok y.1) p, ap (λ (y : LineParts). y.0) p)
with_session_ok s (Err f) x e = absurd cc

pub from_second : (line : List ℕ) → get_or line 1 0 ≡ 32 → line ≡ get_or line 0 0 ∷ 32 ∷ drop 2 line
from_second [] e = absurd (omega arith)
from_second (a ∷ []) e = absurd (omega arith)
from_second (a ∷ b ∷ rest) e = ap (λ (x : ℕ). a ∷ x ∷ rest) e

pub line_sound : (k : ℕ) (line : List ℕ) (l : Line) → line_at k line ≡ Ok (line_parts l) → l.number ≡ k + 2 → IsLine (k + 2) l × (line ≡ line_text l)
line_sound k line l e number =
    let p = good_line k line (line_parts l) e in
    let w = with_session_ok _ _ _ p.rest in
    let c = command_sound (pieces 32 (drop 2 line)) l.command w.0 in
    let s = and_parts _ _ p.session in
    let s2 = and_parts _ _ s.0 in
    let low : 49 ≤ get_or line 0 0 = leb-true _ _ s2.0 in
    let high : get_or line 0 0 ≤ 56 = leb-true _ _ s2.1 in
    let is : l.session + 48 ≡ get_or line 0 0 = omega (arith, w.1) in
    let joined : spaced (command_words l.command) ≡ drop 2 line = rw (← c.0) (join_with_byte-slice_split 32 (drop 2 line)) in
    let first : 48 + l.session ≡ get_or line 0 0 = omega arith in
    let text : line_text l ≡ line = line_text-digit l (omega arith) ∙ rw (joined, first) (sym (from_second line (eqb-true _ _ s.1))) in
    (record { numbered = number; session = (omega arith, omega arith); command = c.1; short = rw text p.short }, sym text)
