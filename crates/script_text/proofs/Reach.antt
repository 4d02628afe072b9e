-- How far scripts go: with how many whole lines of some script the bytes begin.
use Rattle.std.proofs.Common.{◌≡◌, ℕ, zero, suc, ◌+◌, ◌<◌, ◌≤◌, false, eqb, List, [], ◌∷◌, ◌++◌, length, map, take, Ok, Err, refl, sym, ap, subst, ◌∙◌, append_assoc, arith, inl, inr}
use Rattle.std.specs.Prelude.{codes, bytes_eq, ◌⊎◌}
use Rattle.std.specs.List.{concat, join_with_byte}
use Rattle.std.proofs.lemmas.Bool.{both_ways}
use Rattle.std.proofs.lemmas.Slice.Eq.{bytes_eq-Decides}
use Rattle.std.proofs.lemmas.List.{length-append, length-map}
use Rattle.std.proofs.lemmas.List.Splits.{join_with_byte-slice_split, slice_split_at}
use Rattle.script_text.specs.Pieces.{pieces}
use Rattle.script_text.specs.Scripts.{IsLine, AreLines, IsScript, line_text, script_texts, with_lf}
use Rattle.script_text.specs.Faults.{Begins}
use Rattle.script_text.specs.Reading.{line_parts, line_at}
use Rattle.script_text.specs.declared.scripts.Line.{Line}
use Rattle.script_text.specs.declared.faults.FaultKind.{FaultKind}
use Rattle.script_text.proofs.Cutting.{not_nil}
use Rattle.script_text.proofs.WholeLines.{AllLack, line_again}
use Rattle.script_text.proofs.Bytes.{command_lacks}
use Rattle.script_text.proofs.Texts.{header_lacks, bodies_lack, join_front, not_end, session_small}

-- ---- lines and pieces

-- n whole lines of a script stand in front of the pieces, and something behind them
pub record BeginsPieces (ps : List (List ℕ)) (n : ℕ) : Type 0 where
  pub lines : List Line
  pub script : IsScript lines
  pub within : n ≤ length (script_texts lines)
  pub more : List (List ℕ)
  pub some : more ≡ [] → ⊥
  pub is : ps ≡ take n (script_texts lines) ++ more

pub begins_from : (bytes : List ℕ) (n : ℕ) → BeginsPieces (pieces 10 bytes) n → Begins bytes n
begins_from bytes n b = record {
  lines = b.lines;
  script = b.script;
  within = b.within;
  rest = join_with_byte 10 b.more;
  is = sym (join_with_byte-slice_split 10 bytes) ∙ ap (join_with_byte 10) b.is ∙ join_front (take n (script_texts b.lines)) b.more b.some;
}

take_lacks : (n : ℕ) (ws : List (List ℕ)) → AllLack 10 ws → AllLack 10 (take n ws)
take_lacks zero ws h = tt
take_lacks (suc n) [] h = tt
take_lacks (suc n) (w ∷ ws) h = (h.0, take_lacks n ws h.1)

front_pieces : (ws : List (List ℕ)) (rest : List ℕ) → AllLack 10 ws → pieces 10 (concat (map with_lf ws) ++ rest) ≡ ws ++ pieces 10 rest
front_pieces [] rest h = refl
front_pieces (w ∷ ws) rest h =
    ap (pieces 10) (append_assoc (with_lf w) (concat (map with_lf ws)) rest ∙ append_assoc w (10 ∷ []) (concat (map with_lf ws) ++ rest))
    ∙ slice_split_at (λ b. eqb b 10) w 10 (concat (map with_lf ws) ++ rest) h.0 refl
    ∙ ap (λ (x : List (List ℕ)). w ∷ x) (front_pieces ws rest h.1)

pub begins_pieces : (bytes : List ℕ) (n : ℕ) → Begins bytes n → BeginsPieces (pieces 10 bytes) n
begins_pieces bytes n b = record {
  lines = b.lines;
  script = b.script;
  within = b.within;
  more = pieces 10 b.rest;
  some = not_nil 10 b.rest;
  is = ap (pieces 10) b.is ∙ front_pieces (take n (script_texts b.lines)) b.rest (take_lacks n (script_texts b.lines) (header_lacks, bodies_lack 2 b.lines b.script.are));
}

-- ---- what goes on behind k command lines

-- n further lines of some script stand in front of the pieces behind k command lines
pub record Continues (k : ℕ) (ps : List (List ℕ)) (n : ℕ) : Type 0 where
  pub lines : List Line
  pub are : AreLines (k + 2) lines
  pub few : k + length lines ≤ 2000
  pub within : n ≤ length lines + 1
  pub more : List (List ℕ)
  pub some : more ≡ [] → ⊥
  pub is : ps ≡ take n (map line_text lines ++ codes "end" ∷ []) ++ more

pub length_texts : (ls : List Line) → length (map line_text ls ++ codes "end" ∷ []) ≡ length ls + 1
length_texts ls = omega (arith, length-append (map line_text ls) (codes "end" ∷ []), length-map ls line_text)

tail : (v w : List ℕ) (a b : List (List ℕ)) → v ∷ a ≡ w ∷ b → a ≡ b
tail v w a b e = cc

pub behind_header : (ps body : List (List ℕ)) (n : ℕ) → ps ≡ codes "dunnart 1" ∷ body → BeginsPieces ps (suc n) → Continues 0 body n
behind_header ps body n p b = record {
  lines = b.lines;
  are = b.script.are;
  few = omega (arith, b.script.few);
  within = omega (arith, b.within, length_texts b.lines);
  more = b.more;
  some = b.some;
  is = tail (codes "dunnart 1") (codes "dunnart 1") body (take n (map line_text b.lines ++ codes "end" ∷ []) ++ b.more) (sym p ∙ b.is);
}

-- the first of them
pub record First (k : ℕ) (line : List ℕ) (more : List (List ℕ)) (n : ℕ) : Type 0 where
  pub line_is : Line
  pub is : IsLine (k + 2) line_is
  pub few : k < 2000
  pub text : line ≡ line_text line_is
  pub rest : Continues (k + 1) more n

first_by : (k : ℕ) (line : List ℕ) (more : List (List ℕ)) (n : ℕ) (ls : List Line) → AreLines (k + 2) ls → k + length ls ≤ 2000 → suc n ≤ length ls + 1 → (after : List (List ℕ)) → (after ≡ [] → ⊥)
    → line ∷ more ≡ take (suc n) (map line_text ls ++ codes "end" ∷ []) ++ after → ((line ≡ codes "end") × (n ≡ 0)) ⊎ First k line more n
first_by k line more n [] are few within after some e = inl (cc, omega arith)
first_by k line more n (l ∷ ls) are few within after some e =
    let two : k + 2 + 1 ≡ k + 1 + 2 = omega arith in
    inr record {
      line_is = l;
      is = are.0;
      few = omega arith;
      text = cc;
      rest = record { lines = ls; are = subst (λ (i : ℕ). AreLines i ls) two are.1; few = omega arith; within = omega arith; more = after; some = some; is = cc };
    }

first_line : (k : ℕ) (line : List ℕ) (more : List (List ℕ)) (n : ℕ) → Continues k (line ∷ more) (suc n) → ((line ≡ codes "end") × (n ≡ 0)) ⊎ First k line more n
first_line k line more n c = first_by k line more n c.lines c.are c.few c.within c.more c.some c.is

-- no script goes on with a line that isn't read
pub no_more : (k : ℕ) (line : List ℕ) (more : List (List ℕ)) (n : ℕ) (f : FaultKind) → bytes_eq line (codes "end") ≡ false → line_at k line ≡ Err f → Continues k (line ∷ more) n → n ≡ 0
no_more k line more zero f not_end e c = refl
no_more k line more (suc n) f not_end e c =
    elim (first_line k line more n c) [
      | inl h ↦ absurd (both_ways _ not_end ((bytes_eq-Decides line (codes "end")).1 h.0))
      | inr b ↦ (let again : line_at k line ≡ Ok (line_parts b.line_is) = rw b.text (line_again k b.line_is b.few b.is record { is = command_lacks 32 (omega arith) b.line_is.command b.is.command }) in absurd cc)
    ]

-- behind lines of a script none goes on further than behind them
pub most : (k : ℕ) (front : List Line) (ps : List (List ℕ)) (n good : ℕ) → ((m : ℕ) → Continues (k + length front) ps m → m ≤ good) → AreLines (k + 2) front → Continues k (map line_text front ++ ps) n → n ≤ length front + good
most k [] ps n good stuck lines c = let zero_more : k ≡ k + 0 = omega arith in let le : n ≤ good = stuck n (subst (λ (i : ℕ). Continues i ps n) zero_more c) in omega arith
most k (l ∷ front) ps zero good stuck lines c = omega arith
most k (l ∷ front) ps (suc n) good stuck lines c =
    elim (first_line k (line_text l) (map line_text front ++ ps) n c) [
      | inl h ↦ (let z = h.1 in omega arith)
      | inr b ↦ (
          let one : k + 1 + length front ≡ k + suc (length front) = omega arith in
          let two : k + 2 + 1 ≡ k + 1 + 2 = omega arith in
          let r = most (k + 1) front ps n good (λ m d. stuck m (subst (λ (i : ℕ). Continues i ps m) one d)) (subst (λ (i : ℕ). AreLines i front) two lines.1) b.rest in omega (arith, r))
    ]

-- behind `end` no script goes on
pub ended : (k : ℕ) (more : List (List ℕ)) (n : ℕ) → Continues k (codes "end" ∷ more) n → n ≤ 1
ended k more zero c = omega arith
ended k more (suc n) c =
    elim (first_line k (codes "end") more n c) [
      | inl h ↦ (let z = h.1 in omega arith)
      | inr b ↦ absurd (not_end b.line_is (session_small (k + 2) b.line_is b.is) (sym b.text))
    ]

pub nil_right : (a b : List (List ℕ)) → a ++ b ≡ [] → b ≡ []
nil_right [] b e = e
nil_right (x ∷ a) b e = absurd cc

-- a piece with no LF behind it is no line of a script
cut_by : (n : ℕ) (last : List ℕ) (ls : List Line) (after : List (List ℕ)) → (after ≡ [] → ⊥) → last ∷ [] ≡ take (suc n) (map line_text ls ++ codes "end" ∷ []) ++ after → ⊥
cut_by n last [] after some e = some (nil_right (take n []) after (let t : [] ≡ take n [] ++ after = cc in sym t))
cut_by n last (l ∷ ls) after some e = some (nil_right (take n (map line_text ls ++ codes "end" ∷ [])) after (let t : [] ≡ take n (map line_text ls ++ codes "end" ∷ []) ++ after = cc in sym t))

pub cut_off : (k : ℕ) (last : List ℕ) (n : ℕ) → Continues k (last ∷ []) n → n ≡ 0
cut_off k last zero c = refl
cut_off k last (suc n) c = absurd (cut_by n last c.lines c.more c.some c.is)

-- ---- the lines in front

front_of : (ls : List Line) → take (length ls) (map line_text ls ++ codes "end" ∷ []) ≡ map line_text ls
front_of [] = refl
front_of (l ∷ ls) = ap (λ (x : List (List ℕ)). line_text l ∷ x) (front_of ls)

-- the header and the lines in front
pub begins_front : (ps left : List (List ℕ)) (front : List Line) → IsScript front → (left ≡ [] → ⊥) → ps ≡ codes "dunnart 1" ∷ map line_text front ++ left → BeginsPieces ps (suc (length front))
begins_front ps left front is some p = record {
  lines = front;
  script = is;
  within = omega (arith, length_texts front);
  more = left;
  some = some;
  is = p ∙ ap (λ (x : List (List ℕ)). codes "dunnart 1" ∷ x ++ left) (sym (front_of front));
}

all_of : (ls : List Line) → take (suc (length ls)) (map line_text ls ++ codes "end" ∷ []) ≡ map line_text ls ++ codes "end" ∷ []
all_of [] = refl
all_of (l ∷ ls) = ap (λ (x : List (List ℕ)). line_text l ∷ x) (all_of ls)

-- all lines of a script
pub begins_all : (ps more : List (List ℕ)) (front : List Line) → IsScript front → (more ≡ [] → ⊥) → ps ≡ codes "dunnart 1" ∷ map line_text front ++ codes "end" ∷ more → BeginsPieces ps (suc (suc (length front)))
begins_all ps more front is some p = record {
  lines = front;
  script = is;
  within = omega (arith, length_texts front);
  more = more;
  some = some;
  is = p ∙ ap (λ (x : List (List ℕ)). codes "dunnart 1" ∷ x) (sym (append_assoc (map line_text front) (codes "end" ∷ []) more) ∙ ap (λ (x : List (List ℕ)). x ++ more) (sym (all_of front)));
}

-- no line
pub begins_nothing : (bytes : List ℕ) → Begins bytes 0
begins_nothing bytes = record { lines = []; script = record { few = omega arith; are = tt }; within = omega arith; rest = bytes; is = refl }
