-- The bytes of commands, lines and scripts, as they are put together.
use Rattle.std.proofs.Common.{◌≡◌, ℕ, zero, suc, ◌+◌, ◌<◌, ◌≤◌, List, [], ◌∷◌, ◌++◌, length, map, take, get_or, refl, sym, ap, ◌∙◌, append_assoc, arith}
use Rattle.std.specs.Prelude.{codes}
use Rattle.std.specs.List.{concat}
use Rattle.std.proofs.Math.Seq.{take-suc, take-length}
use Rattle.std.proofs.lemmas.List.{append-nil, map_push}
use Rattle.std.proofs.lemmas.List.Folds.{concat-append}
use Rattle.script_text.specs.Words.{Word, spaced, behind}
use Rattle.script_text.specs.Commands.{command_words}
use Rattle.script_text.specs.Scripts.{AreLines, IsScript, Spells, line_text, with_lf}
use Rattle.script_text.specs.declared.scripts.Line.{Line}
use Rattle.script_text.proofs.WholeLines.{line_text-digit}
use Rattle.script_text.proofs.Texts.{session_small}

-- ---- words behind others

behind_push : (ws : List Word) (w : Word) → behind (ws ++ w ∷ []) ≡ behind ws ++ 32 ∷ w
behind_push [] w = append-nil (32 ∷ w)
behind_push (v ∷ ws) w = ap (λ (x : List ℕ). 32 ∷ v ++ x) (behind_push ws w) ∙ sym (append_assoc (32 ∷ v) (behind ws) (32 ∷ w))

-- one name more
pub next_name : (start old new : List ℕ) (names : List Word) (i : ℕ) (name : Word) → i < length names → name ≡ get_or names i name → old ≡ start ++ behind (take i names) → new ≡ old ++ 32 ∷ name → new ≡ start ++ behind (take (suc i) names)
next_name start old new names i name lt is h e =
    let more : take (suc i) names ≡ take i names ++ name ∷ [] = take-suc names i name lt ∙ ap (λ (x : Word). take i names ++ x ∷ []) (sym is) in
    e ∙ ap (λ (x : List ℕ). x ++ 32 ∷ name) h ∙ append_assoc start (behind (take i names)) (32 ∷ name)
    ∙ ap (λ (x : List ℕ). start ++ x) (sym (ap behind more ∙ behind_push (take i names) name))

pub all_names : (start text : List ℕ) (names : List Word) (i : ℕ) → length names ≤ i → i ≤ length names → text ≡ start ++ behind (take i names) → text ≡ start ++ behind names
all_names start text names i low high h =
    let n : i ≡ length names = omega arith in
    let all : take i names ≡ names = rw n (take-length names) in
    h ∙ ap (λ (x : List Word). start ++ behind x) all

spaced_behind : (w : Word) (ws ms : List Word) → spaced (w ∷ ws ++ ms) ≡ spaced (w ∷ ws) ++ behind ms
spaced_behind w [] [] = sym (append-nil w)
spaced_behind w [] (m ∷ ms) = ap (λ (x : List ℕ). w ++ 32 ∷ x) (spaced_behind m [] ms)
spaced_behind w (v ∷ ws) ms = ap (λ (x : List ℕ). w ++ 32 ∷ x) (spaced_behind v ws ms) ∙ sym (append_assoc w (32 ∷ spaced (v ∷ ws)) (behind ms))

-- words, and members behind them
pub with_members : (w : Word) (ws ms : List Word) (old new : List ℕ) → old ≡ spaced (w ∷ ws) → new ≡ old ++ behind ms → new ≡ spaced (w ∷ ws ++ ms)
with_members w ws ms old new h e = e ∙ ap (λ (x : List ℕ). x ++ behind ms) h ∙ sym (spaced_behind w ws ms)

-- ---- a line

joined : (old text : List ℕ) (digit : ℕ) → (((old ++ digit ∷ []) ++ 32 ∷ []) ++ text) ++ 10 ∷ [] ≡ old ++ ((digit ∷ 32 ∷ text) ++ 10 ∷ [])
joined old text digit =
    append_assoc ((old ++ digit ∷ []) ++ 32 ∷ []) text (10 ∷ [])
    ∙ append_assoc (old ++ digit ∷ []) (32 ∷ []) (text ++ 10 ∷ [])
    ∙ append_assoc old (digit ∷ []) (32 ∷ text ++ 10 ∷ [])

-- a digit, a space, the text of the command and a LF are the line
pub line_bytes : (old a b d e text : List ℕ) (l : Line) → l.session ≤ 8 → a ≡ old ++ (48 + l.session) ∷ [] → b ≡ a ++ 32 ∷ [] → text ≡ spaced (command_words l.command) → d ≡ b ++ text → e ≡ d ++ 10 ∷ [] → e ≡ old ++ with_lf (line_text l)
line_bytes old a b d e text l le ea eb et ed ee =
    let put : e ≡ (((old ++ (48 + l.session) ∷ []) ++ 32 ∷ []) ++ text) ++ 10 ∷ [] = rw (ee, ed, eb, ea) refl in
    let same : with_lf (line_text l) ≡ ((48 + l.session) ∷ 32 ∷ text) ++ 10 ∷ [] = ap with_lf (line_text-digit l le) ∙ rw et refl in
    put ∙ joined old text (48 + l.session) ∙ ap (λ (x : List ℕ). old ++ x) (sym same)

-- the bytes of these lines
abbrev pub lines_bytes : List Line → List ℕ
lines_bytes ls = concat (map with_lf (map line_text ls))

lines_push : (ls : List Line) (l : Line) → lines_bytes (ls ++ l ∷ []) ≡ lines_bytes ls ++ with_lf (line_text l)
lines_push ls l =
    ap (λ (x : List (List ℕ)). concat (map with_lf x)) (map_push line_text ls l)
    ∙ ap concat (map_push with_lf (map line_text ls) (line_text l))
    ∙ concat-append (map with_lf (map line_text ls)) (with_lf (line_text l) ∷ [])
    ∙ ap (λ (x : List ℕ). lines_bytes ls ++ x) (append-nil (with_lf (line_text l)))

-- one line more
pub next_line : (old new : List ℕ) (ls : List Line) (i : ℕ) (l : Line) → i < length ls → l ≡ get_or ls i l → old ≡ codes "dunnart 1\n" ++ lines_bytes (take i ls) → new ≡ old ++ with_lf (line_text l) → new ≡ codes "dunnart 1\n" ++ lines_bytes (take (suc i) ls)
next_line old new ls i l lt is h e =
    let more : take (suc i) ls ≡ take i ls ++ l ∷ [] = take-suc ls i l lt ∙ ap (λ (x : Line). take i ls ++ x ∷ []) (sym is) in
    e ∙ ap (λ (x : List ℕ). x ++ with_lf (line_text l)) h ∙ append_assoc (codes "dunnart 1\n") (lines_bytes (take i ls)) (with_lf (line_text l))
    ∙ ap (λ (x : List ℕ). codes "dunnart 1\n" ++ x) (sym (ap lines_bytes more ∙ lines_push (take i ls) l))

-- all lines, and the last
end_bytes : (ls : List Line) → concat (map with_lf (map line_text ls ++ codes "end" ∷ [])) ≡ lines_bytes ls ++ codes "end\n"
end_bytes ls = ap concat (map_push with_lf (map line_text ls) (codes "end")) ∙ concat-append (map with_lf (map line_text ls)) (codes "end\n" ∷ [])

pub all_lines : (old new : List ℕ) (ls : List Line) (i : ℕ) → length ls ≤ i → i ≤ length ls → IsScript ls → old ≡ codes "dunnart 1\n" ++ lines_bytes (take i ls) → new ≡ old ++ codes "end\n" → Spells new ls
all_lines old new ls i low high is h e =
    let n : i ≡ length ls = omega arith in
    let all : take i ls ≡ ls = rw n (take-length ls) in
    record {
      script = is;
      text = e ∙ ap (λ (x : List ℕ). x ++ codes "end\n") (h ∙ ap (λ (x : List Line). codes "dunnart 1\n" ++ lines_bytes x) all)
          ∙ append_assoc (codes "dunnart 1\n") (lines_bytes ls) (codes "end\n")
          ∙ ap (λ (x : List ℕ). codes "dunnart 1\n" ++ x) (sym (end_bytes ls));
    }

-- the session of a line of a script is a digit
pub session_of_line : (n : ℕ) (ls : List Line) (i : ℕ) (l : Line) → AreLines n ls → i < length ls → l ≡ get_or ls i l → l.session ≤ 8
session_of_line n [] i l h lt is = absurd (omega arith)
session_of_line n (x ∷ ls) zero l h lt is = rw is (session_small n x h.0)
session_of_line n (x ∷ ls) (suc i) l h lt is = session_of_line (n + 1) ls i l h.1 (omega arith) is
