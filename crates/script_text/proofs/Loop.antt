-- Reading lines one after the other, as a loop does.
use Rattle.std.proofs.Common.{◌≡◌, ℕ, ◌+◌, ◌≤◌, true, false, List, [], ◌∷◌, ◌++◌, length, map, Result, Ok, Err, refl, sym, ap, subst, ◌∙◌, append_assoc, arith}
use Rattle.std.specs.Prelude.{codes, bytes_eq, MatchResult}
use Rattle.std.specs.Global.{Vec}
use Rattle.std.proofs.lemmas.List.{map_push, length-append}
use Rattle.script_text.specs.Scripts.{line_text, IsLine, AreLines, IsScript}
use Rattle.script_text.specs.Reading.{line_parts, line_at, body_pieces, script_pieces, end_stop, line_stop, body_stop, StopsBehind, Stops, Behind, Answers}
use Rattle.script_text.specs.declared.scripts.Line.{Line}
use Rattle.script_text.specs.declared.faults.ReadFault.{ReadFault}
use Rattle.script_text.specs.declared.faults.ReadFault.TheVariants as cause
use Rattle.script_text.proofs.WholeLines.{line_sound, line_below}

-- the lines in front are those of a script, and something is left behind them
pub record SoFar (body : List (List ℕ)) (front : List Line) (left : List (List ℕ)) : Type 0 where
  pub is : body ≡ map line_text front ++ left
  pub are : AreLines 2 front
  pub few : length front ≤ 2000
  pub some : left ≡ [] → ⊥

pub at_start : (body : List (List ℕ)) → (body ≡ [] → ⊥) → SoFar body [] body
at_start body some = record { is = refl; are = tt; few = omega arith; some = some }

pub end_line : (k : ℕ) (line : List ℕ) (more : List (List ℕ)) → (more ≡ [] → ⊥) → bytes_eq line (codes "end") ≡ true → body_stop k (line ∷ more) ≡ end_stop k more
end_line k line [] some e = absurd (some refl)
end_line k line (next ∷ more) some e = rw e refl

pub other_line : (k : ℕ) (line : List ℕ) (more : List (List ℕ)) → (more ≡ [] → ⊥) → bytes_eq line (codes "end") ≡ false → body_stop k (line ∷ more) ≡ line_stop k (line_at k line)
other_line k line [] some e = absurd (some refl)
other_line k line (next ∷ more) some e = rw e refl

-- a line that is read
lines_push : (n : ℕ) (ls : List Line) (l : Line) → AreLines n ls → IsLine (n + length ls) l → AreLines n (ls ++ l ∷ [])
lines_push n [] l h is = let e : n + 0 ≡ n = omega arith in (subst (λ (m : ℕ). IsLine m l) e is, tt)
lines_push n (x ∷ ls) l h is = let e : n + (length (x ∷ ls)) ≡ n + 1 + length ls = omega arith in (h.0, lines_push (n + 1) ls l h.1 (subst (λ (m : ℕ). IsLine m l) e is))

pub at_line : (body : List (List ℕ)) (front : List Line) (left : List (List ℕ)) (line : List ℕ) (more : List (List ℕ)) (before : ℕ) (l : Line) (after : List Line)
    → SoFar body front left → left ≡ line ∷ more → (more ≡ [] → ⊥) → before ≡ length front → line_at before line ≡ Ok (line_parts l) → l.number ≡ before + 2 → after ≡ front ++ l ∷ [] → SoFar body after more
at_line body front left line more before l after s p some b ok number a =
    let good = line_sound before line l ok number in
    let n : before + 2 ≡ 2 + length front = omega arith in
    let below = line_below before line (line_parts l) ok in
    let joined : map line_text after ++ more ≡ map line_text front ++ line_text l ∷ more = rw a (ap (λ (x : List (List ℕ)). x ++ more) (map_push line_text front l) ∙ append_assoc (map line_text front) (line_text l ∷ []) more) in
    record {
      is = s.is ∙ ap (λ (x : List (List ℕ)). map line_text front ++ x) (p ∙ ap (λ (x : List ℕ). x ∷ more) good.1) ∙ sym joined;
      are = rw a (lines_push 2 front l s.are (subst (λ (m : ℕ). IsLine m l) n good.0));
      few = omega (arith, ap length a, length-append front (l ∷ []), below, b);
      some = some;
    }

-- ---- the header and what stands behind it

pub behind_header : (ps body : List (List ℕ)) (r : Result (Vec Line) ReadFault) → ps ≡ codes "dunnart 1" ∷ body
    → MatchResult r (λ v. IsScript v.items × (body ≡ body_pieces v.items)) (λ e. Answers (λ f. StopsBehind body f) e)
    → MatchResult r (λ v. IsScript v.items × (ps ≡ script_pieces v.items)) (λ e. Answers (λ f. Stops ps f) e)
behind_header ps body (Ok v) p h = (h.0, rw (p, h.1) refl)
behind_header ps body (Err cause.Memory) p h = tt
behind_header ps body (Err (cause.Fault f)) p h = Behind body p h
