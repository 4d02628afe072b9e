-- The kind of a fault: the first that holds.
use Rattle.std.proofs.Common.{◌≡◌, ℕ, suc, ◌+◌, ◌-◌, ◌<◌, ◌≤◌, Bool, true, false, cond, not, eqb, ltb, leb, List, [], ◌∷◌, ◌++◌, length, get_or, drop, Result, Ok, Err, Option, Some, None, refl, sym, ap, subst, ◌∙◌, arith, inl, inr}
use Rattle.std.specs.Prelude.{slice_index, ◌⊎◌}
use Rattle.std.proofs.Math.Seq.{get_or-append_seam}
use Rattle.std.proofs.lemmas.Bool.{cases_eq, both_ways, ne_eqb, eqb-true, ltb-true, ltb-false, leb-true, leb-false, le-leb, and_parts, not-true, not-false}
use Rattle.std.proofs.lemmas.List.{length-append}
use Rattle.std.proofs.lemmas.Fmt.{decimal_digit}
use Rattle.script_text.specs.Words.{Word}
use Rattle.script_text.specs.Pieces.{pieces}
use Rattle.script_text.specs.Grammar.{slots}
use Rattle.script_text.specs.Commands.{Field}
use Rattle.script_text.specs.Faults.{line_behind, HasLf, BeginsSession, HasCommand, Holds, rank, IsFirstKind}
use Rattle.script_text.specs.Reading.{Parts, LineParts, line_at, begins_session, with_session, command_at, command_by, parts_or, fields_at, keyword_of, last_kind}
use Rattle.script_text.specs.declared.keywords.Keyword.{Keyword}
use Rattle.script_text.specs.declared.faults.FaultKind.{FaultKind}
use Rattle.script_text.specs.declared.faults.FaultKind.TheVariants as kind
use Rattle.script_text.proofs.Cutting.{not_nil}
use Rattle.script_text.proofs.Table.{keyword_again, keyword_sound}
use Rattle.script_text.proofs.WholeLines.{from_second}

-- ---- the order of the kinds

of_rank : ℕ → FaultKind
of_rank r =
    cond (eqb r 0) kind.After (cond (eqb r 1) kind.Missing (cond (eqb r 2) kind.Cut (cond (eqb r 3) kind.Header (cond (eqb r 4) kind.Long
    (cond (eqb r 5) kind.TooMany (cond (eqb r 6) kind.Session (cond (eqb r 7) kind.Command kind.Fields)))))))

of_rank_again : (k : FaultKind) → of_rank (rank k) ≡ k
unfolding of_rank
of_rank_again kind.After = refl
of_rank_again kind.Missing = refl
of_rank_again kind.Cut = refl
of_rank_again kind.Header = refl
of_rank_again kind.Long = refl
of_rank_again kind.TooMany = refl
of_rank_again kind.Session = refl
of_rank_again kind.Command = refl
of_rank_again kind.Fields = refl

pub same_rank : (a b : FaultKind) → rank a ≡ rank b → a ≡ b
same_rank a b e = sym (of_rank_again a) ∙ ap of_rank e ∙ of_rank_again b

-- no kind below this rank holds
abbrev pub Clear : List ℕ → ℕ → ℕ → Type 0
Clear bytes n r = (other : FaultKind) → rank other < r → Holds other bytes n → ⊥

pub clear_none : (bytes : List ℕ) (n : ℕ) → Clear bytes n 0
clear_none bytes n other lt h = absurd (omega arith)

pub clear_next : (bytes : List ℕ) (n : ℕ) (k : FaultKind) → Clear bytes n (rank k) → (Holds k bytes n → ⊥) → Clear bytes n (suc (rank k))
clear_next bytes n k clear never other lt h =
    elim (cases_eq (rank other) (rank k)) [
      | inl e ↦ never (subst (λ (x : FaultKind). Holds x bytes n) (same_rank other k e) h)
      | inr ne ↦ clear other (omega arith) h
    ]

-- ---- where a line stands

-- the line behind n others, and the pieces behind it
pub record Place (bytes : List ℕ) (n : ℕ) (line : List ℕ) (behind : List (List ℕ)) : Type 0 where
  pub line_is : line_behind bytes n ≡ line
  pub count : length (pieces 10 bytes) ≡ n + 1 + length behind

pub place : (bytes : List ℕ) (before : List (List ℕ)) (line : List ℕ) (behind : List (List ℕ)) (n : ℕ) → pieces 10 bytes ≡ before ++ line ∷ behind → length before ≡ n → Place bytes n line behind
place bytes before line behind n p e =
    let at : get_or (before ++ line ∷ behind) n [] ≡ line = subst (λ (i : ℕ). get_or (before ++ line ∷ behind) i [] ≡ line) e (get_or-append_seam before line behind []) in
    record {
      line_is = ap (λ (ps : List (List ℕ)). get_or ps n []) p ∙ at;
      count = omega (arith, ap length p, length-append before (line ∷ behind), e);
    }

-- ---- the last piece

nil_or_not : (line : List ℕ) → (line ≡ []) ⊎ (line ≡ [] → ⊥)
nil_or_not [] = inl refl
nil_or_not (b ∷ bs) = inr (λ e. absurd cc)

last_some : (line : List ℕ) → (line ≡ [] → ⊥) → last_kind line ≡ kind.Cut
last_some [] some = absurd (some refl)
last_some (b ∷ bs) some = let t : eqb (length (b ∷ bs)) 0 ≡ false = ne_eqb _ _ (λ z. omega arith) in rw t refl

pub last_piece : (bytes : List ℕ) (n : ℕ) (line : List ℕ) → Place bytes n line [] → (Holds kind.After bytes n → ⊥) → IsFirstKind bytes n (last_kind line)
last_piece bytes n line at not_after =
    let open_end : (HasLf bytes n → ⊥) = λ lf. omega (arith, at.count, lf) in
    let one : Clear bytes n 1 = clear_next bytes n kind.After (clear_none bytes n) not_after in
    elim (nil_or_not line) [
      | inl e ↦ rw e record { holds = (open_end, at.line_is ∙ e); first = one }
      | inr some ↦ (
          let full : (line_behind bytes n ≡ [] → ⊥) = λ e. some (sym at.line_is ∙ e) in
          rw (last_some line some) record { holds = (open_end, full); first = clear_next bytes n kind.Missing one (λ h. full h.1) })
    ]

-- ---- a line with its LF

pub with_lf_clear : (bytes : List ℕ) (n : ℕ) (line next : List ℕ) (more : List (List ℕ)) → Place bytes n line (next ∷ more) → (Holds kind.After bytes n → ⊥) → Clear bytes n 3
with_lf_clear bytes n line next more at not_after =
    let lf : HasLf bytes n = omega (arith, at.count) in
    let one : Clear bytes n 1 = clear_next bytes n kind.After (clear_none bytes n) not_after in
    let two : Clear bytes n 2 = clear_next bytes n kind.Missing one (λ h. h.0 lf) in
    clear_next bytes n kind.Cut two (λ h. h.0 lf)

-- ---- the session

pub session_again : (line : List ℕ) → BeginsSession line → begins_session line ≡ true
session_again line b =
    let digit = decimal_digit b.session (omega (arith, b.is_session)) in
    let low : leb 49 (48 + b.session) ≡ true = le-leb _ _ (omega (arith, b.is_session.0)) in
    let high : leb (48 + b.session) 56 ≡ true = le-leb _ _ (omega (arith, b.is_session.1)) in
    let text : line ≡ (48 + b.session) ∷ 32 ∷ b.rest = b.is ∙ ap (λ (d : List ℕ). d ++ 32 ∷ b.rest) digit in
    rw (text, low, high) refl

pub session_of : (line : List ℕ) → begins_session line ≡ true → BeginsSession line
session_of line e =
    let s = and_parts _ _ e in
    let s2 = and_parts _ _ s.0 in
    let low : 49 ≤ get_or line 0 0 = leb-true _ _ s2.0 in
    let high : get_or line 0 0 ≤ 56 = leb-true _ _ s2.1 in
    let digit = decimal_digit (get_or line 0 0 - 48) (omega arith) in
    let same : 48 + (get_or line 0 0 - 48) ≡ get_or line 0 0 = omega arith in
    record {
      session = get_or line 0 0 - 48;
      is_session = (omega arith, omega arith);
      rest = drop 2 line;
      is = from_second line (eqb-true _ _ s.1) ∙ sym (ap (λ (d : List ℕ). d ++ 32 ∷ drop 2 line) (digit ∙ ap (λ (x : ℕ). x ∷ []) same));
    }

-- ---- the command

same_err : (f g : FaultKind) (A : Type 0) → let err : FaultKind → Result A FaultKind = (λ x. Err x) in err f ≡ err g → f ≡ g
same_err f g A e = cc

no_some : (k : Keyword) (r : Option Keyword) → r ≡ None → r ≡ Some k → ⊥
no_some k r e f = absurd cc

by_fields : (bytes : List ℕ) (n : ℕ) (k : Keyword) (o : Option (List Field)) (f : FaultKind) → Clear bytes n 8 → parts_or k o ≡ Err f → IsFirstKind bytes n f
by_fields bytes n k None f clear e = subst (λ (x : FaultKind). IsFirstKind bytes n x) (same_err kind.Fields f Parts e) record { holds = tt; first = clear }
by_fields bytes n k (Some fs) f clear e = absurd cc

by_keyword : (bytes : List ℕ) (n : ℕ) (w : Word) (ws : List Word) (r : Option Keyword) (f : FaultKind) → pieces 32 (drop 2 (line_behind bytes n)) ≡ w ∷ ws → Clear bytes n 7 → keyword_of w ≡ r → command_by ws r ≡ Err f → IsFirstKind bytes n f
by_keyword bytes n w ws None f p clear none e =
    let is : get_or (pieces 32 (drop 2 (line_behind bytes n))) 0 [] ≡ w = ap (λ (ps : List Word). get_or ps 0 []) p in
    subst (λ (x : FaultKind). IsFirstKind bytes n x) (same_err kind.Command f Parts e) record { holds = λ k has. no_some k (keyword_of w) none (ap keyword_of (sym is ∙ has) ∙ keyword_again k); first = clear }
by_keyword bytes n w ws (Some k) f p clear some e =
    let is : get_or (pieces 32 (drop 2 (line_behind bytes n))) 0 [] ≡ w = ap (λ (ps : List Word). get_or ps 0 []) p in
    let has : HasCommand (line_behind bytes n) k = is ∙ keyword_sound w k some in
    let eight : Clear bytes n 8 = clear_next bytes n kind.Command clear (λ h. h k has) in
    by_fields bytes n k (fields_at (slots k) ws) f eight e

by_words : (bytes : List ℕ) (n : ℕ) (ps : List Word) (f : FaultKind) → ps ≡ pieces 32 (drop 2 (line_behind bytes n)) → Clear bytes n 7 → command_at ps ≡ Err f → IsFirstKind bytes n f
by_words bytes n [] f is clear e = absurd (not_nil 32 (drop 2 (line_behind bytes n)) (sym is))
by_words bytes n (w ∷ ws) f is clear e = by_keyword bytes n w ws (keyword_of w) f (sym is) clear refl e

session_err : (s : ℕ) (r : Result Parts FaultKind) (f : FaultKind) → with_session s r ≡ Err f → r ≡ Err f
session_err s (Ok c) f e = absurd cc
session_err s (Err g) f e = ap (λ (x : FaultKind). err x) (same_err g f LineParts e)
  where
    err : FaultKind → Result Parts FaultKind
    err x = Err x

-- ---- the line

by_tests : (bytes : List ℕ) (k : ℕ) (line : List ℕ) (a b c : Bool) (f : FaultKind) → line_behind bytes (suc k) ≡ line → Clear bytes (suc k) 4 → ltb 2048 (length line) ≡ a → leb 2000 k ≡ b → not (begins_session line) ≡ c
    → cond a (Err kind.Long) (cond b (Err kind.TooMany) (cond c (Err kind.Session) (with_session (slice_index line 0 - 48) (command_at (pieces 32 (drop 2 line)))))) ≡ Err f → IsFirstKind bytes (suc k) f
by_tests bytes k line true b c f is clear long few session e =
    subst (λ (x : FaultKind). IsFirstKind bytes (suc k) x) (same_err kind.Long f LineParts e) record { holds = rw is (ltb-true _ _ long); first = clear }
by_tests bytes k line false true c f is clear long few session e =
    let short : length line ≤ 2048 = ltb-false _ _ long in
    let many : 2000 ≤ k = leb-true _ _ few in
    let five : Clear bytes (suc k) 5 = clear_next bytes (suc k) kind.Long clear (λ h. omega (arith, h, ap length is, short)) in
    subst (λ (x : FaultKind). IsFirstKind bytes (suc k) x) (same_err kind.TooMany f LineParts e) record { holds = omega arith; first = five }
by_tests bytes k line false false c f is clear long few session e =
    let short : length line ≤ 2048 = ltb-false _ _ long in
    let below : k < 2000 = leb-false _ _ few in
    let five : Clear bytes (suc k) 5 = clear_next bytes (suc k) kind.Long clear (λ h. omega (arith, h, ap length is, short)) in
    let six : Clear bytes (suc k) 6 = clear_next bytes (suc k) kind.TooMany five (λ h. omega (arith, h)) in
    by_session bytes k line c f is six session e
  where
    by_session : (bytes : List ℕ) (k : ℕ) (line : List ℕ) (c : Bool) (f : FaultKind) → line_behind bytes (suc k) ≡ line → Clear bytes (suc k) 6 → not (begins_session line) ≡ c
        → cond c (Err kind.Session) (with_session (slice_index line 0 - 48) (command_at (pieces 32 (drop 2 line)))) ≡ Err f → IsFirstKind bytes (suc k) f
    by_session bytes k line true f is clear session e =
        subst (λ (x : FaultKind). IsFirstKind bytes (suc k) x) (same_err kind.Session f LineParts e)
        record { holds = λ h. both_ways _ (not-true _ session) (session_again line (subst BeginsSession is h)); first = clear }
    by_session bytes k line false f is clear session e =
        let begins : BeginsSession (line_behind bytes (suc k)) = subst BeginsSession (sym is) (session_of line (not-false _ session)) in
        let seven : Clear bytes (suc k) 7 = clear_next bytes (suc k) kind.Session clear (λ h. h begins) in
        by_words bytes (suc k) (pieces 32 (drop 2 line)) f (ap (λ (x : List ℕ). pieces 32 (drop 2 x)) (sym is)) seven (session_err (slice_index line 0 - 48) (command_at (pieces 32 (drop 2 line))) f e)

-- a line behind k command lines that isn't read
pub line_kind : (bytes : List ℕ) (k : ℕ) (line next : List ℕ) (more : List (List ℕ)) (f : FaultKind) → Place bytes (suc k) line (next ∷ more) → (Holds kind.After bytes (suc k) → ⊥) → line_at k line ≡ Err f → IsFirstKind bytes (suc k) f
line_kind bytes k line next more f at not_after e =
    let three : Clear bytes (suc k) 3 = with_lf_clear bytes (suc k) line next more at not_after in
    let four : Clear bytes (suc k) 4 = clear_next bytes (suc k) kind.Header three (λ h. omega (arith, h)) in
    by_tests bytes k line (ltb 2048 (length line)) (leb 2000 k) (not (begins_session line)) f at.line_is four refl refl refl e

-- the first line, which isn't the header
pub header_kind : (bytes : List ℕ) (line next : List ℕ) (more : List (List ℕ)) → Place bytes 0 line (next ∷ more) → IsFirstKind bytes 0 kind.Header
header_kind bytes line next more at = record { holds = refl; first = with_lf_clear bytes 0 line next more at (λ h. omega (arith, h.0)) }
