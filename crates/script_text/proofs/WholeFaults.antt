-- Where reading stops, the bytes have that fault; and they have one.
use Rattle.std.proofs.Common.{◌≡◌, ℕ, zero, suc, ◌+◌, ◌-◌, ◌<◌, ◌≤◌, Bool, true, false, cond, List, [], ◌∷◌, ◌++◌, length, map, get_or, Result, Ok, Err, Option, Some, None, refl, sym, ap, subst, ◌∙◌, arith, inl, inr}
use Rattle.std.specs.Prelude.{codes, bytes_eq}
use Rattle.std.specs.List.{concat}
use Rattle.std.proofs.Math.Seq.{take-length}
use Rattle.std.proofs.lemmas.Bool.{both_ways, cases_eq}
use Rattle.std.proofs.lemmas.Slice.Eq.{bytes_eq-Decides}
use Rattle.std.proofs.lemmas.List.{append-nil, length-map}
use Rattle.script_text.specs.Pieces.{pieces}
use Rattle.script_text.specs.Scripts.{AreLines, IsScript, Spells, SpellsNone, line_text, script_texts, with_lf}
use Rattle.script_text.specs.Faults.{Begins, line_behind, Holds, rank, IsFirstKind, IsFault, IsCause}
use Rattle.script_text.specs.Reading.{LineParts, line_parts, line_at, body_pieces, fault_at, last_kind, header_stop, end_stop, line_stop, body_stop, Stops, AtHeader, Behind, Answers}
use Rattle.script_text.specs.declared.scripts.Line.{Line}
use Rattle.script_text.specs.declared.faults.FaultKind.{FaultKind}
use Rattle.script_text.specs.declared.faults.FaultKind.TheVariants as kind
use Rattle.script_text.specs.declared.faults.ScriptFault.{ScriptFault}
use Rattle.script_text.specs.declared.faults.ReadFault.{ReadFault}
use Rattle.script_text.specs.declared.faults.ReadFault.TheVariants as cause
use Rattle.script_text.proofs.Cutting.{not_nil}
use Rattle.script_text.proofs.WholeLines.{line_again}
use Rattle.script_text.proofs.Bytes.{command_lacks}
use Rattle.script_text.proofs.Loop.{other_line}
use Rattle.script_text.proofs.Texts.{spelled_pieces, not_end, session_small}
use Rattle.script_text.proofs.Reach.{begins_from, begins_pieces, Continues, behind_header, no_more, most, ended, cut_off, begins_front, begins_all, begins_nothing, nil_right}
use Rattle.script_text.proofs.FaultKinds.{Place, place, last_piece, line_kind, header_kind, clear_none, same_rank}

same_some : (f g : ScriptFault) → let some : ScriptFault → Option ScriptFault = (λ x. Some x) in some f ≡ some g → f ≡ g
same_some f g e = cc

heads : (v w : List ℕ) (a b : List (List ℕ)) → v ∷ a ≡ w ∷ b → v ≡ w
heads v w a b e = cc

tails : (v w : List ℕ) (a b : List (List ℕ)) → v ∷ a ≡ w ∷ b → a ≡ b
tails v w a b e = cc

-- ---- the first line

-- the bytes of a script begin with all its lines
whole : (bytes : List ℕ) (ls : List Line) → Spells bytes ls → Begins bytes (length (script_texts ls))
whole bytes ls s = record {
  lines = ls;
  script = s.script;
  within = omega arith;
  rest = [];
  is = s.text ∙ sym (append-nil (concat (map with_lf (script_texts ls)))) ∙ ap (λ (x : List (List ℕ)). concat (map with_lf x) ++ []) (sym (take-length (script_texts ls)));
}

at_header : (bytes : List ℕ) (k : FaultKind) → ((n : ℕ) → Begins bytes (suc n) → ⊥) → IsFirstKind bytes 0 k → IsFault bytes (fault_at 1 k)
at_header bytes k never first = record {
  none = λ ls s. never _ (whole bytes ls s);
  lines = 0;
  line = refl;
  begins = begins_nothing bytes;
  most = most_none never;
  kind = first;
}
  where
    most_none : {bytes : List ℕ} → ((n : ℕ) → Begins bytes (suc n) → ⊥) → (n : ℕ) → Begins bytes n → n ≤ 0
    most_none never zero b = omega arith
    most_none never (suc n) b = absurd (never n b)

by_header : (bytes : List ℕ) (line next : List ℕ) (more : List (List ℕ)) (b : Bool) (f : ScriptFault) → pieces 10 bytes ≡ line ∷ next ∷ more → bytes_eq line (codes "dunnart 1") ≡ b → cond b None (Some (fault_at 1 kind.Header)) ≡ Some f → IsFault bytes f
by_header bytes line next more true f p is e = absurd cc
by_header bytes line next more false f p is e =
    let at : Place bytes 0 line (next ∷ more) = place bytes [] line (next ∷ more) 0 p refl in
    let never : ((n : ℕ) → Begins bytes (suc n) → ⊥) = λ n b. (
    let q = begins_pieces bytes (suc n) b in
    let same : line ≡ codes "dunnart 1" = heads line (codes "dunnart 1") (next ∷ more) _ (sym p ∙ q.is) in
    both_ways _ is ((bytes_eq-Decides line (codes "dunnart 1")).1 same)) in
    subst (λ (x : ScriptFault). IsFault bytes x) (same_some (fault_at 1 kind.Header) f e) (at_header bytes kind.Header never (header_kind bytes line next more at))

header_fault : (bytes : List ℕ) (ps : List (List ℕ)) (f : ScriptFault) → pieces 10 bytes ≡ ps → header_stop ps ≡ Some f → IsFault bytes f
header_fault bytes [] f p e = absurd (not_nil 10 bytes p)
header_fault bytes (last ∷ []) f p e =
    let at : Place bytes 0 last [] = place bytes [] last [] 0 p refl in
    let never : ((n : ℕ) → Begins bytes (suc n) → ⊥) = λ n b. (
    let q = begins_pieces bytes (suc n) b in
    q.some (nil_right _ q.more (sym (tails last (codes "dunnart 1") [] _ (sym p ∙ q.is))))) in
    subst (λ (x : ScriptFault). IsFault bytes x) (same_some (fault_at 1 (last_kind last)) f e) (at_header bytes (last_kind last) never (last_piece bytes 0 last at (λ h. omega (arith, h.0))))
header_fault bytes (line ∷ next ∷ more) f p e = by_header bytes line next more (bytes_eq line (codes "dunnart 1")) f p refl e

-- ---- no script is spelled

some_body : (ls : List Line) → body_pieces ls ≡ [] → ⊥
some_body [] e = absurd cc
some_body (l ∷ ls) e = absurd cc

not_end_eq : (n : ℕ) (l : Line) → AreLines n (l ∷ []) → bytes_eq (line_text l) (codes "end") ≡ false
not_end_eq n l h = by_eq (bytes_eq (line_text l) (codes "end")) (λ e. not_end l (session_small n l h.0) ((bytes_eq-Decides (line_text l) (codes "end")).0 e))
  where
    by_eq : (b : Bool) → (b ≡ true → ⊥) → b ≡ false
    by_eq true never = absurd (never refl)
    by_eq false never = refl

-- the body of a script is read to its end
no_stop : (k : ℕ) (ls : List Line) → AreLines (k + 2) ls → k + length ls ≤ 2000 → body_stop k (body_pieces ls) ≡ None
no_stop k [] h le = refl
no_stop k (l ∷ ls) h le =
    let ok : line_at k (line_text l) ≡ Ok (line_parts l) = line_again k l (omega arith) h.0 record { is = command_lacks 32 (omega arith) l.command h.0.command } in
    other_line k (line_text l) (body_pieces ls) (some_body ls) (not_end_eq (k + 2) l (h.0, tt)) ∙ rw ok refl

none_some : (f : ScriptFault) (o : Option ScriptFault) → o ≡ None → o ≡ Some f → ⊥
none_some f o e g = absurd cc

none_behind : (k : ℕ) (front : List Line) (left : List (List ℕ)) (f : ScriptFault) (ls : List Line) → AreLines (k + 2) ls → k + length ls ≤ 2000 → AreLines (k + 2) front → body_pieces ls ≡ map line_text front ++ left → body_stop (k + length front) left ≡ Some f → ⊥
none_behind k [] left f ls are few front_are e stop =
    let z : k + 0 ≡ k = omega arith in
    none_some f (body_stop k (body_pieces ls)) (no_stop k ls are few) (ap (body_stop k) e ∙ subst (λ (i : ℕ). body_stop i left ≡ Some f) z stop)
none_behind k (g ∷ front) left f [] are few front_are e stop = not_end g (session_small (k + 2) g front_are.0) (sym (heads (codes "end") (line_text g) ([] ∷ []) (map line_text front ++ left) e))
none_behind k (g ∷ front) left f (l ∷ ls) are few front_are e stop =
    let n : k + 2 + 1 ≡ k + 1 + 2 = omega arith in
    let m : k + suc (length front) ≡ k + 1 + length front = omega arith in
    none_behind (k + 1) front left f ls (subst (λ (i : ℕ). AreLines i ls) n are.1) (omega arith) (subst (λ (i : ℕ). AreLines i front) n front_are.1)
    (tails (line_text l) (line_text g) (body_pieces ls) (map line_text front ++ left) e) (subst (λ (i : ℕ). body_stop i left ≡ Some f) m stop)

none_spelled : (bytes : List ℕ) (front : List Line) (left : List (List ℕ)) (f : ScriptFault) → IsScript front → pieces 10 bytes ≡ codes "dunnart 1" ∷ map line_text front ++ left → body_stop (length front) left ≡ Some f → SpellsNone bytes
none_spelled bytes front left f is p stop ls s =
    let z : length front ≡ 0 + length front = omega arith in
    none_behind 0 front left f ls s.script.are (omega (arith, s.script.few)) is.are
    (tails (codes "dunnart 1") (codes "dunnart 1") (body_pieces ls) (map line_text front ++ left) (sym (spelled_pieces bytes ls s) ∙ p)) (subst (λ (i : ℕ). body_stop i left ≡ Some f) z stop)

-- ---- how far scripts go

most_front : (bytes : List ℕ) (front : List Line) (left : List (List ℕ)) (good : ℕ) → IsScript front → pieces 10 bytes ≡ codes "dunnart 1" ∷ map line_text front ++ left → ((m : ℕ) → Continues (length front) left m → m ≤ good)
    → (n : ℕ) → Begins bytes n → n ≤ suc (length front) + good
most_front bytes front left good is p stuck zero b = omega arith
most_front bytes front left good is p stuck (suc n) b =
    let z : 0 + length front ≡ length front = omega arith in
    let c = behind_header (pieces 10 bytes) (map line_text front ++ left) n p (begins_pieces bytes (suc n) b) in
    let le = most 0 front left n good (λ m d. stuck m (subst (λ (i : ℕ). Continues i left m) z d)) is.are c in
    omega (arith, le)

-- ---- the line before

last_not_end : (n : ℕ) (l : Line) (ls : List Line) (left : List (List ℕ)) → AreLines n (l ∷ ls) → get_or (map line_text (l ∷ ls) ++ left) (length ls) [] ≡ codes "end" → ⊥
last_not_end n l [] left h e = not_end l (session_small n l h.0) e
last_not_end n l (m ∷ ls) left h e = last_not_end (n + 1) m ls left h.1 e

front_not_end : (front : List Line) (left : List (List ℕ)) → AreLines 2 front → get_or (codes "dunnart 1" ∷ map line_text front ++ left) (length front) [] ≡ codes "end" → ⊥
front_not_end [] left h e = absurd cc
front_not_end (l ∷ ls) left h e = last_not_end 2 l ls left h e

not_after : (bytes : List ℕ) (front : List Line) (left : List (List ℕ)) → IsScript front → pieces 10 bytes ≡ codes "dunnart 1" ∷ map line_text front ++ left → Holds kind.After bytes (suc (length front)) → ⊥
not_after bytes front left is p h =
    let z : suc (length front) - 1 ≡ length front = omega arith in
    front_not_end front left is.are (ap (λ (ps : List (List ℕ)). get_or ps (length front) []) (sym p) ∙ subst (λ (i : ℕ). line_behind bytes i ≡ codes "end") z h.1)

front_place : (bytes : List ℕ) (front : List Line) (line : List ℕ) (behind : List (List ℕ)) → pieces 10 bytes ≡ codes "dunnart 1" ∷ map line_text front ++ line ∷ behind → Place bytes (suc (length front)) line behind
front_place bytes front line behind p = place bytes (codes "dunnart 1" ∷ map line_text front) line behind (suc (length front)) p (omega (arith, length-map front line_text))

-- ---- behind the header

stop_err : (k : ℕ) (r : Result LineParts FaultKind) (f : ScriptFault) → line_stop k r ≡ Some f → (g : FaultKind) × (r ≡ Err g) × (fault_at (k + 2) g ≡ f)
stop_err k (Ok l) f e = absurd cc
stop_err k (Err g) f e = (g, refl, same_some (fault_at (k + 2) g) f e)

end_after : (k : ℕ) (next : List ℕ) (more : List (List ℕ)) (f : ScriptFault) → end_stop k (next ∷ more) ≡ Some f → fault_at (k + 3) kind.After ≡ f
end_after k [] [] f e = absurd cc
end_after k [] (q ∷ ps) f e = same_some (fault_at (k + 3) kind.After) f e
end_after k (b ∷ p) more f e = same_some (fault_at (k + 3) kind.After) f e

at_line : (bytes : List ℕ) (front : List Line) (line next : List ℕ) (more : List (List ℕ)) (b : Bool) (f : ScriptFault) → IsScript front → pieces 10 bytes ≡ codes "dunnart 1" ∷ map line_text front ++ line ∷ next ∷ more
    → SpellsNone bytes → bytes_eq line (codes "end") ≡ b → cond b (end_stop (length front) (next ∷ more)) (line_stop (length front) (line_at (length front) line)) ≡ Some f → IsFault bytes f
at_line bytes front line next more true f is p none is_end e =
    let l : line ≡ codes "end" = (bytes_eq-Decides line (codes "end")).0 is_end in
    let q : pieces 10 bytes ≡ codes "dunnart 1" ∷ map line_text front ++ codes "end" ∷ next ∷ more = p ∙ ap (λ (x : List ℕ). codes "dunnart 1" ∷ map line_text front ++ x ∷ next ∷ more) l in
    let at = front_place bytes front (codes "end") (next ∷ more) q in
    let z : suc (length front) ≡ suc (suc (length front)) - 1 = omega arith in
    let far = most_front bytes front (codes "end" ∷ next ∷ more) 1 is q (λ m c. ended (length front) (next ∷ more) m c) in
    subst (λ (x : ScriptFault). IsFault bytes x) (end_after (length front) next more f e) record {
      none = none;
      lines = suc (suc (length front));
      line = omega arith;
      begins = begins_from bytes (suc (suc (length front))) (begins_all (pieces 10 bytes) (next ∷ more) front is (λ e2. absurd cc) q);
      most = λ n b. omega (arith, far n b);
      kind = record { holds = (omega arith, subst (λ (i : ℕ). line_behind bytes i ≡ codes "end") z at.line_is); first = clear_none bytes (suc (suc (length front))) };
    }
at_line bytes front line next more false f is p none is_end e =
    let s = stop_err (length front) (line_at (length front) line) f e in
    let at = front_place bytes front line (next ∷ more) p in
    let far = most_front bytes front (line ∷ next ∷ more) 0 is p (λ m c. let no : m ≡ 0 = no_more (length front) line (next ∷ more) m s.0 is_end s.1 c in omega arith) in
    subst (λ (x : ScriptFault). IsFault bytes x) s.2 record {
      none = none;
      lines = suc (length front);
      line = omega arith;
      begins = begins_from bytes (suc (length front)) (begins_front (pieces 10 bytes) (line ∷ next ∷ more) front is (λ e2. absurd cc) p);
      most = λ n b. omega (arith, far n b);
      kind = line_kind bytes (length front) line next more s.0 at (not_after bytes front (line ∷ next ∷ more) is p) s.1;
    }

behind_fault : (bytes : List ℕ) (front : List Line) (left : List (List ℕ)) (f : ScriptFault) → IsScript front → (left ≡ [] → ⊥) → pieces 10 bytes ≡ codes "dunnart 1" ∷ map line_text front ++ left → body_stop (length front) left ≡ Some f → IsFault bytes f
behind_fault bytes front [] f is some p stop = absurd (some refl)
behind_fault bytes front (last ∷ []) f is some p stop =
    let at = front_place bytes front last [] p in
    let far = most_front bytes front (last ∷ []) 0 is p (λ m c. let no : m ≡ 0 = cut_off (length front) last m c in omega arith) in
    subst (λ (x : ScriptFault). IsFault bytes x) (same_some (fault_at (length front + 2) (last_kind last)) f stop) record {
      none = none_spelled bytes front (last ∷ []) f is p stop;
      lines = suc (length front);
      line = omega arith;
      begins = begins_from bytes (suc (length front)) (begins_front (pieces 10 bytes) (last ∷ []) front is some p);
      most = λ n b. omega (arith, far n b);
      kind = last_piece bytes (suc (length front)) last at (not_after bytes front (last ∷ []) is p);
    }
behind_fault bytes front (line ∷ next ∷ more) f is some p stop =
    at_line bytes front line next more (bytes_eq line (codes "end")) f is p (none_spelled bytes front (line ∷ next ∷ more) f is p stop) refl stop

-- where reading stops, the bytes have that fault
pub fault_sound : (bytes : List ℕ) (f : ScriptFault) → Stops (pieces 10 bytes) f → IsFault bytes f
fault_sound bytes f (AtHeader e) = header_fault bytes (pieces 10 bytes) f refl e
fault_sound bytes f (Behind body p s) = behind_fault bytes s.front s.left f record { few = s.few; are = s.are } s.some (p ∙ ap (λ (x : List (List ℕ)). codes "dunnart 1" ∷ x) s.is) s.stop

pub cause_sound : (bytes : List ℕ) (e : ReadFault) → Answers (λ f. Stops (pieces 10 bytes) f) e → IsCause bytes e
cause_sound bytes cause.Memory h = tt
cause_sound bytes (cause.Fault f) h = fault_sound bytes f h

pub only_memory : (bytes : List ℕ) (e : ReadFault) → Answers (λ f. Stops (pieces 10 bytes) f) e → (ls : List Line) → Spells bytes ls → e ≡ cause.Memory
only_memory bytes cause.Memory h ls s = refl
only_memory bytes (cause.Fault f) h ls s = absurd ((fault_sound bytes f h).none ls s)

-- ---- bytes have one fault

one_kind : (bytes : List ℕ) (n : ℕ) (a b : FaultKind) → IsFirstKind bytes n a → IsFirstKind bytes n b → a ≡ b
one_kind bytes n a b fa fb = same_rank a b (by_order (rank a) (rank b) (λ lt. fb.first a lt fa.holds) (λ lt. fa.first b lt fb.holds))
  where
    by_order : (x y : ℕ) → (x < y → ⊥) → (y < x → ⊥) → x ≡ y
    by_order x y below above = elim (cases_eq x y) [ inl e ↦ e | inr ne ↦ (let le : y ≤ x = omega (arith, below) in absurd (above (omega arith))) ]

same_fault : (a b : ScriptFault) → a.line ≡ b.line → a.kind ≡ b.kind → a ≡ b
same_fault a b l k = by_parts a.line b.line a.kind b.kind l k
  where
    by_parts : (m n : ℕ) (j k : FaultKind) → m ≡ n → j ≡ k → fault_at m j ≡ fault_at n k
    by_parts m n j k l e = rw (l, e) refl

pub one_fault : (bytes : List ℕ) (a b : ScriptFault) → IsFault bytes a → IsFault bytes b → a ≡ b
one_fault bytes a b fa fb =
    let below = fb.most fa.lines fa.begins in
    let above = fa.most fb.lines fb.begins in
    let n : fb.lines ≡ fa.lines = omega arith in
    same_fault a b (omega (arith, fa.line, fb.line)) (one_kind bytes fa.lines a.kind b.kind fa.kind (subst (λ (i : ℕ). IsFirstKind bytes i b.kind) n fb.kind))
