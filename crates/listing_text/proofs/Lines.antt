-- Lines of words, and the lists that give them.
use Rattle.std.proofs.Common.{◌≡◌, ℕ, ◌+◌, ◌<◌, ℤ, List, [], ◌∷◌, ◌++◌, length, drop, map, get_or, refl, sym, ap, ◌∙◌, append_assoc, arith, length-append, eq-eqb, ne_eqb}
use Rattle.std.specs.Prelude.{codes, decimal, ◌==◌, true, false, cond, slice_get, Some, pos, Bool, Result, Ok, Err, OnOk}
use Rattle.std.specs.Fmt.{signed_decimal}
use Rattle.std.specs.Ordering.{int_eq}
use Rattle.std.specs.Bool.{Decides}
use Rattle.std.proofs.lemmas.Bool.Decides.{Decides-int_eq}
use Rattle.std.proofs.lemmas.List.{append-nil, drop_more}
use Rattle.std.proofs.lemmas.Option.{get_or_from_slice_get, slice_get_within}
use Rattle.units.specs.declared.geometry.Axis.{Axis}
use Rattle.scene_model.specs.declared.variables.Variable.{Variable}
use Rattle.cycle_test.specs.declared.arc.CycleArc.{CycleArc}
use Rattle.frac128.specs.Fraction.{Fraction}
use Rattle.script_text.specs.Words.{Word, spaced, behind}
use Rattle.script_text.specs.Commands.{command_words}
use Rattle.script_text.specs.declared.scripts.Line.{Line}
use Rattle.doc_book.specs.declared.replies.Reply.{Reply}
use Rattle.doc_book.specs.declared.entries.Entry.{Entry}
use Rattle.script_text.specs.Grammar.{axis_word}
use Rattle.listing_text.proofs.Elements.{rest_of}
use Rattle.doc_book.specs.Listing.{arc_word, text_line, text_lines, variable_word, fraction_word, place_lines, multiplier_lines, reply_lines, reply_words, session_lines, entry_lines, sessions_lines, listing_text}

pub text_lines-append : (ls ms : List (List Word)) → text_lines (ls ++ ms) ≡ text_lines ls ++ text_lines ms
text_lines-append [] ms = refl
text_lines-append (l ∷ ls) ms = ap (λ bytes. text_line l ++ bytes) (text_lines-append ls ms) ∙ sym (append_assoc (text_line l) (text_lines ls) (text_lines ms))

-- a line has its LF
pub some_line : (words : List Word) (more : List ℕ) → 0 < length (text_line words ++ more)
some_line words more =
    let count = length-append (text_line words) more in
    let first = length-append (spaced words) (10 ∷ []) in
    omega (arith, count, first)

pub spaced_behind : (w : Word) (ws : List Word) → spaced (w ∷ ws) ≡ w ++ behind ws
spaced_behind w [] = sym (append-nil w)
spaced_behind w (v ∷ ws) = ap (λ bytes. w ++ 32 ∷ bytes) (spaced_behind v ws)

pub behind-append : (vs ws : List Word) → behind (vs ++ ws) ≡ behind vs ++ behind ws
behind-append [] ws = refl
behind-append (v ∷ vs) ws = ap (λ bytes. 32 ∷ v ++ bytes) (behind-append vs ws) ∙ ap (λ bytes. 32 ∷ bytes) (sym (append_assoc v (behind vs) (behind ws)))

-- a space and words divided by one space
pub behind_spaced : (w : Word) (ws : List Word) → 32 ∷ spaced (w ∷ ws) ≡ behind (w ∷ ws)
behind_spaced w ws = ap (λ bytes. 32 ∷ bytes) (spaced_behind w ws)

-- a line that is made from left to right
pub made_line : (t₀ t₁ t₂ t₃ t₄ t₅ : List ℕ) (a b c : Word) (ws : List Word) → t₁ ≡ t₀ ++ a → t₂ ≡ t₁ ++ 32 ∷ b → t₃ ≡ t₂ ++ 32 ∷ c → t₄ ≡ t₃ ++ behind ws → t₅ ≡ t₄ ++ 10 ∷ []
    → t₅ ≡ t₀ ++ text_line (a ∷ b ∷ c ∷ ws)
made_line t₀ t₁ t₂ t₃ t₄ t₅ a b c ws e₁ e₂ e₃ e₄ e₅ =
    rw (spaced_behind a (b ∷ c ∷ ws), e₅, e₄, e₃, e₂, e₁) (simp append_assoc refl)

-- two lists of words, with a word between them
pub made_words : (t₂ t₃ t₄ t₅ : List ℕ) (c : Word) (cs : List Word) (q : Word) (rs : List Word)
    → t₃ ≡ t₂ ++ 32 ∷ spaced (c ∷ cs) → t₄ ≡ t₃ ++ 32 ∷ q → t₅ ≡ t₄ ++ behind rs → t₅ ≡ t₂ ++ behind (c ∷ (cs ++ q ∷ rs))
made_words t₂ t₃ t₄ t₅ c cs q rs e₃ e₄ e₅ =
    e₅ ∙ ap (λ t. t ++ behind rs) (e₄ ∙ ap (λ t. t ++ 32 ∷ q) e₃)
    ∙ append_assoc (t₂ ++ 32 ∷ spaced (c ∷ cs)) (32 ∷ q) (behind rs)
    ∙ append_assoc t₂ (32 ∷ spaced (c ∷ cs)) (behind (q ∷ rs))
    ∙ ap (λ bytes. t₂ ++ bytes) (ap (λ bytes. bytes ++ behind (q ∷ rs)) (behind_spaced c cs) ∙ sym (behind-append (c ∷ cs) (q ∷ rs)))

-- three lists of words, one behind the other
pub made_behind : {A B : Type 0} (r : Result A B) (t₀ t₁ t₂ t₃ : List ℕ) (us vs ws : List Word)
    → t₁ ≡ t₀ ++ behind us → t₂ ≡ t₁ ++ behind vs → OnOk r (t₃ ≡ t₂ ++ behind ws) → OnOk r (t₃ ≡ t₀ ++ behind (us ++ (vs ++ ws)))
made_behind (Ok a) t₀ t₁ t₂ t₃ us vs ws e₁ e₂ e₃ = rw (behind-append us (vs ++ ws), behind-append vs ws, e₃, e₂, e₁) (simp append_assoc refl)
made_behind (Err b) t₀ t₁ t₂ t₃ us vs ws e₁ e₂ e₃ = tt

-- the line of a reply is made from left to right
pub made_reply : (t₁ t₂ t₅ t₆ : List ℕ) (a b : Word) (ws : List Word) → t₁ ≡ a → t₂ ≡ t₁ ++ 32 ∷ b → t₅ ≡ t₂ ++ behind ws → t₆ ≡ t₅ ++ 10 ∷ []
    → t₆ ≡ text_line (a ∷ b ∷ ws)
made_reply t₁ t₂ t₅ t₆ a b ws e₁ e₂ e₅ e₆ = rw (spaced_behind a (b ∷ ws), e₆, e₅, e₂, e₁) (simp append_assoc refl)

-- ---- the lines of the variables of an axis

pub place_lines_step : (axis : Axis) (vs : List Variable) (ds : List ℤ) (ps : List Fraction) (v : Variable) (d : ℤ) (p : Fraction) (vs' : List Variable) (ds' : List ℤ) (ps' : List Fraction)
    → vs ≡ v ∷ vs' → ds ≡ d ∷ ds' → ps ≡ p ∷ ps'
    → text_lines (place_lines axis vs ds ps) ≡ text_line (axis_word axis ∷ variable_word v.name ∷ signed_decimal d ∷ fraction_word p ∷ []) ++ text_lines (place_lines axis vs' ds' ps')
place_lines_step axis vs ds ps v d p vs' ds' ps' a b c = rw (a, b, c) refl

-- the lines from a variable on
pub places_more : (axis : Axis) (vs : List Variable) (ds : List ℤ) (ps : List Fraction) (k at : ℕ) (v : Variable) (p : Fraction)
    → at ≡ k → slice_get vs k ≡ Some v → at < length ds → at < length ps → p ≡ get_or ps at p
    → text_lines (place_lines axis (drop k vs) (drop k ds) (drop k ps))
    ≡ text_line (axis_word axis ∷ variable_word v.name ∷ signed_decimal (get_or ds at (pos 0)) ∷ fraction_word p ∷ [])
    ++ text_lines (place_lines axis (drop (k + 1) vs) (drop (k + 1) ds) (drop (k + 1) ps))
places_more axis vs ds ps k at v p same here on_d on_p is =
    let a : drop k vs ≡ v ∷ drop (k + 1) vs = rest_of vs k v (slice_get_within vs k v here) (sym (get_or_from_slice_get vs k v v here)) in
    let b : drop k ds ≡ get_or ds at (pos 0) ∷ drop (k + 1) ds = drop_more ds k (pos 0) (omega (arith, same, on_d)) ∙ ap (λ n. get_or ds n (pos 0) ∷ drop (k + 1) ds) (sym same) in
    let c : drop k ps ≡ p ∷ drop (k + 1) ps = rest_of ps k p (omega (arith, same, on_p)) (is ∙ ap (λ n. get_or ps n p) same) in
    place_lines_step axis (drop k vs) (drop k ds) (drop k ps) v (get_or ds at (pos 0)) p (drop (k + 1) vs) (drop (k + 1) ds) (drop (k + 1) ps) a b c

-- ---- the lines of the multipliers of an axis

-- a multiplier that isn't 0 has a line
pub multipliers_more : (axis : Axis) (ms : List Fraction) (k : ℕ) (m : Fraction) → k < length ms → m ≡ get_or ms k m → (m.num ≡ pos 0 → ⊥)
    → text_lines (multiplier_lines axis k (drop k ms))
    ≡ text_line (axis_word axis ∷ (35 ∷ decimal k) ∷ fraction_word m ∷ []) ++ text_lines (multiplier_lines axis (k + 1) (drop (k + 1) ms))
multipliers_more axis ms k m below is other = ap (λ fs. text_lines (multiplier_lines axis k fs)) (rest_of ms k m below is) ∙ ap text_lines shown
  where
    int_eq-false : (z : ℤ) → (z ≡ pos 0 → ⊥) → int_eq z (pos 0) ≡ false
    int_eq-false z other = by (int_eq z (pos 0)) (Decides-int_eq z (pos 0))
      where
        by : (b : Bool) → Decides b (z ≡ pos 0) → b ≡ false
        by true d = absurd (other (d.0 refl))
        by false d = refl

    shown : multiplier_lines axis k (m ∷ drop (k + 1) ms) ≡ (axis_word axis ∷ (35 ∷ decimal k) ∷ fraction_word m ∷ []) ∷ multiplier_lines axis (k + 1) (drop (k + 1) ms)
    shown = ap (λ b. cond b (multiplier_lines axis (k + 1) (drop (k + 1) ms)) ((axis_word axis ∷ (35 ∷ decimal k) ∷ fraction_word m ∷ []) ∷ multiplier_lines axis (k + 1) (drop (k + 1) ms))) (int_eq-false m.num other)

-- the arcs of a cycle that are left begin with the next
pub arcs_more : (arcs : List CycleArc) (k : ℕ) (out : CycleArc) → k < length arcs
    → behind (map arc_word (drop k arcs)) ≡ 32 ∷ arc_word (get_or arcs k out) ++ behind (map arc_word (drop (k + 1) arcs))
arcs_more arcs k out below = ap (λ (left : List CycleArc). behind (map arc_word left)) (drop_more arcs k out below)

-- a text grows by a line of the rest
pub grows : (text text' line rest rest' whole : List ℕ) → text' ≡ text ++ line → rest ≡ line ++ rest' → text ++ rest ≡ whole → text' ++ rest' ≡ whole
grows text text' line rest rest' whole grown split so_far =
    ap (λ t. t ++ rest') grown ∙ append_assoc text line rest' ∙ ap (λ bytes. text ++ bytes) (sym split) ∙ so_far

-- nothing is left
pub is_whole : (text rest whole : List ℕ) → rest ≡ [] → text ++ rest ≡ whole → text ≡ whole
is_whole text rest whole none so_far = sym (append-nil text) ∙ ap (λ bytes. text ++ bytes) (sym none) ∙ so_far

-- ---- the lines of the replies to a session's lines

pub reply_lines_step : (session : ℕ) (ls : List Line) (rs : List Reply) (l : Line) (r : Reply) (ls' : List Line) (rs' : List Reply)
    → ls ≡ l ∷ ls' → rs ≡ r ∷ rs' → l.session ≡ session
    → text_lines (reply_lines session (session_lines session ls) rs)
    ≡ text_line (decimal session ∷ decimal l.number ∷ (command_words l.command ++ codes "=" ∷ reply_words r)) ++ text_lines (reply_lines session (session_lines session ls') rs')
reply_lines_step session ls rs l r ls' rs' a b is = let same : (l.session == session) ≡ true = eq-eqb l.session session is in rw (a, b, same) refl

pub reply_lines_other : (session : ℕ) (ls : List Line) (rs : List Reply) (l : Line) (ls' : List Line)
    → ls ≡ l ∷ ls' → (l.session ≡ session → ⊥)
    → text_lines (reply_lines session (session_lines session ls) rs) ≡ text_lines (reply_lines session (session_lines session ls') rs)
reply_lines_other session ls rs l ls' a other = let differ : (l.session == session) ≡ false = ne_eqb l.session session other in rw (a, differ) refl

-- ---- the parts of a listing

pub listing_parts : (script : List Line) (h : List Entry) (replies : List (List Reply))
    → listing_text script h replies
    ≡ codes "listing 1\n" ++ (text_lines (entry_lines [] 0 h) ++ (codes "replies\n" ++ (text_lines (sessions_lines 1 script replies) ++ codes "done\n")))
listing_parts script h replies =
    let entries = entry_lines [] 0 h in
    let below = sessions_lines 1 script replies in
    ap (λ bytes. codes "listing 1\n" ++ bytes)
    (text_lines-append (entries ++ (codes "replies" ∷ []) ∷ below) ((codes "done" ∷ []) ∷ [])
    ∙ ap (λ bytes. bytes ++ codes "done\n") (text_lines-append entries ((codes "replies" ∷ []) ∷ below))
    ∙ append_assoc (text_lines entries) (text_lines ((codes "replies" ∷ []) ∷ below)) (codes "done\n"))
