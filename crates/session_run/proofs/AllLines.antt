-- The lines of a session that are played at a desk.
use Rattle.std.proofs.Common.{◌≡◌, ℕ, ◌+◌, ◌<◌, ◌≤◌, ◌^◌, List, [], ◌∷◌, ◌++◌, Bool, true, false, cond, if◌then◌else◌, length, take, get_or, count_by, refl, ap, sym, ◌∙◌, subst, arith, append_assoc, ◌==◌, ◌≢◌, eq-eqb, ne_eqb}
use Rattle.std.proofs.lemmas.Grind.{common_steps}
use Rattle.std.proofs.lemmas.List.{append-nil, length-append, take_more}
use Rattle.std.proofs.lemmas.List.Elements.{filter-append}
use Rattle.std.proofs.lemmas.List.Sums.{sum_by-append, count_by-le-length}
use Rattle.script_text.specs.declared.scripts.Line.{Line}
use Rattle.doc_book.specs.declared.entries.Entry.{Entry}
use Rattle.doc_book.specs.declared.replies.Reply.{Reply}
use Rattle.doc_book.specs.declared.told.Told.{Told}
use Rattle.doc_book.specs.Desks.{Standing}
use Rattle.doc_book.specs.Listing.{session_lines}
use Rattle.doc_book.specs.Replies.{IsRightReply, AreRightReplies, made_places, from_of, after_of}
use Rattle.doc_book.specs.Turns.{counted, untold}
use Rattle.doc_book.proofs.Later.{AreRightReplies-append}
use Rattle.doc_book.proofs.Running.{made_places-append}
use Rattle.session_run.specs.AtDesk.{is_stale, IsKeptAt, IsRepliedAt, IsPlayedAt}
use Rattle.session_run.proofs.Elements.{all-push, all-then}
use Rattle.session_run.proofs.OneLine.{prefix-self, prefix-length, kept-then, right_below}

-- ---- lists

-- how many entries a caller has seen after all replies
abbrev pub last_after : ℕ → List Reply → ℕ
last_after seen [] = seen
last_after seen (r ∷ rs) = last_after (after_of r) rs

last_after-push : (seen : ℕ) (rs : List Reply) (r : Reply) → last_after seen (rs ++ r ∷ []) ≡ after_of r
last_after-push seen [] r = refl
last_after-push seen (x ∷ rs) r = last_after-push (after_of x) rs r

AreRightReplies-push : (h : List Entry) (budget who seen : ℕ) (lines : List Line) (rs : List Reply) (line : Line) (r : Reply) → AreRightReplies h budget who seen lines rs
    → IsRightReply h budget who (last_after seen rs) line r → last_after seen rs ≤ from_of r → AreRightReplies h budget who seen (lines ++ line ∷ []) (rs ++ r ∷ [])
AreRightReplies-push h budget who seen [] [] line r are right le = (right, le, tt)
AreRightReplies-push h budget who seen [] (x ∷ xs) line r are right le = absurd are
AreRightReplies-push h budget who seen (l ∷ ls) [] line r are right le = absurd are
AreRightReplies-push h budget who seen (l ∷ ls) (x ∷ xs) line r are right le =
    (are.0, are.1, AreRightReplies-push h budget who (after_of x) ls xs line r are.2 right le)

counted_at : (b : Bool) (n : ℕ) → n + 1 < 2 ^ 64 → (if b then counted n else n) ≡ n + (if b then 1 else 0)
counted_at true n short = omega (arith, short)
counted_at false n short = omega arith

-- a count of stale replies that is far from its last value
count-push : (rs : List Reply) (r : Reply) → length rs + 1 < 2 ^ 64 → (if is_stale r then counted (count_by is_stale rs) else count_by is_stale rs) ≡ count_by is_stale (rs ++ r ∷ [])
count-push rs r short =
    let few = count_by-le-length is_stale rs in
    let more = sum_by-append (λ (x : Reply). if is_stale x then 1 else 0) rs (r ∷ []) in
    let one : count_by is_stale (r ∷ []) ≡ (if is_stale r then 1 else 0) = grind (arith, common_steps) in
    let at = counted_at (is_stale r) (count_by is_stale rs) (omega (arith, few, short)) in
    omega (arith, at, more, one)

-- the lines of a session, with one line more
session_lines-push : (who : ℕ) (ls : List Line) (l : Line) → session_lines who (ls ++ l ∷ []) ≡ session_lines who ls ++ cond (l.session == who) (l ∷ []) []
session_lines-push who ls l = filter-append (λ (x : Line). x.session == who) ls (l ∷ [])

session_lines-this : (who : ℕ) (lines : List Line) (i : ℕ) (l : Line) → i < length lines → l ≡ get_or lines i l → (l.session == who) ≡ true
    → session_lines who (take (i + 1) lines) ≡ session_lines who (take i lines) ++ l ∷ []
session_lines-this who lines i l within at this =
    ap (session_lines who) (take_more lines i l within ∙ ap (λ (x : Line). take i lines ++ x ∷ []) (sym at))
    ∙ session_lines-push who (take i lines) l
    ∙ ap (λ (b : Bool). session_lines who (take i lines) ++ cond b (l ∷ []) []) this

session_lines-other : (who : ℕ) (lines : List Line) (i : ℕ) (l : Line) → i < length lines → l ≡ get_or lines i l → (l.session == who) ≡ false
    → session_lines who (take (i + 1) lines) ≡ session_lines who (take i lines)
session_lines-other who lines i l within at other =
    ap (session_lines who) (take_more lines i l within ∙ ap (λ (x : Line). take i lines ++ x ∷ []) (sym at))
    ∙ session_lines-push who (take i lines) l
    ∙ ap (λ (b : Bool). session_lines who (take i lines) ++ cond b (l ∷ []) []) other
    ∙ append-nil (session_lines who (take i lines))

-- ---- the lines so far

-- The lines of a session among the first ones, so many, were played, and all that the replies show was seen.
pub record IsPlaying (a b : Standing) (who : ℕ) (lines : List Line) (count : ℕ) (rs : List Reply) : Type 0 where
  pub played : IsPlayedAt a b (session_lines who (take count lines)) rs
  pub low : last_after (length a.seen) rs ≤ length b.seen
  pub few : length rs ≤ count

-- what was played keeps what was seen
pub played_kept : (a b : Standing) (lines : List Line) (rs : List Reply) → IsPlayedAt a b lines rs → IsKeptAt a b
played_kept a b lines rs p = record { same = p.same; begins = p.begins; own = (made_places rs, sym p.own) }

-- no line was played
pub playing-none : (a : Standing) (who : ℕ) (lines : List Line) (rs : List Reply) → a.told ≡ untold → rs ≡ [] → IsPlaying a a who lines 0 rs
playing-none a who lines rs told none = subst (IsPlaying a a who lines 0) (sym none) (record {
  played = record {
    same = record { who = refl; budget = refl; loan = refl };
    begins = prefix-self a.seen;
    own = sym (append-nil a.own);
    right = tt;
    seen = tt;
    stale = ap (λ (t : Told). t.stale) told;
    job = ap (λ (t : Told). t.job) told;
  };
  low = omega arith;
  few = omega arith;
})

played-push : (a b c : Standing) (lines : List Line) (rs : List Reply) (line : Line) (r : Reply) → IsPlayedAt a b lines rs → last_after (length a.seen) rs ≤ length b.seen
    → length rs + 1 < 2 ^ 64 → IsKeptAt b c → IsRepliedAt b c line r → IsPlayedAt a c (lines ++ line ∷ []) (rs ++ r ∷ [])
played-push a b c lines rs line r p low short kept next =
    let both = kept-then a b c (played_kept a b lines rs p) kept in
    let longer = prefix-length b.seen c.seen kept.begins in
    let older : AreRightReplies c.seen b.budget b.who (length a.seen) lines rs =
    subst (λ (h : List Entry). AreRightReplies h b.budget b.who (length a.seen) lines rs) kept.begins.1
    (AreRightReplies-append b.seen kept.begins.0 b.budget b.who (length a.seen) lines rs p.right) in
    let here : AreRightReplies c.seen c.budget c.who (length a.seen) lines rs =
    subst (λ (w : ℕ). AreRightReplies c.seen c.budget w (length a.seen) lines rs) (sym kept.same.who)
    (subst (λ (n : ℕ). AreRightReplies c.seen n b.who (length a.seen) lines rs) (sym kept.same.budget) older) in
    record {
      same = both.same;
      begins = both.begins;
      own =
          next.own ∙ ap (λ (ps : List ℕ). ps ++ made_places (r ∷ [])) p.own ∙ append_assoc a.own (made_places rs) (made_places (r ∷ []))
          ∙ ap (λ (ps : List ℕ). a.own ++ ps) (sym (made_places-append rs (r ∷ [])));
      right = AreRightReplies-push c.seen c.budget c.who (length a.seen) lines rs line r here
          (right_below c.seen c.budget c.who (last_after (length a.seen) rs) (length b.seen) line r low next.right) (omega (arith, low, next.from));
      seen = all-push (λ (x : Reply). after_of x ≤ length c.seen) rs r
          (all-then (λ (x : Reply). after_of x ≤ length b.seen) (λ (x : Reply). after_of x ≤ length c.seen) rs (λ x le. omega (arith, le, longer)) p.seen) next.seen;
      stale = next.stale ∙ ap (λ (n : ℕ). if is_stale r then counted n else n) p.stale ∙ count-push rs r short;
      job = next.job;
    }

-- a line of the session was played after those before it
pub playing-this : (a b c : Standing) (who : ℕ) (lines : List Line) (i : ℕ) (rs after : List Reply) (line : Line) (r : Reply) → IsPlaying a b who lines i rs
    → i < length lines → length lines < 2 ^ 64 → line ≡ get_or lines i line → line.session ≡ who → IsKeptAt b c → IsRepliedAt b c line r → after ≡ rs ++ r ∷ []
    → IsPlaying a c who lines (i + 1) after
playing-this a b c who lines i rs after line r p within short at this kept next grown =
    subst (IsPlaying a c who lines (i + 1)) (sym grown) (record {
      played = subst (λ (ls : List Line). IsPlayedAt a c ls (rs ++ r ∷ [])) (sym (session_lines-this who lines i line within at (eq-eqb line.session who this)))
          (played-push a b c (session_lines who (take i lines)) rs line r p.played p.low (omega (arith, p.few, within, short)) kept next);
      low = let last = last_after-push (length a.seen) rs r in omega (arith, last, next.seen);
      few = let count = length-append rs (r ∷ []) in omega (arith, p.few, count);
    })

-- a line of another session was passed over
pub playing-other : (a b : Standing) (who : ℕ) (lines : List Line) (i : ℕ) (rs : List Reply) (line : Line) → IsPlaying a b who lines i rs
    → i < length lines → line ≡ get_or lines i line → line.session ≢ who → IsPlaying a b who lines (i + 1) rs
playing-other a b who lines i rs line p within at other = record {
  played = subst (λ (ls : List Line). IsPlayedAt a b ls rs) (sym (session_lines-other who lines i line within at (ne_eqb line.session who other))) p.played;
  low = p.low;
  few = omega (arith, p.few);
}
