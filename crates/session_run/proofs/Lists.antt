-- The lists of replies of all sessions.
use Rattle.std.proofs.Common.{◌≡◌, ◌≢◌, ℕ, zero, suc, ◌+◌, ◌-◌, ◌<◌, ◌≤◌, List, [], ◌∷◌, ◌++◌, cond, Bool, true, false, length, get_or, refl, ap, sym, ◌∙◌, subst, arith, ◌==◌, slice_set, eq-eqb, ne_eqb}
use Rattle.std.specs.Prelude.{replicate}
use Rattle.std.proofs.lemmas.List.{append-nil}
use Rattle.script_text.specs.declared.scripts.Line.{Line}
use Rattle.doc_book.specs.declared.replies.Reply.{Reply}
use Rattle.doc_book.specs.Plays.{session_replies}
use Rattle.session_run.specs.Alone.{IsOfSession, with_reply}
use Rattle.session_run.specs.Sessions.{ForSessions, AreBySession}

-- ---- all sessions

-- what holds for each session, and what follows from it
pub ForSessions-then : (P Q : ℕ → List Reply → Type 0) (n : ℕ) (lists : List (List Reply)) → ((t : ℕ) (rs : List Reply) → n ≤ t → P t rs → Q t rs) → ForSessions n P lists → ForSessions n Q lists
ForSessions-then P Q n [] step all = tt
ForSessions-then P Q n (rs ∷ more) step all = (step n rs (omega arith) all.0, ForSessions-then P Q (n + 1) more (λ t xs le p. step t xs (omega (arith, le)) p) all.1)

-- one list is replaced
ForSessions-set : (P Q : ℕ → List Reply → Type 0) (s n i : ℕ) (lists : List (List Reply)) (new : List Reply) → s ≡ n + i
    → ((t : ℕ) (rs : List Reply) → t ≢ s → P t rs → Q t rs) → (P s (get_or lists i []) → Q s new) → i < length lists
    → ForSessions n P lists → ForSessions n Q (slice_set lists i new)
ForSessions-set P Q s n i [] new at others this within all = absurd (omega arith)
ForSessions-set P Q s n zero (rs ∷ more) new at others this within all =
    let same : n ≡ s = omega arith in
    (subst (λ t. Q t new) (sym same) (this (subst (λ t. P t rs) same all.0)), ForSessions-then P Q (n + 1) more (λ t xs le p. others t xs (λ e. absurd (omega (arith, e, le, same))) p) all.1)
ForSessions-set P Q s n (suc i) (rs ∷ more) new at others this within all =
    (others n rs (λ e. absurd (omega (arith, e, at))) all.0, ForSessions-set P Q s (n + 1) i more new (omega arith) others this (omega arith) all.1)

-- sessions without replies
ForSessions-empty : (P : ℕ → List Reply → Type 0) (n s : ℕ) → ((t : ℕ) → s ≤ t → P t []) → ForSessions s P (replicate n [])
ForSessions-empty P zero s each = tt
ForSessions-empty P (suc n) s each = (each s (omega arith), ForSessions-empty P n (s + 1) (λ t le. each t (omega (arith, le))))

length-slice_set : {A : Type 0} (xs : List A) (i : ℕ) (x : A) → length (slice_set xs i x) ≡ length xs
length-slice_set [] i x = refl
length-slice_set (y ∷ ys) zero x = refl
length-slice_set (y ∷ ys) (suc i) x = ap suc (length-slice_set ys i x)

-- one list more without replies
pub lists-push : (n : ℕ) (lists : List (List Reply)) → lists ≡ replicate n [] → lists ++ [] ∷ [] ≡ replicate (suc n) []
lists-push n lists are = ap (λ ls. ls ++ [] ∷ []) are ∙ grown n
  where
    grown : (n : ℕ) → replicate {A = List Reply} n [] ++ [] ∷ [] ≡ replicate (suc n) []
    grown zero = refl
    grown (suc n) = ap (λ ls. [] ∷ ls) (grown n)

-- ---- the replies of one session, with one line more

session_replies-push : (s : ℕ) (ls : List Line) (rs : List Reply) (l : Line) (r : Reply) → length ls ≡ length rs
    → session_replies s (ls ++ l ∷ []) (rs ++ r ∷ []) ≡ session_replies s ls rs ++ cond (l.session == s) (r ∷ []) []
session_replies-push s [] [] l r same = refl
session_replies-push s [] (x ∷ xs) l r same = absurd (omega (arith, same))
session_replies-push s (m ∷ ms) [] l r same = absurd (omega (arith, same))
session_replies-push s (m ∷ ms) (x ∷ xs) l r same = by (m.session == s) (session_replies-push s ms xs l r (omega (arith, same)))
  where
    by : (b : Bool) → session_replies s (ms ++ l ∷ []) (xs ++ r ∷ []) ≡ session_replies s ms xs ++ cond (l.session == s) (r ∷ []) []
        → cond b (x ∷ session_replies s (ms ++ l ∷ []) (xs ++ r ∷ [])) (session_replies s (ms ++ l ∷ []) (xs ++ r ∷ []))
        ≡ cond b (x ∷ session_replies s ms xs) (session_replies s ms xs) ++ cond (l.session == s) (r ∷ []) []
    by true rest = ap (λ (ys : List Reply). x ∷ ys) rest
    by false rest = rest

replies-this : (ls : List Line) (rs : List Reply) (l : Line) (r : Reply) → length ls ≡ length rs
    → session_replies l.session (ls ++ l ∷ []) (rs ++ r ∷ []) ≡ session_replies l.session ls rs ++ r ∷ []
replies-this ls rs l r same =
    session_replies-push l.session ls rs l r same ∙ ap (λ (b : Bool). session_replies l.session ls rs ++ cond b (r ∷ []) []) (eq-eqb l.session l.session refl)

replies-other : (ls : List Line) (rs : List Reply) (l : Line) (r : Reply) (t : ℕ) → t ≢ l.session → length ls ≡ length rs
    → session_replies t (ls ++ l ∷ []) (rs ++ r ∷ []) ≡ session_replies t ls rs
replies-other ls rs l r t other same =
    let differ : (l.session == t) ≡ false = ne_eqb l.session t (λ is. other (sym is)) in
    session_replies-push t ls rs l r same ∙ ap (λ (b : Bool). session_replies t ls rs ++ cond b (r ∷ []) []) differ ∙ append-nil (session_replies t ls rs)

-- ---- the lists of all sessions

-- no line was played
pub AreBySession-none : (lists : List (List Reply)) → lists ≡ replicate 8 [] → AreBySession [] [] lists
AreBySession-none lists are = subst (AreBySession [] []) (sym are) (record {
  eight = refl;
  each = ForSessions-empty (λ session rs. rs ≡ session_replies session [] []) 8 1 (λ t le. refl);
})

-- one line more was played, and its session has its reply
pub AreBySession-push : (ls : List Line) (rs : List Reply) (lists : List (List Reply)) (l : Line) (r : Reply) → IsOfSession l → length ls ≡ length rs
    → AreBySession ls rs lists → AreBySession (ls ++ l ∷ []) (rs ++ r ∷ []) (with_reply lists l.session r)
AreBySession-push ls rs lists l r session same by_session = record {
  eight = length-slice_set lists (l.session - 1) _ ∙ by_session.eight;
  each = ForSessions-set (λ t xs. xs ≡ session_replies t ls rs) (λ t xs. xs ≡ session_replies t (ls ++ l ∷ []) (rs ++ r ∷ [])) l.session 1 (l.session - 1) lists _ (omega (arith, session.0))
      (λ t xs other is. is ∙ sym (replies-other ls rs l r t other same))
      (λ is. ap (λ (xs : List Reply). xs ++ r ∷ []) is ∙ sym (replies-this ls rs l r same))
      (omega (arith, session.0, session.1, by_session.eight)) by_session.each;
}
