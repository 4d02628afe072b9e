-- One line more of those that were played.
use Rattle.std.proofs.Common.{◌≡◌, ℕ, suc, ◌+◌, ◌<◌, List, [], ◌∷◌, ◌++◌, length, take, get_or, refl, ap, sym, ◌∙◌, subst, arith, inl, inr}
use Rattle.std.specs.Prelude.{replicate}
use Rattle.std.specs.List.{AllByRecursion}
use Rattle.std.proofs.lemmas.List.{take_more}
use Rattle.script_text.specs.declared.scripts.Line.{Line}
use Rattle.script_text.specs.Scripts.{AreLines}
use Rattle.doc_book.specs.declared.replies.Reply.{Reply}
use Rattle.doc_book.specs.Document.{Document}
use Rattle.doc_book.specs.Plays.{IsPlayedLine, IsPlayed}
use Rattle.session_run.specs.Sessions.{AreBySession}
use Rattle.session_run.specs.Alone.{IsPlayedAlone, IsPlayedInPart, IsPlayedOrNot, PlaysNext, IsOfSession}
use Rattle.session_run.proofs.Elements.{all-at}
use Rattle.session_run.proofs.Lists.{AreBySession-none, AreBySession-push}

-- the lines of a script are of sessions 1 to 8
pub of_sessions : (number : ℕ) (lines : List Line) → AreLines number lines → AllByRecursion IsOfSession lines
of_sessions number [] are = tt
of_sessions number (l ∷ ls) are = ((are.0.session.0, omega (arith, are.0.session.1)), of_sessions (number + 1) ls are.1)

-- there is a reply for each line
pub played_length : (a b : Document) (ls : List Line) (rs : List Reply) → IsPlayed a b ls rs → length ls ≡ length rs
played_length a b [] [] is = refl
played_length a b [] (r ∷ rs) is = absurd is
played_length a b (l ∷ ls) [] is = absurd is
played_length a b (l ∷ ls) (r ∷ rs) is = ap suc (played_length is.0 b ls rs is.2)

pub IsPlayed-push : (a b c : Document) (ls : List Line) (rs : List Reply) (l : Line) (r : Reply) → IsPlayed a b ls rs → IsPlayedLine b c l r
    → IsPlayed a c (ls ++ l ∷ []) (rs ++ r ∷ [])
IsPlayed-push a b c [] [] l r is line = (c, subst (λ (d : Document). IsPlayedLine d c l r) is line, refl)
IsPlayed-push a b c [] (x ∷ xs) l r is line = absurd is
IsPlayed-push a b c (m ∷ ms) [] l r is line = absurd is
IsPlayed-push a b c (m ∷ ms) (x ∷ xs) l r is line = (is.0, is.1, IsPlayed-push is.0 b c ms xs l r is.2 line)

-- no line was played
pub IsPlayedAlone-none : (d : Document) (lists : List (List Reply)) → lists ≡ replicate 8 [] → IsPlayedAlone d d [] lists
IsPlayedAlone-none d lists are = record { replies = []; played = refl; by_session = AreBySession-none lists are }

front : (lines : List Line) (i : ℕ) (l : Line) → i < length lines → l ≡ get_or lines i l → take (i + 1) lines ≡ take i lines ++ l ∷ []
front lines i l within at = take_more lines i l within ∙ ap (λ (x : Line). take i lines ++ x ∷ []) (sym at)

-- the line at this place was played after those before it
pub IsPlayedAlone-more : (a b c : Document) (lines : List Line) (i : ℕ) (before after : List (List Reply)) (l : Line)
    → IsPlayedAlone a b (take i lines) before → AllByRecursion IsOfSession lines → i < length lines → l ≡ get_or lines i l
    → PlaysNext b c l before after → IsPlayedAlone a c (take (i + 1) lines) after
IsPlayedAlone-more a b c lines i before after l played sessions within at plays =
    let session : IsOfSession l = subst IsOfSession (sym at) (all-at IsOfSession lines i l sessions within) in
    subst (λ (ls : List Line). IsPlayedAlone a c ls after) (sym (front lines i l within at)) (record {
      replies = played.replies ++ plays.0 ∷ [];
      played = IsPlayed-push a b c (take i lines) played.replies l plays.0 played.played plays.1;
      by_session = subst (λ (xs : List (List Reply)). AreBySession (take i lines ++ l ∷ []) (played.replies ++ plays.0 ∷ []) xs) (sym plays.2)
          (AreBySession-push (take i lines) played.replies before l plays.0 session (played_length a b (take i lines) played.replies played.played) played.by_session);
    })

-- memory was wanting at the line at this place
pub IsPlayedInPart-at : (a b c : Document) (lines : List Line) (i : ℕ) (lists : List (List Reply)) (l : Line)
    → IsPlayedAlone a b (take i lines) lists → i < length lines → l ≡ get_or lines i l → IsPlayedOrNot b c l → IsPlayedInPart a c lines
IsPlayedInPart-at a b c lines i lists l played within at (inl same) = record {
  count = i;
  replies = played.replies;
  within = omega (arith, within);
  played = subst (λ (d : Document). IsPlayed a d (take i lines) played.replies) (sym same) played.played;
}
IsPlayedInPart-at a b c lines i lists l played within at (inr line) = record {
  count = i + 1;
  replies = played.replies ++ line.0 ∷ [];
  within = omega (arith, within);
  played = subst (λ (ls : List Line). IsPlayed a c ls (played.replies ++ line.0 ∷ [])) (sym (front lines i l within at))
      (IsPlayed-push a b c (take i lines) played.replies l line.0 played.played line.1);
}

-- memory was wanting before the first line
pub IsPlayedInPart-none : (a : Document) (lines : List Line) → IsPlayedInPart a a lines
IsPlayedInPart-none a lines = record { count = 0; replies = []; within = omega arith; played = refl }
