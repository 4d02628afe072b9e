-- The replies by session, from left to right.
use Rattle.std.proofs.Common.{◌≡◌, ℕ, suc, ◌+◌, ◌<◌, List, ◌∷◌, ◌++◌, length, drop, get_or, refl, sym, ap, subst, ◌∙◌, arith, eq-eqb}
use Rattle.std.specs.Prelude.{◌==◌, true}
use Rattle.script_text.specs.declared.scripts.Line.{Line}
use Rattle.doc_book.specs.declared.replies.Reply.{Reply}
use Rattle.doc_book.specs.Listing.{text_lines, reply_lines, session_lines, sessions_lines}
use Rattle.listing_text.specs.Replies.{HaveReplies, SessionsHaveReplies}
use Rattle.listing_text.proofs.Elements.{rest_of}
use Rattle.listing_text.proofs.Lines.{text_lines-append}

-- the next list of replies is that of session k + 1, taken as a slice
module _ (script : List Line) (all : List (List Reply)) (k : ℕ) (rs : List Reply) (lt : k < length all) (is : rs ≡ get_or all k rs) (taken : List Reply) (same : taken ≡ rs) where
  rest : drop k all ≡ taken ∷ drop (k + 1) all
  rest = rest_of all k rs lt is ∙ ap (λ x. x ∷ drop (k + 1) all) (sym same)

  pub sessions_step : text_lines (sessions_lines (k + 1) script (drop k all))
      ≡ text_lines (reply_lines (k + 1) (session_lines (k + 1) script) taken) ++ text_lines (sessions_lines (k + 1 + 1) script (drop (k + 1) all))
  sessions_step =
      ap (λ more. text_lines (sessions_lines (k + 1) script more)) rest
      ∙ text_lines-append (reply_lines (k + 1) (session_lines (k + 1) script) taken) (sessions_lines (k + 1 + 1) script (drop (k + 1) all))

  pub replies_next : SessionsHaveReplies (k + 1) script (drop k all) → HaveReplies (session_lines (k + 1) script) taken × SessionsHaveReplies (k + 1 + 1) script (drop (k + 1) all)
  replies_next have = subst (λ more. SessionsHaveReplies (k + 1) script more) rest have

-- the next line of a script, as one of a session
module _ (session : ℕ) (ls : List Line) (k : ℕ) (l : Line) (lt : k < length ls) (is : l ≡ get_or ls k l) where
  own_line : l.session ≡ session → length (session_lines session (drop k ls)) ≡ suc (length (session_lines session (drop (k + 1) ls)))
  own_line of = let same : (l.session == session) ≡ true = eq-eqb l.session session of in rw (rest_of ls k l lt is, same) refl

  -- so many replies were put, and there are as many more as lines of the session
  pub has_reply : l.session ≡ session → (n replies : ℕ) → n + length (session_lines session (drop k ls)) ≡ replies → n < replies
  has_reply of n replies as_many = let one = own_line of in omega arith

  pub one_reply : l.session ≡ session → (n replies : ℕ) → n + length (session_lines session (drop k ls)) ≡ replies → n + 1 + length (session_lines session (drop (k + 1) ls)) ≡ replies
  one_reply of n replies as_many = let one = own_line of in omega arith
