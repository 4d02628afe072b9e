-- The replies that a listing can show.
use Rattle.std.specs.Prelude.{◌≡◌, ℕ, ◌+◌, List, [], ◌∷◌, length, ⊤}
use Rattle.std.specs.List.{AllByRecursion}
use Rattle.edit_rules.specs.declared.refusals.Refusal.TheVariants as refusal
use Rattle.script_text.specs.declared.scripts.Line.{Line}
use Rattle.script_text.specs.Scripts.{last_session}
use Rattle.doc_book.specs.declared.replies.Reply.{Reply}
use Rattle.doc_book.specs.declared.replies.Reply.TheVariants as reply
use Rattle.doc_book.specs.Listing.{session_lines}

-- a reply has a text, unless it is a refusal for want of memory
abbrev pub HasText : Reply → Type 0
HasText (reply.Accepted place) = ⊤
HasText (reply.Published place) = ⊤
HasText (reply.Refused r) = r.refusal ≡ refusal.Memory → ⊥
HasText (reply.Idle front) = ⊤
HasText (reply.Spent front) = ⊤
HasText (reply.Stale front) = ⊤
HasText (reply.Answer a) = ⊤

-- lines have a reply each, and each reply has a text
pub record HaveReplies (lines : List Line) (replies : List Reply) : Type 0 where
  pub as_many : length replies ≡ length lines
  pub texts : AllByRecursion HasText replies

-- of further sessions, from one on, the lines of each have the replies of its list
abbrev pub SessionsHaveReplies : ℕ → List Line → List (List Reply) → Type 0
SessionsHaveReplies session script [] = ⊤
SessionsHaveReplies session script (rs ∷ more) = HaveReplies (session_lines session script) rs × SessionsHaveReplies (session + 1) script more

-- there is a list of replies for each session, session 1 first: one for each of its lines, and none of them is a refusal
-- for want of memory
pub record ScriptHasReplies (script : List Line) (replies : List (List Reply)) : Type 0 where
  pub lists : length replies ≡ last_session
  pub each : SessionsHaveReplies 1 script replies
