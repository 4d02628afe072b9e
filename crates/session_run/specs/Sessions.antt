-- The lists of replies of a script's sessions.
use Rattle.std.specs.Prelude.{◌≡◌, ℕ, ◌+◌, List, [], ◌∷◌, length, ⊤}
use Rattle.script_text.specs.declared.scripts.Line.{Line}
use Rattle.script_text.specs.Scripts.{last_session}
use Rattle.doc_book.specs.declared.replies.Reply.{Reply}
use Rattle.doc_book.specs.Plays.{session_replies}

-- a fact of each session and its replies, for further sessions from one on
abbrev pub ForSessions : ℕ → (ℕ → List Reply → Type 0) → List (List Reply) → Type 0
ForSessions session P [] = ⊤
ForSessions session P (rs ∷ more) = P session rs × ForSessions (session + 1) P more

-- the replies to the lines of a script, in file order, come to these lists by session, session 1 first
pub record AreBySession (script : List Line) (replies : List Reply) (lists : List (List Reply)) : Type 0 where
  pub eight : length lists ≡ last_session
  pub each : ForSessions 1 (λ session rs. rs ≡ session_replies session script replies) lists
