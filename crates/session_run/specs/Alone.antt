-- One thread that plays the lines of a script in file order.
use Rattle.std.specs.Prelude.{◌≡◌, ◌⊎◌, ℕ, ◌-◌, ◌≤◌, List, [], ◌∷◌, ◌++◌, length, take, slice_index_or, slice_set}
use Rattle.script_text.specs.declared.scripts.Line.{Line}
use Rattle.script_text.specs.Scripts.{last_session}
use Rattle.doc_book.specs.declared.replies.Reply.{Reply}
use Rattle.doc_book.specs.Document.{Document}
use Rattle.doc_book.specs.Plays.{IsPlayedLine, IsPlayed}
use Rattle.session_run.specs.Sessions.{AreBySession}

-- all lines, in file order, take the document from old to new, and these are their replies by session
pub record IsPlayedAlone (old new : Document) (script : List Line) (lists : List (List Reply)) : Type 0 where
  pub replies : List Reply
  pub played : IsPlayed old new script replies
  pub by_session : AreBySession script replies lists

-- the first lines, so many, in file order, take the document from old to new
pub record IsPlayedInPart (old new : Document) (script : List Line) : Type 0 where
  pub count : ℕ
  pub replies : List Reply
  pub within : count ≤ length script
  pub played : IsPlayed old new (take count script) replies

-- a line was played, or the document stays
abbrev pub IsPlayedOrNot : Document → Document → Line → Type 0
IsPlayedOrNot old new line = (new ≡ old) ⊎ ((reply : Reply) × IsPlayedLine old new line reply)

-- the lists of replies with one reply more for a session
abbrev pub with_reply : List (List Reply) → ℕ → Reply → List (List Reply)
with_reply lists session reply = slice_set lists (session - 1) (slice_index_or lists (session - 1) [] ++ reply ∷ [])

-- a line was played, and its session has its reply
abbrev pub PlaysNext : Document → Document → Line → List (List Reply) → List (List Reply) → Type 0
PlaysNext old new line lists lists' = (reply : Reply) × IsPlayedLine old new line reply × (lists' ≡ with_reply lists line.session reply)

-- a line of a session 1 to 8
abbrev pub IsOfSession : Line → Type 0
IsOfSession l = (1 ≤ l.session) × (l.session ≤ last_session)
