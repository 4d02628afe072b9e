-- One thread that plays the lines of a script in file order, each for its session.
use Rattle.std.specs.Prelude.{◌≡◌, ◌⊎◌, ℕ, ◌+◌, List, [], ◌∷◌, ◌++◌, length, ◌==◌, if◌then◌else◌, ⊤}
use Rattle.script_text.specs.declared.scripts.Command.{Command}
use Rattle.script_text.specs.declared.scripts.Command.TheVariants as command
use Rattle.script_text.specs.declared.scripts.Line.{Line}
use Rattle.doc_book.specs.declared.replies.Reply.{Reply}
use Rattle.doc_book.specs.declared.replies.Reply.TheVariants as reply
use Rattle.doc_book.specs.Document.{Document}
use Rattle.doc_book.specs.Events.{Event, Edits, Undoes, Asks, Looks, Publishes, Said, Replied, Found, replies_in}
use Rattle.doc_book.specs.Replies.{made_places, from_of}
use Rattle.doc_book.specs.Steps.{IsStep, IsRun}

-- a look of the line's session found a frame to make, and its publication is answered so
pub record IsLaidOut (old new : Document) (line : Line) (reply : Reply) : Type 0 where
  pub between : Document
  pub front : ℕ
  pub found : IsStep old between (Looks line.session) (Found front)
  pub published : IsStep between new (Publishes line.session line.number front) (Replied reply)

-- a line with this command is one call, and a `layout` line a look and, where it found a frame to make, its publication
abbrev pub IsPlayedAs : Document → Document → Line → Reply → Command → Type 0
IsPlayedAs old new line reply (command.Edit e) = IsStep old new (Edits line.session line.number e) (Replied reply)
IsPlayedAs old new line reply command.Undo = IsStep old new (Undoes line.session line.number) (Replied reply)
IsPlayedAs old new line reply command.Layout = IsStep old new (Looks line.session) (Replied reply) ⊎ IsLaidOut old new line reply
IsPlayedAs old new line reply (command.Where name) = IsStep old new (Asks line.session name) (Replied reply)

-- a line takes the document from old to new, and has this reply
abbrev pub IsPlayedLine : Document → Document → Line → Reply → Type 0
IsPlayedLine old new line reply = IsPlayedAs old new line reply line.command

-- the lines, in file order, take the document from old to new, and have these replies
abbrev pub IsPlayed : Document → Document → List Line → List Reply → Type 0
IsPlayed old new [] [] = new ≡ old
IsPlayed old new (l ∷ ls) (r ∷ rs) = (next : Document) × IsPlayedLine old next l r × IsPlayed next new ls rs
IsPlayed old new [] (r ∷ rs) = ⊥
IsPlayed old new (l ∷ ls) [] = ⊥

-- the replies to the lines of a session, in order
abbrev pub session_replies : ℕ → List Line → List Reply → List Reply
session_replies session [] rs = []
session_replies session (l ∷ ls) [] = []
session_replies session (l ∷ ls) (r ∷ rs) = if l.session == session then r ∷ session_replies session ls rs else session_replies session ls rs

-- the replies among what calls were answered, in order
abbrev pub all_replies : List Said → List Reply
all_replies [] = []
all_replies (s ∷ ss) = replies_in s ++ all_replies ss

-- the document goes from old to new by calls whose replies, in order, are these
pub record IsByCalls (old new : Document) (replies : List Reply) : Type 0 where
  pub calls : List Event
  pub said : List Said
  pub run : IsRun old new calls said
  pub replies_are : all_replies said ≡ replies

-- the reply isn't Stale
abbrev pub IsFresh : Reply → Type 0
IsFresh (reply.Stale front) = ⊥
IsFresh _ = ⊤

-- each reply was given at as many entries as the replies before it made, from this number on
abbrev pub AreCounted : ℕ → List Reply → Type 0
AreCounted n [] = ⊤
AreCounted n (r ∷ rs) = (from_of r ≡ n) × AreCounted (n + length (made_places (r ∷ []))) rs
