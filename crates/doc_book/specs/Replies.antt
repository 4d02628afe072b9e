-- What a look finds, right replies, and own entries.
use Rattle.std.specs.Prelude.{◌≡◌, ℕ, ◌+◌, ◌<◌, ◌≤◌, List, [], ◌∷◌, length, take, filter, map, if◌then◌else◌, ◌==◌, Some, None, slice_get, ⊤}
use Rattle.edit_rules.specs.declared.refusals.Refusal.{Refusal}
use Rattle.edit_rules.specs.declared.refusals.Refusal.TheVariants as refusal
use Rattle.script_text.specs.declared.scripts.Command.{Command}
use Rattle.script_text.specs.declared.scripts.Command.TheVariants as command
use Rattle.script_text.specs.declared.scripts.Line.{Line}
use Rattle.doc_book.specs.declared.entries.Entry.{Entry}
use Rattle.doc_book.specs.declared.entries.Act.{Act}
use Rattle.doc_book.specs.declared.entries.Act.TheVariants as act
use Rattle.doc_book.specs.declared.replies.Reply.{Reply}
use Rattle.doc_book.specs.declared.replies.Reply.TheVariants as reply
use Rattle.doc_book.specs.declared.asking.Spot.{Spot}
use Rattle.doc_book.specs.History.{end_place, frame_count, scene_at, places_at, IsSettled}
use Rattle.doc_book.specs.Spots.{IsSpot, ask_refusal}
use Rattle.doc_book.specs.Verdicts.{IsVerdict, undo_verdict}

-- what a look finds
pub data Look : Type 0 where
  -- the document was ended, by the entry at this place
  Ending : (place : ℕ) → Look
  -- the budget of frames is used up
  Spent : Look
  -- the last entry is a frame that changed no place
  Idle : Look
  -- there is a frame to make
  Job : Look

-- a look at a history finds the first of Ending, Spent, Idle and Job that holds
abbrev pub IsLook : List Entry → ℕ → Look → Type 0
IsLook h budget (Ending place) = end_place h ≡ Some place
IsLook h budget Spent = (end_place h ≡ None) × (budget ≤ frame_count h)
IsLook h budget Idle = (end_place h ≡ None) × (frame_count h < budget) × IsSettled h
IsLook h budget Job = (end_place h ≡ None) × (frame_count h < budget) × (IsSettled h → ⊥)

-- the entry at a place is by this caller with this line, and its act is so
abbrev pub IsEntryAt : List Entry → ℕ → ℕ → ℕ → (Act → Type 0) → Type 0
IsEntryAt h place who line P = (e : Entry) × (slice_get h place ≡ Some e) × (e.who ≡ who) × (e.line ≡ line) × P e.act

-- the act is a frame, whichever
abbrev pub IsFrameAct : Act → Type 0
IsFrameAct (act.Edit e) = ⊥
IsFrameAct act.Undo = ⊥
IsFrameAct (act.Frame f) = ⊤
IsFrameAct act.End = ⊥

-- an accepted edit or undo stands at its place, and the entries before it accept it
abbrev pub IsAccepted : List Entry → ℕ → ℕ → ℕ → Command → Type 0
IsAccepted h who line place (command.Edit e) = IsEntryAt h place who line (λ a. a ≡ act.Edit e) × IsVerdict (take place h) e None
IsAccepted h who line place command.Undo = IsEntryAt h place who line (λ a. a ≡ act.Undo) × (undo_verdict (take place h) ≡ None)
IsAccepted h who line place command.Layout = ⊥
IsAccepted h who line place (command.Where name) = ⊥

-- a refusal is the verdict on the edit or undo, Ended of a layout, or that of the scene which was asked, at its front
abbrev pub IsRefused : List Entry → ℕ → ℕ → Refusal → Command → Type 0
IsRefused h budget front r (command.Edit e) = IsVerdict (take front h) e (Some r)
IsRefused h budget front r command.Undo = undo_verdict (take front h) ≡ Some r
IsRefused h budget front r command.Layout = (place : ℕ) × (r ≡ refusal.Ended place) × IsLook (take front h) budget (Ending place)
IsRefused h budget front r (command.Where name) = ask_refusal (scene_at (take front h)) name ≡ Some r

-- the command asks for a frame
abbrev pub IsLayout : Command → Type 0
IsLayout (command.Edit e) = ⊥
IsLayout command.Undo = ⊥
IsLayout command.Layout = ⊤
IsLayout (command.Where name) = ⊥

-- the command asks where an item stands, and after these entries the item of its name stands at the spot
abbrev pub IsAnswered : List Entry → Spot → Command → Type 0
IsAnswered h spot (command.Edit e) = ⊥
IsAnswered h spot command.Undo = ⊥
IsAnswered h spot command.Layout = ⊥
IsAnswered h spot (command.Where name) = IsSpot (scene_at h) (places_at h) name spot

-- a stale frame was made at a front below this one, where there was a frame to make, and which isn't below what the
-- caller had seen
abbrev pub IsStale : List Entry → ℕ → ℕ → ℕ → Type 0
IsStale h budget seen now = (front : ℕ) × (front < now) × (seen ≤ front) × IsLook (take front h) budget Job

-- the reply of a history with this budget to a caller's line is right; the caller had seen so many entries before it
abbrev pub IsRightReply : List Entry → ℕ → ℕ → ℕ → Line → Reply → Type 0
IsRightReply h budget who seen line (reply.Accepted place) = IsAccepted h who line.number place line.command
IsRightReply h budget who seen line (reply.Published place) = IsLayout line.command × IsEntryAt h place who line.number IsFrameAct
IsRightReply h budget who seen line (reply.Refused r) = (r.front ≤ length h) × IsRefused h budget r.front r.refusal line.command
IsRightReply h budget who seen line (reply.Idle front) = (front ≤ length h) × IsLayout line.command × IsLook (take front h) budget Idle
IsRightReply h budget who seen line (reply.Spent front) = (front ≤ length h) × IsLayout line.command × IsLook (take front h) budget Spent
IsRightReply h budget who seen line (reply.Stale front) = (front ≤ length h) × IsLayout line.command × IsStale h budget seen front
IsRightReply h budget who seen line (reply.Answer a) = (a.front ≤ length h) × IsAnswered (take a.front h) a.spot line.command

-- how many entries a caller has seen after a reply
abbrev pub after_of : Reply → ℕ
after_of (reply.Accepted place) = place + 1
after_of (reply.Published place) = place + 1
after_of (reply.Refused r) = r.front
after_of (reply.Idle front) = front
after_of (reply.Spent front) = front
after_of (reply.Stale front) = front
after_of (reply.Answer a) = a.front

-- at how many entries a reply was given
abbrev pub from_of : Reply → ℕ
from_of (reply.Accepted place) = place
from_of (reply.Published place) = place
from_of (reply.Refused r) = r.front
from_of (reply.Idle front) = front
from_of (reply.Spent front) = front
from_of (reply.Stale front) = front
from_of (reply.Answer a) = a.front

-- the replies to a caller's lines, one for each in order: each is right, and none was given before the caller had
-- seen what the one before it showed
abbrev pub AreRightReplies : List Entry → ℕ → ℕ → ℕ → List Line → List Reply → Type 0
AreRightReplies h budget who seen [] [] = ⊤
AreRightReplies h budget who seen (l ∷ ls) (r ∷ rs) =
    IsRightReply h budget who seen l r × (seen ≤ from_of r) × AreRightReplies h budget who (after_of r) ls rs
AreRightReplies h budget who seen [] (r ∷ rs) = ⊥
AreRightReplies h budget who seen (l ∷ ls) [] = ⊥

-- the entries of a caller, in order
abbrev pub own_entries : List Entry → ℕ → List Entry
own_entries h who = filter (λ (e : Entry). e.who == who) h

-- the places of the entries that replies name: those of Accepted and Published, in order
abbrev pub made_places : List Reply → List ℕ
made_places [] = []
made_places (reply.Accepted place ∷ rs) = place ∷ made_places rs
made_places (reply.Published place ∷ rs) = place ∷ made_places rs
made_places (reply.Refused r ∷ rs) = made_places rs
made_places (reply.Idle front ∷ rs) = made_places rs
made_places (reply.Spent front ∷ rs) = made_places rs
made_places (reply.Stale front ∷ rs) = made_places rs
made_places (reply.Answer a ∷ rs) = made_places rs

-- the entries of a caller are those at the places that its replies name, in order, each once
abbrev pub OwnEntriesAre : List Entry → ℕ → List Reply → Type 0
OwnEntriesAre h who replies = map Some (own_entries h who) ≡ map (slice_get h) (made_places replies)

-- the places of a caller's entries, in order, where the first entry stands at this place
abbrev pub own_places_from : ℕ → List Entry → ℕ → List ℕ
own_places_from first [] who = []
own_places_from first (e ∷ es) who = if e.who == who then first ∷ own_places_from (first + 1) es who else own_places_from (first + 1) es who

-- the places of a caller's entries in a history, in order, each once
abbrev pub own_places : List Entry → ℕ → List ℕ
own_places h who = own_places_from 0 h who
