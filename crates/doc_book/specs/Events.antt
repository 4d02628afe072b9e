-- What callers do with a document, and what they are answered.
use Rattle.std.specs.Prelude.{ℕ, List, [], ◌∷◌, ◌++◌, ◌==◌, if◌then◌else◌, Bool, ◌&&◌, Option, Some, None, is_some}
use Rattle.scene_model.specs.Names.{NameOf}
use Rattle.edit_rules.specs.declared.edits.Edit.{Edit}
use Rattle.script_text.specs.declared.scripts.Line.{Line}
use Rattle.script_text.specs.declared.scripts.Command.TheVariants as command
use Rattle.doc_book.specs.declared.replies.Reply.{Reply}
use Rattle.doc_book.specs.declared.replies.Reply.TheVariants as reply

-- one call of a caller
pub data Event : Type 0 where
  -- caller `who` edits, for a line
  Edits : (who line : ℕ) (edit : Edit) → Event
  -- caller `who` undoes, for a line
  Undoes : (who line : ℕ) → Event
  -- caller `who` asks where the item of a name stands
  Asks : (who : ℕ) (name : NameOf) → Event
  -- caller `who` looks whether there is a frame to make
  Looks : (who : ℕ) → Event
  -- caller `who` publishes for a line the frame that was made at a front
  Publishes : (who line front : ℕ) → Event
  -- the run ends the document
  Ends : Event
  -- the run makes one step of finishing the document
  Finishes : Event

-- what the call is answered
pub data Said : Type 0 where
  -- a reply, as to a line
  Replied : (reply : Reply) → Said
  -- there is a frame to make, at this front
  Found : (front : ℕ) → Said
  -- the last entry, at this place, is a frame that changed no place
  Settled : (place : ℕ) → Said
  -- as many frames as may stand after End, the last at this place
  Full : (place : ℕ) → Said
  -- want of memory
  Memory : Said

-- who makes the call
abbrev pub caller_of : Event → ℕ
caller_of (Edits who line edit) = who
caller_of (Undoes who line) = who
caller_of (Asks who name) = who
caller_of (Looks who) = who
caller_of (Publishes who line front) = who
caller_of Ends = 0
caller_of Finishes = 0

-- the line as which a call is read: an ask is a `where` line, a look and a publication are a `layout` line; the calls
-- of the run itself are none
abbrev pub line_of : Event → Option Line
line_of (Edits who line edit) = Some (record { number = line; session = who; command = command.Edit edit })
line_of (Undoes who line) = Some (record { number = line; session = who; command = command.Undo })
line_of (Asks who name) = Some (record { number = 0; session = who; command = command.Where name })
line_of (Looks who) = Some (record { number = 0; session = who; command = command.Layout })
line_of (Publishes who line front) = Some (record { number = line; session = who; command = command.Layout })
line_of Ends = None
line_of Finishes = None

-- how many entries the caller had seen before the call, as far as the call tells: the front of the frame
abbrev pub seen_before : Event → ℕ
seen_before (Publishes who line front) = front
seen_before _ = 0

-- the replies among what a call was answered: one or none
abbrev pub replies_in : Said → List Reply
replies_in (Replied r) = r ∷ []
replies_in _ = []

-- the replies that a caller got in a list of calls, in order
abbrev pub replies_to : ℕ → List Event → List Said → List Reply
replies_to who [] said = []
replies_to who (e ∷ es) [] = []
replies_to who (e ∷ es) (s ∷ ss) = if caller_of e == who then replies_in s ++ replies_to who es ss else replies_to who es ss

-- the place of the entry that a call made, if it made one
abbrev pub place_made : Said → Option ℕ
place_made (Replied (reply.Accepted place)) = Some place
place_made (Replied (reply.Published place)) = Some place
place_made _ = None

-- the call made an entry
abbrev pub is_made : Said → Bool
is_made s = is_some (place_made s)

-- the calls of a caller that made an entry, in order
abbrev pub made_calls : ℕ → List Event → List Said → List Event
made_calls who [] said = []
made_calls who (e ∷ es) [] = []
made_calls who (e ∷ es) (s ∷ ss) = if (caller_of e == who) && is_made s then e ∷ made_calls who es ss else made_calls who es ss
