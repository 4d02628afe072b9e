-- The text of a listing: the entries of a history with their frames, and the replies to the lines of a script
-- (the format is this project's own).
use Rattle.std.specs.Prelude.{ℕ, ◌+◌, ℤ, pos, List, [], ◌∷◌, ◌++◌, codes, filter, map, ◌==◌, if◌then◌else◌, decimal}
use Rattle.std.specs.List.{flat_map}
use Rattle.std.specs.Fmt.{signed_decimal}
use Rattle.std.specs.Ordering.{int_eq}
use Rattle.units.specs.declared.geometry.Axis.{Axis}
use Rattle.units.specs.declared.geometry.Axis.TheVariants.{X, Y}
use Rattle.scene_model.specs.declared.variables.Variable.{Variable}
use Rattle.scene_model.specs.declared.variables.VariableName.{VariableName}
use Rattle.scene_model.specs.declared.variables.VariableName.TheVariants.{OfItem, LowEdge, HighEdge}
use Rattle.scene_model.specs.Diagram.{Diagram}
use Rattle.scene_model.specs.Variables.{variables}
use Rattle.cycle_test.specs.declared.arc.CycleArc.{CycleArc}
use Rattle.edit_rules.specs.declared.refusals.Counted.{Counted}
use Rattle.edit_rules.specs.declared.refusals.Counted.TheVariants as counted
use Rattle.edit_rules.specs.declared.refusals.Refusal.{Refusal}
use Rattle.edit_rules.specs.declared.refusals.Refusal.TheVariants as refusal
use Rattle.frac128.specs.Fraction.{Fraction}
use Rattle.multiplier_check.specs.declared.certificate.Certificate.{Certificate}
use Rattle.frame_store.specs.declared.frames.Frame.{Frame}
use Rattle.script_text.specs.declared.scripts.Line.{Line}
use Rattle.script_text.specs.Words.{Word, spaced}
use Rattle.script_text.specs.Grammar.{axis_word}
use Rattle.script_text.specs.Commands.{edit_words, command_words}
use Rattle.doc_book.specs.declared.entries.Entry.{Entry}
use Rattle.doc_book.specs.declared.entries.Act.{Act}
use Rattle.doc_book.specs.declared.entries.Act.TheVariants as act
use Rattle.doc_book.specs.declared.asking.Spot.{Spot}
use Rattle.doc_book.specs.declared.asking.Spot.TheVariants as spot
use Rattle.doc_book.specs.declared.replies.Reply.{Reply}
use Rattle.doc_book.specs.declared.replies.Reply.TheVariants as reply
use Rattle.doc_book.specs.History.{scene_at}

-- a line of words divided by one space, with its LF
abbrev pub text_line : List Word → List ℕ
text_line words = spaced words ++ 10 ∷ []

-- lines of words
abbrev pub text_lines : List (List Word) → List ℕ
text_lines lines = flat_map text_line lines

-- the name of a variable: that of its item, for an edge with `.low` or `.high` behind it
abbrev pub variable_word : VariableName → Word
variable_word (OfItem name) = name
variable_word (LowEdge name) = name ++ codes ".low"
variable_word (HighEdge name) = name ++ codes ".high"

-- a fraction, as N where its denominator is 1, else as N/D. The fractions of a certificate are in lowest terms
abbrev pub fraction_word : Fraction → Word
fraction_word f = if f.den == 1 then signed_decimal f.num else signed_decimal f.num ++ 47 ∷ decimal f.den

-- for each variable of an axis its name, its desired place and its place, in diagram units
abbrev pub place_lines : Axis → List Variable → List ℤ → List Fraction → List (List Word)
place_lines axis (v ∷ vs) (d ∷ ds) (p ∷ ps) =
    (axis_word axis ∷ variable_word v.name ∷ signed_decimal d ∷ fraction_word p ∷ []) ∷ place_lines axis vs ds ps
place_lines axis _ _ _ = []

-- for each separation whose multiplier isn't 0 its number, behind `#`, and the multiplier
abbrev pub multiplier_lines : Axis → ℕ → List Fraction → List (List Word)
multiplier_lines axis number [] = []
multiplier_lines axis number (m ∷ ms) =
    if int_eq m.num (pos 0) then multiplier_lines axis (number + 1) ms
    else (axis_word axis ∷ (35 ∷ decimal number) ∷ fraction_word m ∷ []) ∷ multiplier_lines axis (number + 1) ms

-- the lines of a frame on an axis: its variables, then its multipliers
abbrev pub certificate_lines : Axis → Diagram → List ℤ → Certificate → List (List Word)
certificate_lines axis scene desired certificate =
    place_lines axis (variables scene axis) desired certificate.places ++ multiplier_lines axis 0 certificate.multipliers

-- the lines of a frame, X before Y
abbrev pub frame_lines : Diagram → Frame → List (List Word)
frame_lines scene f = certificate_lines X scene f.desired.x f.x ++ certificate_lines Y scene f.desired.y f.y

-- the words of an act, and the lines below them
abbrev pub act_words : Act → List Word
act_words (act.Edit e) = edit_words e
act_words act.Undo = codes "undo" ∷ []
act_words (act.Frame f) = codes "frame" ∷ []
act_words act.End = codes "end" ∷ []

-- below a frame stand its lines, below every other act none
abbrev pub lines_below : Diagram → Act → List (List Word)
lines_below scene (act.Edit e) = []
lines_below scene act.Undo = []
lines_below scene (act.Frame f) = frame_lines scene f
lines_below scene act.End = []

-- the lines of an entry: its place, who made it, the line that asked for it, and its act
abbrev pub lines_of : Diagram → ℕ → Entry → List (List Word)
lines_of scene place e = (decimal place ∷ decimal e.who ∷ decimal e.line ∷ act_words e.act) ∷ lines_below scene e.act

-- the lines of further entries, from a place on, behind those before it
abbrev pub entry_lines : List Entry → ℕ → List Entry → List (List Word)
entry_lines before place [] = []
entry_lines before place (e ∷ es) = lines_of (scene_at before) place e ++ entry_lines (before ++ e ∷ []) (place + 1) es

-- the word of what a limit counts
abbrev pub counted_word : Counted → Word
counted_word counted.Shapes = codes "shapes"
counted_word counted.Guides = codes "guides"
counted_word counted.Links = codes "links"
counted_word counted.Groups = codes "groups"
counted_word counted.Compounds = codes "compounds"
counted_word counted.Pages = codes "pages"
counted_word counted.Members = codes "members"
counted_word counted.Seps = codes "seps"
counted_word counted.Entries = codes "entries"

-- an arc of a cycle: the number of its separation, behind `#`, and `+`, or `-` where it is taken back
abbrev pub arc_word : CycleArc → Word
arc_word arc = 35 ∷ (decimal arc.sep ++ (if arc.back then 45 else 43) ∷ [])

-- a refusal for want of memory ends the run and has no text
abbrev pub refusal_words : Refusal → List Word
refusal_words (refusal.Range value) = codes "range" ∷ signed_decimal value ∷ []
refusal_words (refusal.Unknown name) = codes "unknown" ∷ name ∷ []
refusal_words (refusal.Taken name) = codes "taken" ∷ name ∷ []
refusal_words (refusal.Kind name) = codes "kind" ∷ name ∷ []
refusal_words (refusal.Twice name) = codes "twice" ∷ name ∷ []
refusal_words (refusal.InUse by) = codes "inuse" ∷ by ∷ []
refusal_words (refusal.Limit what count) = codes "limit" ∷ counted_word what ∷ decimal count ∷ []
refusal_words (refusal.Infeasible axis walk) = codes "infeasible" ∷ axis_word axis ∷ map arc_word walk
refusal_words (refusal.Ended place) = codes "ended" ∷ decimal place ∷ []
refusal_words refusal.NothingToUndo = codes "nothing" ∷ []
refusal_words refusal.Memory = []

-- the words of a spot, in whole diagram units, X before Y: the corner of a shape, the axis and the place of a guideline,
-- or the low and then the high edges of a group or page
abbrev pub spot_words : Spot → List Word
spot_words (spot.Shape x y) = codes "at" ∷ signed_decimal x ∷ signed_decimal y ∷ []
spot_words (spot.Guide axis at) = codes "guide" ∷ axis_word axis ∷ signed_decimal at ∷ []
spot_words (spot.Area x_low y_low x_high y_high) =
    codes "area" ∷ signed_decimal x_low ∷ signed_decimal y_low ∷ signed_decimal x_high ∷ signed_decimal y_high ∷ []

-- the words of a reply: which one it is, its place or front, and the cause of a refusal; of an answer the spot, then its
-- front
abbrev pub reply_words : Reply → List Word
reply_words (reply.Accepted place) = codes "accepted" ∷ decimal place ∷ []
reply_words (reply.Published place) = codes "published" ∷ decimal place ∷ []
reply_words (reply.Refused r) = codes "refused" ∷ decimal r.front ∷ refusal_words r.refusal
reply_words (reply.Idle front) = codes "idle" ∷ decimal front ∷ []
reply_words (reply.Spent front) = codes "spent" ∷ decimal front ∷ []
reply_words (reply.Stale front) = codes "stale" ∷ decimal front ∷ []
reply_words (reply.Answer a) = spot_words a.spot ++ decimal a.front ∷ []

-- for each line of a session its number, its command and its reply
abbrev pub reply_lines : ℕ → List Line → List Reply → List (List Word)
reply_lines session (l ∷ ls) (r ∷ rs) =
    (decimal session ∷ decimal l.number ∷ (command_words l.command ++ codes "=" ∷ reply_words r)) ∷ reply_lines session ls rs
reply_lines session _ _ = []

-- the lines of a session, in order
abbrev pub session_lines : ℕ → List Line → List Line
session_lines session script = filter (λ (l : Line). l.session == session) script

-- the reply lines of further sessions, from one on
abbrev pub sessions_lines : ℕ → List Line → List (List Reply) → List (List Word)
sessions_lines session script [] = []
sessions_lines session script (rs ∷ more) = reply_lines session (session_lines session script) rs ++ sessions_lines (session + 1) script more

-- the listing of a script, its history and its replies by session
abbrev pub listing_text : List Line → List Entry → List (List Reply) → List ℕ
listing_text script h replies =
    text_lines
    ((codes "listing" ∷ codes "1" ∷ []) ∷ entry_lines [] 0 h ++ (codes "replies" ∷ []) ∷ sessions_lines 1 script replies ++ (codes "done" ∷ []) ∷ [])
