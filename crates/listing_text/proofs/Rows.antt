-- The texts of worked listings, by computation.
use Rattle.std.specs.Prelude.{◌≡◌, ℕ, ℤ, pos, negsuc, false, List, [], ◌∷◌, codes, map, refl}
use Rattle.std.specs.Fmt.{digits}
use Rattle.units.specs.declared.geometry.Axis.TheVariants.{X, Y}
use Rattle.scene_model.specs.declared.items.Form.TheVariants.{Box}
use Rattle.scene_model.specs.declared.items.Shape.{Shape}
use Rattle.scene_model.specs.Diagram.{Diagram}
use Rattle.edit_rules.specs.declared.edits.Edit.{Edit}
use Rattle.edit_rules.specs.declared.edits.Edit.TheVariants as edit
use Rattle.edit_rules.specs.Effects.{edited}
use Rattle.edit_rules.specs.declared.refusals.Counted.TheVariants as counted
use Rattle.edit_rules.specs.declared.refusals.Refusal.TheVariants as refusal
use Rattle.frac128.specs.Fraction.{Fraction, whole}
use Rattle.multiplier_check.specs.declared.certificate.Certificate.{Certificate}
use Rattle.frame_store.specs.declared.frames.Frame.{Frame}
use Rattle.script_text.specs.declared.scripts.Command.TheVariants as command
use Rattle.script_text.specs.declared.scripts.Line.{Line}
use Rattle.doc_book.specs.declared.entries.Entry.{Entry}
use Rattle.doc_book.specs.declared.entries.Act.TheVariants as act
use Rattle.doc_book.specs.declared.replies.Reply.{Reply}
use Rattle.doc_book.specs.declared.replies.Reply.TheVariants as reply
use Rattle.doc_book.specs.declared.replies.Refused.{Refused}
use Rattle.doc_book.specs.declared.asking.Spot.TheVariants as spot
use Rattle.doc_book.specs.Listing.{text_lines, certificate_lines, refusal_words, reply_words, listing_text}

no_replies : List (List Reply)
no_replies = [] ∷ [] ∷ [] ∷ [] ∷ [] ∷ [] ∷ [] ∷ [] ∷ []

abbrev no_separations : List Fraction → Certificate
no_separations places = record { places = places; multipliers = [] }

abbrev nothing : Frame
nothing = record { desired = record { x = []; y = [] }; x = no_separations []; y = no_separations [] }

abbrev end : Entry
end = record { who = 0; line = 0; act = act.End }

abbrev finishing : Frame → Entry
finishing f = record { who = 0; line = 0; act = act.Frame f }

-- a script without lines: End, and the frame of nothing
empty_script : listing_text [] (end ∷ finishing nothing ∷ []) no_replies ≡ codes "listing 1\n0 0 0 end\n1 0 0 frame\nreplies\ndone\n"
unfolding digits no_replies
empty_script = refl

abbrev a_box : Edit
a_box = edit.Put (codes "a") Box (pos 3) (pos 4) (pos 40) (pos 20)

abbrev one_frame : Frame
one_frame = record { desired = record { x = pos 3 ∷ []; y = pos 4 ∷ [] }; x = no_separations (whole (pos 3) ∷ []); y = no_separations (whole (pos 4) ∷ []) }

abbrev script : List Line
script =
    record { number = 2; session = 1; command = command.Edit a_box } ∷ record { number = 3; session = 1; command = command.Layout }
    ∷ record { number = 4; session = 1; command = command.Layout } ∷ []

abbrev history : List Entry
history = record { who = 1; line = 2; act = act.Edit a_box } ∷ record { who = 1; line = 3; act = act.Frame one_frame } ∷ end ∷ finishing one_frame ∷ []

abbrev replies : List (List Reply)
replies = (reply.Accepted 0 ∷ reply.Published 1 ∷ reply.Idle 2 ∷ []) ∷ [] ∷ [] ∷ [] ∷ [] ∷ [] ∷ [] ∷ [] ∷ []

-- a box, a layout, and a layout with nothing left to do
first_box : listing_text script history replies
    ≡ codes "listing 1\n0 1 2 box a 3 4 40 20\n1 1 3 frame\nx a 3 3\ny a 4 4\n2 0 0 end\n3 0 0 frame\nx a 3 3\ny a 4 4\nreplies\n1 2 box a 3 4 40 20 = accepted 0\n1 3 layout = published 1\n1 4 layout = idle 2\ndone\n"
unfolding digits edited
first_box = refl

abbrev asks_undo : ℕ → Line
asks_undo number = record { number = number; session = 1; command = command.Undo }

abbrev undo_script : List Line
undo_script = record { number = 2; session = 1; command = command.Edit a_box } ∷ asks_undo 3 ∷ asks_undo 4 ∷ record { number = 5; session = 1; command = command.Layout } ∷ []

abbrev undo_history : List Entry
undo_history = record { who = 1; line = 2; act = act.Edit a_box } ∷ record { who = 1; line = 3; act = act.Undo } ∷ end ∷ finishing nothing ∷ []

abbrev nothing_left : Refused
nothing_left = record { refusal = refusal.NothingToUndo; front = 2 }

abbrev undo_replies : List (List Reply)
undo_replies = (reply.Accepted 0 ∷ reply.Accepted 1 ∷ reply.Refused nothing_left ∷ reply.Stale 2 ∷ []) ∷ [] ∷ [] ∷ [] ∷ [] ∷ [] ∷ [] ∷ [] ∷ []

-- a box that is undone, an undo with nothing left, and a frame that came too late: the last frame has no variable
undo : listing_text undo_script undo_history undo_replies
    ≡ codes "listing 1\n0 1 2 box a 3 4 40 20\n1 1 3 undo\n2 0 0 end\n3 0 0 frame\nreplies\n1 2 box a 3 4 40 20 = accepted 0\n1 3 undo = accepted 1\n1 4 undo = refused 2 nothing\n1 5 layout = stale 2\ndone\n"
unfolding digits edited
undo = refl

-- ---- where items stand, and refusals

-- a shape, a guideline and a group, each with the front
spots : text_lines (map (λ a. reply_words (reply.Answer a)) (
    record { spot = spot.Shape (pos 0) (negsuc 2); front = 5 } ∷ record { spot = spot.Guide Y (pos 200); front = 6 }
    ∷ record { spot = spot.Area (negsuc 14) (pos 0) (pos 55) (pos 35); front = 7 } ∷ []))
    ≡ codes "at 0 -3 5\nguide y 200 6\narea -15 0 55 35 7\n"
unfolding digits
spots = refl

-- another kind, a name that is listed twice, an item that is used, and too many members
causes : text_lines (map refusal_words (
    refusal.Kind (codes "a") ∷ refusal.Twice (codes "b") ∷ refusal.InUse (codes "l") ∷ refusal.Limit counted.Members 128 ∷ []))
    ≡ codes "kind a\ntwice b\ninuse l\nlimit members 128\n"
unfolding digits
causes = refl

-- ---- frames with multipliers

abbrev box_at : List ℕ → ℤ → Shape
box_at name x = record { name = name; form = Box; x = x; y = pos 0; w = pos 10; h = pos 10; held = false; moves = 0 }

abbrev of_shapes : List Shape → Diagram
of_shapes shapes = record { shapes = shapes; guides = []; links = []; compounds = []; groups = []; pages = [] }

abbrev third : ℤ → Fraction
third n = record { num = n; den = 3 }

-- three boxes at 0, 0 and 1, each to stand 5 behind the one before it
chain_of_three : text_lines
    (certificate_lines X (of_shapes (box_at (codes "a") (pos 0) ∷ box_at (codes "b") (pos 0) ∷ box_at (codes "c") (pos 1) ∷ [])) (pos 0 ∷ pos 0 ∷ pos 1 ∷ [])
    (record { places = third (negsuc 13) ∷ third (pos 1) ∷ third (pos 16) ∷ []; multipliers = third (pos 28) ∷ third (pos 26) ∷ [] }))
    ≡ codes "x a 0 -14/3\nx b 0 1/3\nx c 1 16/3\nx #0 28/3\nx #1 26/3\n"
unfolding digits
chain_of_three = refl

-- three boxes at 0: one separation isn't tight, so its multiplier is 0 and has no line
one_of_two : text_lines
    (certificate_lines X (of_shapes (box_at (codes "a") (pos 0) ∷ box_at (codes "b") (pos 0) ∷ box_at (codes "c") (pos 0) ∷ [])) (pos 0 ∷ pos 0 ∷ pos 0 ∷ [])
    (record { places = whole (pos 0) ∷ whole (pos 5) ∷ whole (negsuc 4) ∷ []; multipliers = whole (pos 0) ∷ whole (pos 10) ∷ [] }))
    ≡ codes "x a 0 0\nx b 0 5\nx c 0 -5\nx #1 10\n"
unfolding digits
one_of_two = refl
