-- The definitions at scripts whose bytes are known.
use Rattle.std.proofs.Common.{◌≡◌, ℕ, List, [], ◌∷◌, ◌++◌, length, map, pos, negsuc, refl, arith}
use Rattle.std.specs.Prelude.{codes, Some, None}
use Rattle.std.specs.Fmt.{digits}
use Rattle.std.proofs.lemmas.Bool.{leb-true}
use Rattle.units.specs.declared.geometry.Axis.TheVariants as axis
use Rattle.scene_model.specs.declared.items.Form.TheVariants as form
use Rattle.scene_model.specs.declared.items.AlignLine.TheVariants as align_line
use Rattle.edit_rules.specs.declared.edits.Edit.{Edit}
use Rattle.edit_rules.specs.declared.edits.Edit.TheVariants as edit
use Rattle.script_text.specs.declared.scripts.Command.{Command}
use Rattle.script_text.specs.declared.scripts.Command.TheVariants as command
use Rattle.script_text.specs.declared.scripts.Line.{Line}
use Rattle.script_text.specs.Words.{spaced}
use Rattle.script_text.specs.Numbers.{number_of}
use Rattle.script_text.specs.Commands.{edit_words, command_words}
use Rattle.script_text.specs.declared.faults.FaultKind.TheVariants as kind
use Rattle.script_text.specs.declared.faults.ScriptFault.{ScriptFault}
use Rattle.script_text.specs.Pieces.{pieces}
use Rattle.script_text.specs.Reading.{fault_at, body_stop, AtHeader, Behind}
use Rattle.script_text.specs.Scripts.{IsLine, IsScript, Spells, line_text}
use Rattle.script_text.specs.Faults.{IsFault}
use Rattle.script_text.proofs.WholeFaults.{fault_sound}

-- the box of the first example, and one left of 0
abbrev first_box : Edit
first_box = edit.Put (codes "a") form.Box (pos 3) (pos 4) (pos 40) (pos 20)

abbrev far_box : Edit
far_box = edit.Put (codes "b_2") form.Box (negsuc 999999) (pos 0) (pos 10000) (pos 1)

-- an alignment of two shapes
abbrev two_aligned : Edit
two_aligned = edit.Align (codes "c") (codes "g") align_line.Mid (codes "a" ∷ codes "b" ∷ [])

text_of_first_box : spaced (edit_words first_box) ≡ codes "box a 3 4 40 20"
unfolding digits
text_of_first_box = refl

text_of_far_box : spaced (edit_words far_box) ≡ codes "box b_2 -1000000 0 10000 1"
unfolding digits
text_of_far_box = refl

text_of_guide : spaced (edit_words (edit.Guide (codes "g") axis.X (pos 200))) ≡ codes "guide g x 200"
unfolding digits
text_of_guide = refl

text_of_align : spaced (edit_words two_aligned) ≡ codes "align c g mid a b"
text_of_align = refl

text_of_where : spaced (command_words (command.Where (codes "g"))) ≡ codes "where g"
text_of_where = refl

text_of_undo : spaced (command_words command.Undo) ≡ codes "undo"
text_of_undo = refl

text_of_layout : spaced (command_words command.Layout) ≡ codes "layout"
text_of_layout = refl

abbrev line : ℕ → Command → Line
line n c = record { number = n; session = 1; command = c }

box_line : IsLine 2 (line 2 (command.Edit first_box))
unfolding digits
box_line = record { numbered = refl; session = (omega arith, omega arith); command = record { fields = (refl, (leb-true _ _ refl, (leb-true _ _ refl, (leb-true _ _ refl, (leb-true _ _ refl, tt))))) }; short = leb-true _ _ refl }

layout_line : (n : ℕ) → IsLine n (line n command.Layout)
unfolding digits
layout_line n = record { numbered = refl; session = (omega arith, omega arith); command = record { fields = tt }; short = leb-true _ _ refl }

undo_line : (n : ℕ) → IsLine n (line n command.Undo)
unfolding digits
undo_line n = record { numbered = refl; session = (omega arith, omega arith); command = record { fields = tt }; short = leb-true _ _ refl }

align_line_2 : IsLine 2 (line 2 (command.Edit two_aligned))
unfolding digits
align_line_2 = record { numbered = refl; session = (omega arith, omega arith); command = record { fields = (refl, (refl, (refl, ((omega arith, (refl, (refl, tt))), tt)))) }; short = leb-true _ _ refl }

guide_line : IsLine 2 (line 2 (command.Edit (edit.Guide (codes "g") axis.X (pos 200))))
unfolding digits
guide_line = record { numbered = refl; session = (omega arith, omega arith); command = record { fields = (refl, (refl, (leb-true _ _ refl, tt))) }; short = leb-true _ _ refl }

where_line : IsLine 3 (line 3 (command.Where (codes "g")))
unfolding digits
where_line = record { numbered = refl; session = (omega arith, omega arith); command = record { fields = (refl, tt) }; short = leb-true _ _ refl }

-- a box and two layouts
spells_first_box : Spells (codes "dunnart 1\n1 box a 3 4 40 20\n1 layout\n1 layout\nend\n") (line 2 (command.Edit first_box) ∷ line 3 command.Layout ∷ line 4 command.Layout ∷ [])
unfolding digits
spells_first_box = record { script = record { few = omega arith; are = (box_line, (layout_line 3, (layout_line 4, tt))) }; text = refl }

-- a guideline, and the question where it stands
spells_guide : Spells (codes "dunnart 1\n1 guide g x 200\n1 where g\nend\n") (line 2 (command.Edit (edit.Guide (codes "g") axis.X (pos 200))) ∷ line 3 (command.Where (codes "g")) ∷ [])
unfolding digits
spells_guide = record { script = record { few = omega arith; are = (guide_line, (where_line, tt)) }; text = refl }

-- members, and an undo
spells_align : Spells (codes "dunnart 1\n1 align c g mid a b\n1 undo\nend\n") (line 2 (command.Edit two_aligned) ∷ line 3 command.Undo ∷ [])
unfolding digits
spells_align = record { script = record { few = omega arith; are = (align_line_2, (undo_line 3, tt)) }; text = refl }

-- no command
spells_empty : Spells (codes "dunnart 1\nend\n") []
spells_empty = record { script = record { few = omega arith; are = tt }; text = refl }

-- near misses
no_minus_zero : number_of (codes "-0") ≡ None
no_minus_zero = refl

no_leading_zero : number_of (codes "03") ≡ None
no_leading_zero = refl

-- ---- faults

-- a fault behind these command lines, in what is left
faulty : (bytes : List ℕ) (front : List Line) (left : List (List ℕ)) (f : ScriptFault) → IsScript front → (left ≡ [] → ⊥) → pieces 10 bytes ≡ codes "dunnart 1" ∷ map line_text front ++ left → body_stop (length front) left ≡ Some f → IsFault bytes f
faulty bytes front left f is some p stop =
    fault_sound bytes f (Behind (map line_text front ++ left) p record { front = front; are = is.are; few = is.few; left = left; some = some; is = refl; stop = stop })

-- no command line in front
abbrev faulty_2 : (bytes : List ℕ) (left : List (List ℕ)) (f : ScriptFault) → (left ≡ [] → ⊥) → pieces 10 bytes ≡ codes "dunnart 1" ∷ left → body_stop 0 left ≡ Some f → IsFault bytes f
faulty_2 bytes left f some p stop = faulty bytes [] left f record { few = omega arith; are = tt } some p stop

nothing : IsFault [] (fault_at 1 kind.Missing)
nothing = fault_sound [] (fault_at 1 kind.Missing) (AtHeader refl)

other_header : IsFault (codes "dunnart 2\nend\n") (fault_at 1 kind.Header)
other_header = fault_sound (codes "dunnart 2\nend\n") (fault_at 1 kind.Header) (AtHeader refl)

cut_header : IsFault (codes "dunnart 1") (fault_at 1 kind.Cut)
cut_header = fault_sound (codes "dunnart 1") (fault_at 1 kind.Cut) (AtHeader refl)

cut_line : IsFault (codes "dunnart 1\n1 box a 0") (fault_at 2 kind.Cut)
cut_line = faulty_2 (codes "dunnart 1\n1 box a 0") (codes "1 box a 0" ∷ []) (fault_at 2 kind.Cut) (λ e. absurd cc) refl refl

no_end : IsFault (codes "dunnart 1\n1 layout\n") (fault_at 3 kind.Missing)
unfolding digits
no_end = faulty (codes "dunnart 1\n1 layout\n") (line 2 command.Layout ∷ []) ([] ∷ []) (fault_at 3 kind.Missing) record { few = omega arith; are = (layout_line 2, tt) } (λ e. absurd cc) refl refl

behind_end : IsFault (codes "dunnart 1\n1 layout\nend\n1 layout\n") (fault_at 4 kind.After)
unfolding digits
behind_end = faulty (codes "dunnart 1\n1 layout\nend\n1 layout\n") (line 2 command.Layout ∷ []) (codes "end" ∷ codes "1 layout" ∷ [] ∷ []) (fault_at 4 kind.After) record { few = omega arith; are = (layout_line 2, tt) } (λ e. absurd cc) refl refl

no_session : IsFault (codes "dunnart 1\nlayout\nend\n") (fault_at 2 kind.Session)
no_session = faulty_2 (codes "dunnart 1\nlayout\nend\n") (codes "layout" ∷ codes "end" ∷ [] ∷ []) (fault_at 2 kind.Session) (λ e. absurd cc) refl refl

no_command : IsFault (codes "dunnart 1\n1 bax a 3 4 40 20\nend\n") (fault_at 2 kind.Command)
no_command = faulty_2 (codes "dunnart 1\n1 bax a 3 4 40 20\nend\n") (codes "1 bax a 3 4 40 20" ∷ codes "end" ∷ [] ∷ []) (fault_at 2 kind.Command) (λ e. absurd cc) refl refl

undo_of_name : IsFault (codes "dunnart 1\n1 undo a\nend\n") (fault_at 2 kind.Fields)
undo_of_name = faulty_2 (codes "dunnart 1\n1 undo a\nend\n") (codes "1 undo a" ∷ codes "end" ∷ [] ∷ []) (fault_at 2 kind.Fields) (λ e. absurd cc) refl refl

two_spaces : IsFault (codes "dunnart 1\n1 box a  3 4 40 20\nend\n") (fault_at 2 kind.Fields)
two_spaces = faulty_2 (codes "dunnart 1\n1 box a  3 4 40 20\nend\n") (codes "1 box a  3 4 40 20" ∷ codes "end" ∷ [] ∷ []) (fault_at 2 kind.Fields) (λ e. absurd cc) refl refl

no_member : IsFault (codes "dunnart 1\n1 align c g mid\nend\n") (fault_at 2 kind.Fields)
no_member = faulty_2 (codes "dunnart 1\n1 align c g mid\nend\n") (codes "1 align c g mid" ∷ codes "end" ∷ [] ∷ []) (fault_at 2 kind.Fields) (λ e. absurd cc) refl refl

other_choice : IsFault (codes "dunnart 1\n1 guide g z 200\nend\n") (fault_at 2 kind.Fields)
other_choice = faulty_2 (codes "dunnart 1\n1 guide g z 200\nend\n") (codes "1 guide g z 200" ∷ codes "end" ∷ [] ∷ []) (fault_at 2 kind.Fields) (λ e. absurd cc) refl refl
