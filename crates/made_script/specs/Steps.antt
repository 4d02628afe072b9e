-- The lines of a made script, one by one (the form is this project's own).
use Rattle.std.specs.Prelude.{ℕ, ◌+◌, ◌-◌, ◌*◌, ◌%◌, ◌==◌, pos, false, [], ◌∷◌, decimal, if◌then◌else◌}
use Rattle.units.specs.declared.geometry.Axis.{Axis}
use Rattle.units.specs.declared.geometry.Axis.TheVariants.{X, Y}
use Rattle.scene_model.specs.Names.{NameOf}
use Rattle.scene_model.specs.declared.items.AlignLine.TheVariants as line
use Rattle.scene_model.specs.declared.items.Form.TheVariants as form
use Rattle.edit_rules.specs.declared.edits.Edit.TheVariants as edit
use Rattle.script_text.specs.declared.scripts.Command.{Command}
use Rattle.script_text.specs.declared.scripts.Command.TheVariants as command
use Rattle.made_script.specs.declared.steps.Kind.{Kind}
use Rattle.made_script.specs.declared.steps.Kind.TheVariants as kind
use Rattle.made_script.specs.Draws.{after, drawn, place_drawn}

-- a name: a letter and a number
abbrev pub item_name : ℕ → ℕ → NameOf
item_name letter number = letter ∷ decimal number

-- the box of a number: `b` and the number
abbrev pub box_of : ℕ → NameOf
box_of number = item_name 98 number

-- two different boxes of the 96: one, and another that stands 1 to 95 behind it in the round
abbrev pub one_box : ℕ → NameOf
one_box first = box_of (drawn first 96 + 1)

abbrev pub other_box : ℕ → ℕ → NameOf
other_box first second = box_of ((drawn first 96 + 1 + drawn second 95) % 96 + 1)

-- an axis that is drawn
abbrev pub axis_drawn : ℕ → Axis
axis_drawn state = if drawn state 2 == 0 then X else Y

-- how many draws a line takes
abbrev pub draws_of : Kind → ℕ
draws_of kind.Box = 4
draws_of kind.Guide = 1
draws_of kind.Link = 2
draws_of kind.Align = 0
draws_of kind.Apart = 4
draws_of kind.Move = 3
draws_of kind.Undo = 0
draws_of kind.Layout = 0

-- The command of the line of its kind with this number, drawn from this state on: the draws are made in the order in
-- which the words stand.
abbrev pub command_of : Kind → ℕ → ℕ → Command
command_of kind.Box k state = command.Edit (edit.Put (box_of k) form.Box (place_drawn (after 1 state)) (place_drawn (after 2 state))
    (pos (20 + drawn (after 3 state) 81)) (pos (10 + drawn (after 4 state) 41)))
command_of kind.Guide k state = command.Edit (edit.Guide (item_name 103 k) X (place_drawn (after 1 state)))
command_of kind.Link k state = command.Edit (edit.Join (item_name 108 k) (one_box (after 1 state)) (other_box (after 1 state) (after 2 state)))
command_of kind.Align k state = command.Edit (edit.Align (item_name 99 k) (item_name 103 k) line.Mid
    (box_of (12 * k - 11) ∷ box_of (12 * k - 7) ∷ box_of (12 * k - 3) ∷ []))
command_of kind.Apart k state = command.Edit (edit.Apart (item_name 100 k) (axis_drawn (after 1 state))
    (one_box (after 2 state)) (other_box (after 2 state) (after 3 state)) (pos (drawn (after 4 state) 201)) false)
command_of kind.Move k state = command.Edit (edit.Move (box_of (drawn (after 1 state) 96 + 1)) (place_drawn (after 2 state)) (place_drawn (after 3 state)))
command_of kind.Undo k state = command.Undo
command_of kind.Layout k state = command.Layout
