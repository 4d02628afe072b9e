-- The commands of a script (they are this project's own): for each command its word and its fields, in the order
-- of its line, and with them the words of its text.
use Rattle.std.specs.Prelude.{◌≡◌, ◌<◌, ◌^◌, ℤ, nat_abs, List, [], ◌∷◌, ◌++◌, length, true, ⊤}
use Rattle.std.specs.Fmt.{signed_decimal}
use Rattle.units.specs.Name.{is_name}
use Rattle.scene_model.specs.declared.items.Form.{Form}
use Rattle.scene_model.specs.declared.items.Form.TheVariants as form
use Rattle.edit_rules.specs.declared.edits.Edit.{Edit}
use Rattle.edit_rules.specs.declared.edits.Edit.TheVariants as edit
use Rattle.script_text.specs.declared.scripts.Command.{Command}
use Rattle.script_text.specs.declared.scripts.Command.TheVariants as command
use Rattle.script_text.specs.Words.{Word}
use Rattle.script_text.specs.Keywords.{keyword_word}
use Rattle.script_text.specs.Grammar.{Choice, AxisChoice, AlignLineChoice, ExactnessChoice, StiffnessChoice, Slot, NameSlot, NumberSlot, ChoiceSlot, MembersSlot, is_choice, axis_word, align_word, exact_word, rigid_word}
use Rattle.script_text.specs.declared.keywords.Keyword.{Keyword}
use Rattle.script_text.specs.declared.keywords.Keyword.TheVariants as keyword

-- a field of a command: a name, a number, a word of a choice, or a list of names
pub data Field : Type 0 where
  NameField : Word → Field
  NumberField : ℤ → Field
  ChoiceField : Choice → Word → Field
  MembersField : List Word → Field

-- the place where it can stand
abbrev pub slot_of : Field → Slot
slot_of (NameField n) = NameSlot
slot_of (NumberField z) = NumberSlot
slot_of (ChoiceField c w) = ChoiceSlot c
slot_of (MembersField ms) = MembersSlot

-- ---- the table: the word of each command, and its fields

-- the command that puts a shape of the form
abbrev pub form_keyword : Form → Keyword
form_keyword form.Box = keyword.Box
form_keyword form.Oval = keyword.Oval
form_keyword form.Diamond = keyword.Diamond

-- the command of an edit; that of a new shape is the one of its form
abbrev pub edit_keyword : Edit → Keyword
edit_keyword (edit.Put n f x y w h) = form_keyword f
edit_keyword (edit.Size n w h) = keyword.Size
edit_keyword (edit.Move n x y) = keyword.Move
edit_keyword (edit.Shift n p) = keyword.Shift
edit_keyword (edit.Hold n) = keyword.Hold
edit_keyword (edit.Free n) = keyword.Free
edit_keyword (edit.Remove n) = keyword.Remove
edit_keyword (edit.Join n a b) = keyword.Link
edit_keyword (edit.Unlink n) = keyword.Unlink
edit_keyword (edit.Guide n axis p) = keyword.Guide
edit_keyword (edit.Align n guide line ms) = keyword.Align
edit_keyword (edit.Spread n axis gap ms) = keyword.Spread
edit_keyword (edit.Rank n axis gap ms) = keyword.Rank
edit_keyword (edit.Apart n axis a b gap exact) = keyword.Apart
edit_keyword (edit.Group n pad ms) = keyword.Group
edit_keyword (edit.Page n x y w h margin rigid) = keyword.Page
edit_keyword (edit.Drop n) = keyword.Drop

-- the fields of an edit, in the order of its line: the name first and members last, numbers on X before those on Y,
-- places before sizes
abbrev pub edit_fields : Edit → List Field
edit_fields (edit.Put n f x y w h) = NameField n ∷ NumberField x ∷ NumberField y ∷ NumberField w ∷ NumberField h ∷ []
edit_fields (edit.Size n w h) = NameField n ∷ NumberField w ∷ NumberField h ∷ []
edit_fields (edit.Move n x y) = NameField n ∷ NumberField x ∷ NumberField y ∷ []
edit_fields (edit.Shift n p) = NameField n ∷ NumberField p ∷ []
edit_fields (edit.Hold n) = NameField n ∷ []
edit_fields (edit.Free n) = NameField n ∷ []
edit_fields (edit.Remove n) = NameField n ∷ []
edit_fields (edit.Join n a b) = NameField n ∷ NameField a ∷ NameField b ∷ []
edit_fields (edit.Unlink n) = NameField n ∷ []
edit_fields (edit.Guide n axis p) = NameField n ∷ ChoiceField AxisChoice (axis_word axis) ∷ NumberField p ∷ []
edit_fields (edit.Align n guide line ms) = NameField n ∷ NameField guide ∷ ChoiceField AlignLineChoice (align_word line) ∷ MembersField ms ∷ []
edit_fields (edit.Spread n axis gap ms) = NameField n ∷ ChoiceField AxisChoice (axis_word axis) ∷ NumberField gap ∷ MembersField ms ∷ []
edit_fields (edit.Rank n axis gap ms) = NameField n ∷ ChoiceField AxisChoice (axis_word axis) ∷ NumberField gap ∷ MembersField ms ∷ []
edit_fields (edit.Apart n axis a b gap exact) = NameField n ∷ ChoiceField AxisChoice (axis_word axis) ∷ NameField a ∷ NameField b ∷ NumberField gap ∷ ChoiceField ExactnessChoice (exact_word exact) ∷ []
edit_fields (edit.Group n pad ms) = NameField n ∷ NumberField pad ∷ MembersField ms ∷ []
edit_fields (edit.Page n x y w h margin rigid) = NameField n ∷ NumberField x ∷ NumberField y ∷ NumberField w ∷ NumberField h ∷ NumberField margin ∷ ChoiceField StiffnessChoice (rigid_word rigid) ∷ []
edit_fields (edit.Drop n) = NameField n ∷ []

-- the keyword of a command
abbrev pub command_keyword : Command → Keyword
command_keyword (command.Edit e) = edit_keyword e
command_keyword command.Undo = keyword.Undo
command_keyword command.Layout = keyword.Layout
command_keyword (command.Where n) = keyword.Where

-- the fields of a command; an undo and a layout have none
abbrev pub command_fields : Command → List Field
command_fields (command.Edit e) = edit_fields e
command_fields command.Undo = []
command_fields command.Layout = []
command_fields (command.Where n) = NameField n ∷ []

-- the word of an edit, and of a command
abbrev pub edit_word : Edit → Word
edit_word e = keyword_word (edit_keyword e)

abbrev pub command_word : Command → Word
command_word c = keyword_word (command_keyword c)

-- ---- the words of a text

-- the words of a field: a name is its bytes, a number is decimal, with `-` before it below 0; members are their names
abbrev pub field_words : Field → List Word
field_words (NameField n) = n ∷ []
field_words (NumberField z) = signed_decimal z ∷ []
field_words (ChoiceField c w) = w ∷ []
field_words (MembersField ms) = ms

-- the words of all fields, in order
abbrev pub fields_words : List Field → List Word
fields_words [] = []
fields_words (f ∷ fs) = field_words f ++ fields_words fs

-- the words of an edit: its word, then those of its fields
abbrev pub edit_words : Edit → List Word
edit_words e = edit_word e ∷ fields_words (edit_fields e)

-- the words of a command
abbrev pub command_words : Command → List Word
command_words c = command_word c ∷ fields_words (command_fields c)

-- ---- what a script may say

-- each word of a list is a name
abbrev pub AreNames : List Word → Type 0
AreNames [] = ⊤
AreNames (w ∷ ws) = (is_name w ≡ true) × AreNames ws

-- a name that is one, a number of at most 9 digits, a word of its choice, and one name or more
abbrev pub IsField : Field → Type 0
IsField (NameField n) = is_name n ≡ true
IsField (NumberField z) = nat_abs z < 10 ^ 9
IsField (ChoiceField c w) = is_choice c w ≡ true
IsField (MembersField ms) = (0 < length ms) × AreNames ms

-- each field of a list is one
abbrev pub AreFields : List Field → Type 0
AreFields [] = ⊤
AreFields (f ∷ fs) = IsField f × AreFields fs

-- a command that a script can have: each of its fields is one
pub record IsCommand (c : Command) : Type 0 where
  pub fields : AreFields (command_fields c)
