-- The table of the grammar: what stands behind the word of each command, in order (it is this project's own).
use Rattle.std.specs.Prelude.{List, [], ◌∷◌, codes, Bool, true, false, bytes_eq}
use Rattle.std.specs.List.{list_any}
use Rattle.units.specs.declared.geometry.Axis.{Axis}
use Rattle.units.specs.declared.geometry.Axis.TheVariants as axis
use Rattle.scene_model.specs.declared.items.AlignLine.{AlignLine}
use Rattle.scene_model.specs.declared.items.AlignLine.TheVariants as line
use Rattle.script_text.specs.Words.{Word}
use Rattle.script_text.specs.declared.keywords.Keyword.{Keyword}
use Rattle.script_text.specs.declared.keywords.Keyword.TheVariants as keyword

-- a choice between words: `x y`, `low mid high`, `least exact`, `soft rigid`
pub data Choice : Type 0 where
  AxisChoice : Choice
  AlignLineChoice : Choice
  ExactnessChoice : Choice
  StiffnessChoice : Choice

-- what stands at a place behind the word of a command: a name, a number, one of the words of a choice, or one name or
-- more up to the end of the line
pub data Slot : Type 0 where
  NameSlot : Slot
  NumberSlot : Slot
  ChoiceSlot : Choice → Slot
  MembersSlot : Slot

-- the word of an axis
abbrev pub axis_word : Axis → Word
axis_word axis.X = codes "x"
axis_word axis.Y = codes "y"

-- the word of a shape's line: its low edge, its middle or its high edge
abbrev pub align_word : AlignLine → Word
align_word line.Low = codes "low"
align_word line.Mid = codes "mid"
align_word line.High = codes "high"

-- at least the gap, or exactly the gap
abbrev pub exact_word : Bool → Word
exact_word false = codes "least"
exact_word true = codes "exact"

-- a page that may grow, or one that keeps its size
abbrev pub rigid_word : Bool → Word
rigid_word false = codes "soft"
rigid_word true = codes "rigid"

-- the words of a choice
abbrev pub choice_words : Choice → List Word
choice_words AxisChoice = axis_word axis.X ∷ axis_word axis.Y ∷ []
choice_words AlignLineChoice = align_word line.Low ∷ align_word line.Mid ∷ align_word line.High ∷ []
choice_words ExactnessChoice = exact_word false ∷ exact_word true ∷ []
choice_words StiffnessChoice = rigid_word false ∷ rigid_word true ∷ []

-- whether it is one of them
abbrev pub is_choice : Choice → Word → Bool
is_choice c w = list_any (bytes_eq w) (choice_words c)

-- a shape's name, then x, y, width and height
abbrev pub put_slots : List Slot
put_slots = NameSlot ∷ NumberSlot ∷ NumberSlot ∷ NumberSlot ∷ NumberSlot ∷ []

-- a shape's name, then two numbers
abbrev pub pair_slots : List Slot
pair_slots = NameSlot ∷ NumberSlot ∷ NumberSlot ∷ []

-- a guideline's name, then its place
abbrev pub shift_slots : List Slot
shift_slots = NameSlot ∷ NumberSlot ∷ []

-- a guideline's name, its axis and its place
abbrev pub guide_slots : List Slot
guide_slots = NameSlot ∷ ChoiceSlot AxisChoice ∷ NumberSlot ∷ []

-- a name
abbrev pub name_slots : List Slot
name_slots = NameSlot ∷ []

-- a link's name, then the names of the shapes that it joins
abbrev pub link_slots : List Slot
link_slots = NameSlot ∷ NameSlot ∷ NameSlot ∷ []

-- an alignment's name, its guideline, the line of a shape, and members
abbrev pub align_slots : List Slot
align_slots = NameSlot ∷ NameSlot ∷ ChoiceSlot AlignLineChoice ∷ MembersSlot ∷ []

-- the name of a spread or a rank, its axis, its gap, and members
abbrev pub row_slots : List Slot
row_slots = NameSlot ∷ ChoiceSlot AxisChoice ∷ NumberSlot ∷ MembersSlot ∷ []

-- the name of a separation, its axis, the two that it sets apart, its gap, and whether that is exact
abbrev pub apart_slots : List Slot
apart_slots = NameSlot ∷ ChoiceSlot AxisChoice ∷ NameSlot ∷ NameSlot ∷ NumberSlot ∷ ChoiceSlot ExactnessChoice ∷ []

-- a group's name, its padding, and members
abbrev pub group_slots : List Slot
group_slots = NameSlot ∷ NumberSlot ∷ MembersSlot ∷ []

-- a page's name, then x, y, width, height and margin, and whether it is rigid
abbrev pub page_slots : List Slot
page_slots = NameSlot ∷ NumberSlot ∷ NumberSlot ∷ NumberSlot ∷ NumberSlot ∷ NumberSlot ∷ ChoiceSlot StiffnessChoice ∷ []

-- what stands behind the word of each command
abbrev pub slots : Keyword → List Slot
slots keyword.Box = put_slots
slots keyword.Oval = put_slots
slots keyword.Diamond = put_slots
slots keyword.Size = pair_slots
slots keyword.Move = pair_slots
slots keyword.Shift = shift_slots
slots keyword.Hold = name_slots
slots keyword.Free = name_slots
slots keyword.Remove = name_slots
slots keyword.Link = link_slots
slots keyword.Unlink = name_slots
slots keyword.Guide = guide_slots
slots keyword.Align = align_slots
slots keyword.Spread = row_slots
slots keyword.Rank = row_slots
slots keyword.Apart = apart_slots
slots keyword.Group = group_slots
slots keyword.Page = page_slots
slots keyword.Drop = name_slots
slots keyword.Undo = []
slots keyword.Layout = []
slots keyword.Where = name_slots
