-- Whether items can be moved once more.
use Rattle.std.specs.Prelude.{ℕ, ◌<◌, IfSome, ⊤}
use Rattle.scene_model.specs.declared.items.Thing.{Thing}
use Rattle.scene_model.specs.declared.items.Thing.TheVariants as thing
use Rattle.scene_model.specs.Names.{NameOf}
use Rattle.scene_model.specs.Diagram.{Diagram}
use Rattle.scene_model.specs.Items.{thing_named}
use Rattle.edit_rules.specs.declared.edits.Edit.{Edit}
use Rattle.edit_rules.specs.declared.edits.Edit.TheVariants as edit

-- how often an item was moved by an edit
abbrev pub moves_of : Thing → ℕ
moves_of (thing.Shape s) = s.moves
moves_of (thing.Guide g) = g.moves
moves_of (thing.Link l) = 0
moves_of (thing.Compound c) = 0
moves_of (thing.Group g) = 0
moves_of (thing.Page p) = 0

-- the item of a name was moved fewer than 2^32 - 1 times, so that it can be moved once more
abbrev pub CanMove : Diagram → NameOf → Type 0
CanMove d name = IfSome (thing_named d name) (λ t. moves_of t < 4294967295)

-- the item that a move or shift names can be moved once more
abbrev pub HasMovesLeft : Diagram → Edit → Type 0
HasMovesLeft d (edit.Move name x y) = CanMove d name
HasMovesLeft d (edit.Shift name at) = CanMove d name
HasMovesLeft d (edit.Put name form x y w h) = ⊤
HasMovesLeft d (edit.Size name w h) = ⊤
HasMovesLeft d (edit.Hold name) = ⊤
HasMovesLeft d (edit.Free name) = ⊤
HasMovesLeft d (edit.Remove name) = ⊤
HasMovesLeft d (edit.Join name a b) = ⊤
HasMovesLeft d (edit.Unlink name) = ⊤
HasMovesLeft d (edit.Guide name axis at) = ⊤
HasMovesLeft d (edit.Align name guide line members) = ⊤
HasMovesLeft d (edit.Spread name axis gap members) = ⊤
HasMovesLeft d (edit.Rank name axis gap members) = ⊤
HasMovesLeft d (edit.Apart name axis a b gap exact) = ⊤
HasMovesLeft d (edit.Group name pad members) = ⊤
HasMovesLeft d (edit.Page name x y w h margin rigid) = ⊤
HasMovesLeft d (edit.Drop name) = ⊤
