-- Edits that can't make a scene infeasible (this project's own): they leave the separations as they were, or take some
-- away.
use Rattle.std.specs.Prelude.{Bool, true, false}
use Rattle.edit_rules.specs.declared.edits.Edit.{Edit}
use Rattle.edit_rules.specs.declared.edits.Edit.TheVariants as edit

-- whether what the edit leaves is feasible wherever the scene before it was. A new size isn't steady: lines in the middle
-- and at the high edge, groups and pages feel it; nor is a new shape: a page does
abbrev pub is_steady : Edit → Bool
is_steady (edit.Put name form x y w h) = false
is_steady (edit.Size name w h) = false
is_steady (edit.Move name x y) = true
is_steady (edit.Shift name at) = true
is_steady (edit.Hold name) = true
is_steady (edit.Free name) = true
is_steady (edit.Remove name) = true
is_steady (edit.Join name a b) = true
is_steady (edit.Unlink name) = true
is_steady (edit.Guide name axis at) = false
is_steady (edit.Align name guide line members) = false
is_steady (edit.Spread name axis gap members) = false
is_steady (edit.Rank name axis gap members) = false
is_steady (edit.Apart name axis a b gap exact) = false
is_steady (edit.Group name pad members) = false
is_steady (edit.Page name x y w h margin rigid) = false
is_steady (edit.Drop name) = true
