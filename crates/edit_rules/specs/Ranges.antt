-- The ranges of the numbers of an edit, in diagram units (they are this project's own).
use Rattle.std.specs.Prelude.{ℤ, pos, negsuc, ◌≤ℤ◌, int_lt, Bool, ◌||◌, List, [], ◌∷◌}
use Rattle.edit_rules.specs.declared.edits.Edit.{Edit}
use Rattle.edit_rules.specs.declared.edits.Edit.TheVariants as edit
use Rattle.edit_rules.specs.declared.ranges.Ranged.{Ranged}

-- a place or gap: within 1,000,000 of 0
abbrev pub coordinate : ℤ → Ranged
coordinate z = record { value = z; least = negsuc 999999; most = pos 1000000 }

-- the width or height of a shape: 1 to 10,000
abbrev pub extent : ℤ → Ranged
extent z = record { value = z; least = pos 1; most = pos 10000 }

-- the width or height of a page: 1 to 1,000,000
abbrev pub page_extent : ℤ → Ranged
page_extent z = record { value = z; least = pos 1; most = pos 1000000 }

-- a pad or margin: 0 to 10,000
abbrev pub border : ℤ → Ranged
border z = record { value = z; least = pos 0; most = pos 10000 }

-- a number lies in its range, both ends included
abbrev pub IsWithin : Ranged → Type 0
IsWithin r = (r.least ≤ℤ r.value) × (r.value ≤ℤ r.most)

-- whether a number lies below the least or above the most
abbrev pub is_outside : Ranged → Bool
is_outside r = int_lt r.value r.least || int_lt r.most r.value

-- the numbers of an edit, in the order of its line, with their ranges
abbrev pub numbers : Edit → List Ranged
numbers (edit.Put name form x y w h) = coordinate x ∷ coordinate y ∷ extent w ∷ extent h ∷ []
numbers (edit.Size name w h) = extent w ∷ extent h ∷ []
numbers (edit.Move name x y) = coordinate x ∷ coordinate y ∷ []
numbers (edit.Shift name at) = coordinate at ∷ []
numbers (edit.Guide name axis at) = coordinate at ∷ []
numbers (edit.Spread name axis gap members) = coordinate gap ∷ []
numbers (edit.Rank name axis gap members) = coordinate gap ∷ []
numbers (edit.Apart name axis a b gap exact) = coordinate gap ∷ []
numbers (edit.Group name pad members) = border pad ∷ []
numbers (edit.Page name x y w h margin rigid) = coordinate x ∷ coordinate y ∷ page_extent w ∷ page_extent h ∷ border margin ∷ []
numbers (edit.Hold name) = []
numbers (edit.Free name) = []
numbers (edit.Remove name) = []
numbers (edit.Join name a b) = []
numbers (edit.Unlink name) = []
numbers (edit.Align name guide line members) = []
numbers (edit.Drop name) = []
