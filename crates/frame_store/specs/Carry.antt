-- The carry rule: which places stay after an edit (it is this project's own).
use Rattle.std.specs.Prelude.{ℕ, ℤ, pos, List, map, Bool, ◌&&◌, ◌==◌, if◌then◌else◌, Option, Some, None, slice_get, slice_index_or, position}
use Rattle.std.specs.Ordering.{int_eq}
use Rattle.units.specs.declared.geometry.Axis.TheVariants.{X, Y}
use Rattle.scene_model.specs.declared.variables.Variable.{Variable}
use Rattle.scene_model.specs.Diagram.{Diagram}
use Rattle.scene_model.specs.Variables.{variables, same_variable}
use Rattle.frame_store.specs.declared.places.Places.{Places}

-- the same anchor and the same count of moves
abbrev pub is_unmoved : Variable → Variable → Bool
is_unmoved before after = int_eq before.anchor after.anchor && (before.moves == after.moves)

-- the place of a variable, given the variable of its name and the place before
abbrev pub kept_from : Option Variable → ℤ → Variable → ℤ
kept_from None place v = v.anchor
kept_from (Some u) place v = if is_unmoved u v then place else v.anchor

-- the place of a variable, given the number that its name had before, if it stood
abbrev pub kept_at : List Variable → List ℤ → Option ℕ → Variable → ℤ
kept_at before places None v = v.anchor
kept_at before places (Some at) v = kept_from (slice_get before at) (slice_index_or places at (pos 0)) v

-- where a variable stands after an edit: at its place where it stood before with the same anchor and the same
-- count of moves, else at its anchor
abbrev pub kept_place : List Variable → List ℤ → Variable → ℤ
kept_place before places v = kept_at before places (position (λ (u : Variable). same_variable v.name u.name) before) v

-- the places after an edit that leads from one diagram to another
abbrev pub carried : Diagram → Diagram → Places → Places
carried before after places = record {
  x = map (kept_place (variables before X) places.x) (variables after X);
  y = map (kept_place (variables before Y) places.y) (variables after Y);
}
