-- Where a layout starts: the separations that push in the last frame. Any start leads to the one projection; a good one
-- makes the way short.
use Rattle.std.specs.Prelude.{ℕ, ◌+◌, pos, List, [], ◌∷◌, fold, Bool, not, if◌then◌else◌}
use Rattle.std.specs.Ordering.{int_eq}
use Rattle.frac128.specs.Fraction.{Fraction}
use Rattle.frame_store.specs.declared.frames.Frame.{Frame}
use Rattle.doc_book.specs.declared.entries.Entry.{Entry}
use Rattle.doc_book.specs.declared.entries.Act.{Act}
use Rattle.doc_book.specs.declared.entries.Act.TheVariants as act
use Rattle.doc_book.specs.declared.hints.Hints.{Hints}

-- the multiplier isn't 0
abbrev pub is_pushing : Fraction → Bool
is_pushing m = not (int_eq m.num (pos 0))

-- the numbers, from k on, of the multipliers that aren't 0
abbrev pub pushing_from : ℕ → List Fraction → List ℕ
pushing_from k [] = []
pushing_from k (m ∷ ms) = if is_pushing m then k ∷ pushing_from (k + 1) ms else pushing_from (k + 1) ms

-- the numbers of the separations whose multiplier isn't 0, in order
abbrev pub pushing : List Fraction → List ℕ
pushing multipliers = pushing_from 0 multipliers

-- no separations
abbrev pub no_hints : Hints
no_hints = record { x = []; y = [] }

-- the separations that push in a frame, on each axis
abbrev pub hints_of : Frame → Hints
hints_of frame = record { x = pushing frame.x.multipliers; y = pushing frame.y.multipliers }

-- those of the last frame, after one act more
abbrev pub hints_after : Hints → Act → Hints
hints_after hints (act.Edit e) = hints
hints_after hints act.Undo = hints
hints_after hints (act.Frame f) = hints_of f
hints_after hints act.End = hints

-- the separations that push in the last frame of a history, by their numbers there, and none where it has no frame
abbrev pub hints_at : List Entry → Hints
hints_at h = fold (λ hints (e : Entry). hints_after hints e.act) no_hints h
