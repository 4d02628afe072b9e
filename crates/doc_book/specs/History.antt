-- Standing edits, scenes and places of a history.
use Rattle.std.specs.Prelude.{◌≡◌, ℕ, ◌+◌, List, [], ◌∷◌, ◌++◌, fold, count_by, Bool, true, false, if◌then◌else◌, Option, Some, None}
use Rattle.std.specs.Option.{option_map}
use Rattle.scene_model.specs.Diagram.{Diagram}
use Rattle.edit_rules.specs.declared.edits.Edit.{Edit}
use Rattle.edit_rules.specs.Effects.{scene_of}
use Rattle.undo_store.specs.Along.{without_last}
use Rattle.frame_store.specs.declared.places.Places.{Places}
use Rattle.frame_store.specs.Frames.{drawn}
use Rattle.frame_store.specs.Carry.{carried}
use Rattle.doc_book.specs.declared.entries.Entry.{Entry}
use Rattle.doc_book.specs.declared.entries.Act.{Act}
use Rattle.doc_book.specs.declared.entries.Act.TheVariants as act

-- the standing edits after an act: an edit is added at the end, an undo takes the last one off, whoever made it, all
-- else changes nothing
abbrev pub edits_after : List Edit → Act → List Edit
edits_after edits (act.Edit e) = edits ++ e ∷ []
edits_after edits act.Undo = without_last edits
edits_after edits (act.Frame f) = edits
edits_after edits act.End = edits

-- the standing edits of a history
abbrev pub standing : List Entry → List Edit
standing h = fold (λ edits (e : Entry). edits_after edits e.act) [] h

-- the scene of a history: its standing edits applied in turn to the empty scene
abbrev pub scene_at : List Entry → Diagram
scene_at h = scene_of (standing h)

-- the places of no variables
abbrev pub no_places : Places
no_places = record { x = []; y = [] }

-- the places after an act that leads from one scene to another: carried after an edit or undo, drawn after a frame
abbrev pub places_after : Act → Diagram → Diagram → Places → Places
places_after (act.Edit e) before after places = carried before after places
places_after act.Undo before after places = carried before after places
places_after (act.Frame f) before after places = drawn f
places_after act.End before after places = places

-- what stands after a part of a history
pub record Moment : Type 0 where
  pub edits : List Edit
  pub places : Places

-- what stands after one entry more: its edits, and the places that its act leaves
abbrev pub next_moment : Moment → Entry → Moment
next_moment m e = record {
  edits = edits_after m.edits e.act;
  places = places_after e.act (scene_of m.edits) (scene_of (edits_after m.edits e.act)) m.places;
}

-- what stands after a whole history, from no edits and no places on
abbrev pub moment_of : List Entry → Moment
moment_of h = fold next_moment (record { edits = []; places = no_places }) h

-- where the variables stand after a history, in whole diagram units
abbrev pub places_at : List Entry → Places
places_at h = (moment_of h).places

-- the act ends the document
abbrev pub is_end_act : Act → Bool
is_end_act (act.Edit e) = false
is_end_act act.Undo = false
is_end_act (act.Frame f) = false
is_end_act act.End = true

-- the act is a frame
abbrev pub is_frame_act : Act → Bool
is_frame_act (act.Edit e) = false
is_frame_act act.Undo = false
is_frame_act (act.Frame f) = true
is_frame_act act.End = false

-- the entry is End
abbrev pub is_end : Entry → Bool
is_end e = is_end_act e.act

-- the entry is a frame
abbrev pub is_frame : Entry → Bool
is_frame e = is_frame_act e.act

-- the place of End in a history, where it stands
abbrev pub end_place : List Entry → Option ℕ
end_place [] = None
end_place (e ∷ es) = if is_end e then Some 0 else option_map (λ k. k + 1) (end_place es)

-- how many frames a history has
abbrev pub frame_count : List Entry → ℕ
frame_count h = count_by is_frame h

-- the entries after End
abbrev pub after_end : List Entry → List Entry
after_end [] = []
after_end (e ∷ es) = if is_end e then es else after_end es

-- the last entry is a frame, and the places with it are those without it
pub record IsSettled (h : List Entry) : Type 0 where
  pub before : List Entry
  pub last : Entry
  pub split : h ≡ before ++ last ∷ []
  pub frame : is_frame last ≡ true
  pub same : places_at h ≡ places_at before
