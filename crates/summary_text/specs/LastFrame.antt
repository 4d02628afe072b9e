-- What the last frame of a history drew.
use Rattle.std.specs.Prelude.{◌≡◌, List, [], ◌∷◌, ◌++◌, true, if◌then◌else◌}
use Rattle.std.specs.List.{list_any}
use Rattle.scene_model.specs.Diagram.{Diagram}
use Rattle.frame_store.specs.declared.places.Places.{Places}
use Rattle.doc_book.specs.declared.entries.Entry.{Entry}
use Rattle.doc_book.specs.History.{is_frame, places_at, scene_at}

-- the entries up to the last frame, with it; none where there is no frame
abbrev pub through_last_frame : List Entry → List Entry
through_last_frame [] = []
through_last_frame (e ∷ es) = if list_any is_frame (e ∷ es) then e ∷ through_last_frame es else []

-- the scene that the last frame drew, and the places at which it drew the variables
abbrev pub drawn_scene : List Entry → Diagram
drawn_scene h = scene_at (through_last_frame h)

abbrev pub drawn_places : List Entry → Places
drawn_places h = places_at (through_last_frame h)

-- the last entry is a frame, as that of a finished history
pub record EndsInFrame (h : List Entry) : Type 0 where
  pub before : List Entry
  pub last : Entry
  pub split : h ≡ before ++ last ∷ []
  pub frame : is_frame last ≡ true
