-- Frames that are made outside the document: what a job was given, and a frame that was made of it.
use Rattle.std.specs.Prelude.{◌≡◌, ℕ, ◌≤◌, List, length, take}
use Rattle.scene_model.specs.Diagram.{Diagram}
use Rattle.frame_store.specs.declared.places.Places.{Places}
use Rattle.frame_store.specs.declared.frames.Frame.{Frame}
use Rattle.doc_book.specs.declared.entries.Entry.{Entry}
use Rattle.doc_book.specs.declared.hints.Hints.{Hints}
use Rattle.doc_book.specs.Frames.{IsFrameOf}
use Rattle.doc_book.specs.History.{scene_at, places_at}
use Rattle.doc_book.specs.Layable.{IsLayable}
use Rattle.doc_book.specs.Replies.{IsLook, Job}

-- the scene and places are those of the first entries of a history, up to this front, and a look at these entries
-- finds a frame to make: what a publication asks of the frame that was made
pub record IsJobOf (h : List Entry) (budget front : ℕ) (scene : Diagram) (places : Places) : Type 0 where
  pub within : front ≤ length h
  pub scene_is : scene ≡ scene_at (take front h)
  pub places_are : places ≡ places_at (take front h)
  pub found : IsLook (take front h) budget Job

-- the scene and places of a document, the front at which they were taken, and where the layout starts
pub record JobOf : Type 0 where
  pub front : ℕ
  pub scene : Diagram
  pub places : Places
  pub hints : Hints

-- a job, and a frame that was made of it
pub record SolvedOf : Type 0 where
  pub job : JobOf
  pub frame : Frame

-- a frame can be made of the scene and places of the job
abbrev pub IsJob : JobOf → Type 0
IsJob job = IsLayable job.scene job.places

-- the frame is legal for the scene and places of the job
abbrev pub IsSolved : SolvedOf → Type 0
IsSolved solved = IsFrameOf solved.job.scene solved.job.places solved.frame
