-- Frames that were made outside the lock.
use Rattle.std.specs.Prelude.{◌≡◌, ℕ, List, take, Some, slice_get, ⊤}
use Rattle.frame_store.specs.declared.frames.Frame.{Frame}
use Rattle.doc_book.specs.declared.entries.Act.TheVariants as act
use Rattle.doc_book.specs.declared.entries.Entry.{Entry}
use Rattle.doc_book.specs.declared.publishing.Publish.{Publish}
use Rattle.doc_book.specs.declared.publishing.Publish.TheVariants as publish
use Rattle.doc_book.specs.Frames.{IsFrameOf}
use Rattle.doc_book.specs.Growing.{entry_of}
use Rattle.doc_book.specs.History.{scene_at, places_at}

-- the frame stands at this place, by this caller with this line, and is legal there: it is a frame of the scene and places
-- of the entries before it
pub record IsCommitted (h : List Entry) (place who line : ℕ) (frame : Frame) : Type 0 where
  pub stands : slice_get h place ≡ Some (entry_of who line (act.Frame frame))
  pub legal : IsFrameOf (scene_at (take place h)) (places_at (take place h)) frame

-- where a frame was entered, this is true of its place
abbrev pub IsPublishedAt : Publish → (ℕ → Type 0) → Type 0
IsPublishedAt (publish.Published place) P = P place
IsPublishedAt (publish.Stale front back) P = ⊤
IsPublishedAt (publish.Memory back) P = ⊤
