-- Finished histories.
use Rattle.std.specs.Prelude.{◌≡◌, ℕ, ◌<◌, ◌⊎◌, List, length, take, true, IsSome}
use Rattle.std.specs.List.{AllByRecursion}
use Rattle.doc_book.specs.declared.entries.Entry.{Entry}
use Rattle.doc_book.specs.History.{end_place, after_end, is_frame, IsSettled}
use Rattle.doc_book.specs.Legal.{most_finishing}

-- a frame by caller 0 with line 0
pub record IsFinishing (e : Entry) : Type 0 where
  pub frame : is_frame e ≡ true
  pub who : e.who ≡ 0
  pub line : e.line ≡ 0

-- End stands, and the frames after it go on until the places have settled, or 64 were made
pub record IsFinished (h : List Entry) : Type 0 where
  pub ended : IsSome (end_place h)
  pub frames : AllByRecursion IsFinishing (after_end h)
  pub some : 0 < length (after_end h)
  pub last : IsSettled h ⊎ (length (after_end h) ≡ most_finishing)
  pub first : (n : ℕ) → n < length h → 0 < length (after_end (take n h)) → IsSettled (take n h) → ⊥
