-- The first element of a list of which something holds.
use Rattle.std.specs.Prelude.{◌≡◌, ℕ, ◌<◌, List, Some, slice_get}

-- an element of a list, at whose place something holds, and holds at no place before it
pub record IsFirst {A : Type 0} (Holds : ℕ → A → Type 0) (list : List A) (element : A) : Type 0 where
  pub at : ℕ
  pub there : slice_get list at ≡ Some element
  pub holds : Holds at element
  pub first : (k : ℕ) (other : A) → k < at → slice_get list k ≡ Some other → Holds k other → ⊥

-- an element of a list stands at an earlier place too
pub record IsRepeat {A : Type 0} (list : List A) (at : ℕ) (element : A) : Type 0 where
  pub earlier : ℕ
  pub before : earlier < at
  pub same : slice_get list earlier ≡ Some element
