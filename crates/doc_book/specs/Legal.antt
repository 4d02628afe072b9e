-- Which entries may follow, and legal histories.
use Rattle.std.specs.Prelude.{◌≡◌, ℕ, ◌<◌, List, [], ◌∷◌, ◌++◌, length, None, MatchOption, ⊤}
use Rattle.doc_book.specs.declared.entries.Entry.{Entry}
use Rattle.doc_book.specs.declared.entries.Act.{Act}
use Rattle.doc_book.specs.declared.entries.Act.TheVariants as act
use Rattle.doc_book.specs.Frames.{IsFrameOf}
use Rattle.doc_book.specs.History.{scene_at, places_at, end_place, frame_count, after_end}
use Rattle.doc_book.specs.Verdicts.{IsVerdict, undo_verdict}

-- the most frames that a budget allows before End
abbrev pub most_frames : ℕ
most_frames = 512

-- the most frames after End
abbrev pub most_finishing : ℕ
most_finishing = 64

-- another frame may come: before End fewer than the budget stand, after it fewer than 64
abbrev pub HasRoom : List Entry → ℕ → Type 0
HasRoom h budget = MatchOption (end_place h) (frame_count h < budget) (λ _. length (after_end h) < most_finishing)

-- an entry's act may follow a history: an edit or undo which the history accepts; a frame of its scene and places,
-- where another may come; and End by caller 0 with line 0, once
abbrev pub ActMayFollow : List Entry → ℕ → Entry → Act → Type 0
ActMayFollow h budget e (act.Edit edit) = IsVerdict h edit None
ActMayFollow h budget e act.Undo = undo_verdict h ≡ None
ActMayFollow h budget e (act.Frame frame) = HasRoom h budget × IsFrameOf (scene_at h) (places_at h) frame
ActMayFollow h budget e act.End = (e.who ≡ 0) × (e.line ≡ 0) × (end_place h ≡ None)

-- an entry may follow a history with this budget: its act may
abbrev pub MayFollow : List Entry → ℕ → Entry → Type 0
MayFollow h budget e = ActMayFollow h budget e e.act

-- the further entries may each follow those before them
abbrev pub AllMayFollow : List Entry → ℕ → List Entry → Type 0
AllMayFollow before budget [] = ⊤
AllMayFollow before budget (e ∷ es) = MayFollow before budget e × AllMayFollow (before ++ e ∷ []) budget es

-- each entry may follow those before it
abbrev pub IsLegal : List Entry → ℕ → Type 0
IsLegal h budget = AllMayFollow [] budget h
