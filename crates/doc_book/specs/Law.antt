-- What holds after every run of calls.
use Rattle.std.specs.Prelude.{◌≡◌, ℕ, List, [], ◌∷◌, MatchOption, ⊤}
use Rattle.doc_book.specs.declared.entries.Entry.{Entry}
use Rattle.doc_book.specs.declared.entries.Act.TheVariants as act
use Rattle.doc_book.specs.Events.{Event, Edits, Undoes, Asks, Looks, Publishes, Ends, Finishes, Said, Replied, caller_of, line_of, seen_before}
use Rattle.doc_book.specs.Growing.{entry_of}
use Rattle.doc_book.specs.Replies.{IsFrameAct, IsRightReply}

-- the entry that a call makes, where it makes one: a publication that of a frame, whichever
abbrev pub IsEntryOf : Event → Entry → Type 0
IsEntryOf (Edits who line edit) e = e ≡ entry_of who line (act.Edit edit)
IsEntryOf (Undoes who line) e = e ≡ entry_of who line act.Undo
IsEntryOf (Asks who name) e = ⊥
IsEntryOf (Looks who) e = ⊥
IsEntryOf (Publishes who line front) e = (e.who ≡ who) × (e.line ≡ line) × IsFrameAct e.act
IsEntryOf Ends e = e ≡ entry_of 0 0 act.End
IsEntryOf Finishes e = (e.who ≡ 0) × (e.line ≡ 0) × IsFrameAct e.act

-- the entries are those that the calls make, one for each, in order
abbrev pub AreEntriesOf : List Event → List Entry → Type 0
AreEntriesOf [] [] = ⊤
AreEntriesOf (c ∷ cs) (e ∷ es) = IsEntryOf c e × AreEntriesOf cs es
AreEntriesOf [] (e ∷ es) = ⊥
AreEntriesOf (c ∷ cs) [] = ⊥

-- what a call was answered is right at a history, where it is a reply to a call that is read as a line
abbrev pub IsRightSaid : List Entry → ℕ → Event → Said → Type 0
IsRightSaid h budget e (Replied r) = MatchOption (line_of e) ⊤ (λ line. IsRightReply h budget (caller_of e) (seen_before e) line r)
IsRightSaid h budget e _ = ⊤

-- the answers to calls are right at a history, one for each
abbrev pub AreRightSaid : List Entry → ℕ → List Event → List Said → Type 0
AreRightSaid h budget [] [] = ⊤
AreRightSaid h budget (e ∷ es) (s ∷ ss) = IsRightSaid h budget e s × AreRightSaid h budget es ss
AreRightSaid h budget [] (s ∷ ss) = ⊥
AreRightSaid h budget (e ∷ es) [] = ⊥
