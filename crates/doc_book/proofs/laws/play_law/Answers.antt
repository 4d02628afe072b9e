use Rattle.std.proofs.Common.{arith}
use Rattle.doc_book.specs.Document.{opened}
use Rattle.doc_book.specs.Plays.{session_replies}
use Rattle.doc_book.proofs.Later.{OwnEntriesAre-places}
use Rattle.doc_book.proofs.Playing.{played_calls, played_own, played_right, played_counted, played_fresh}
use Rattle.doc_book.proofs.laws.play_law.Goals as goal

pub returns-clause-calls : goal.returns-clause-calls
returns-clause-calls c = λ budget lines replies last is. played_calls (opened budget) last lines replies is

pub returns-clause-places : goal.returns-clause-places
returns-clause-places c = λ budget lines replies last session is. played_own (opened budget) last lines replies session is

pub returns-clause-named : goal.returns-clause-named
returns-clause-named c = λ budget lines replies last session is.
    OwnEntriesAre-places last.history session (session_replies session lines replies) (played_own (opened budget) last lines replies session is)

pub returns-clause-replies : goal.returns-clause-replies
returns-clause-replies c = λ budget lines replies last session is. played_right (opened budget) last lines replies session 0 is (omega arith)

pub returns-clause-counted : goal.returns-clause-counted
returns-clause-counted c = λ budget lines replies last is. played_counted (opened budget) last lines replies is

pub returns-clause-fresh : goal.returns-clause-fresh
returns-clause-fresh c = λ budget lines replies last is. played_fresh (opened budget) last lines replies is
