use Rattle.std.proofs.Common.{sym, subst}
use Rattle.doc_book.specs.Document.{opened}
use Rattle.doc_book.specs.Events.{replies_to, made_calls}
use Rattle.doc_book.specs.Law.{AreEntriesOf}
use Rattle.doc_book.specs.Legal.{IsLegal}
use Rattle.doc_book.proofs.Later.{OwnEntriesAre-places}
use Rattle.doc_book.proofs.Running.{run_legal, run_budget, run_prefix, run_own, run_entries, run_right}
use Rattle.doc_book.proofs.laws.run_law.Goals as goal

pub returns-clause-legal : goal.returns-clause-legal
returns-clause-legal c = λ budget calls said last run.
    subst (IsLegal last.history) (run_budget (opened budget) last calls said run) (run_legal (opened budget) last calls said run tt)

pub returns-clause-kept : goal.returns-clause-kept
returns-clause-kept c = λ calls said earlier later run. run_prefix earlier later calls said run

pub returns-clause-places : goal.returns-clause-places
returns-clause-places c = λ budget calls said last who run. run_own (opened budget) last calls said who run

pub returns-clause-entries : goal.returns-clause-entries
returns-clause-entries c = λ budget calls said last who run.
    let gains = run_entries (opened budget) last calls said who run in subst (AreEntriesOf (made_calls who calls said)) (sym gains.own) gains.asked

pub returns-clause-named : goal.returns-clause-named
returns-clause-named c = λ budget calls said last who run.
    OwnEntriesAre-places last.history who (replies_to who calls said) (run_own (opened budget) last calls said who run)

pub returns-clause-replies : goal.returns-clause-replies
returns-clause-replies c = λ budget calls said last run. run_right (opened budget) last calls said run
