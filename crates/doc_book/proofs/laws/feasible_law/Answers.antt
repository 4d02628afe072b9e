use Rattle.doc_book.proofs.Feasible.{accepted-legal, feasible-legal, placed-legal}
use Rattle.doc_book.proofs.laws.feasible_law.Goals as goal

pub returns : goal.returns
returns c = record {
  accepted = λ h budget. accepted-legal budget h;
  feasible = λ h budget. feasible-legal budget h;
  placed = λ h budget. placed-legal budget h;
}
