use Rattle.cycle_test.proofs.Cancel.{never_both}
use Rattle.cycle_test.proofs.Existence.{one_of_both}
use Rattle.cycle_test.proofs.law.feasibility_law.Goals as goal

pub returns : goal.returns
returns c = record { never_both = never_both; one_of_both = one_of_both }
