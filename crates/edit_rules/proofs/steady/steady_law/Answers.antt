use Rattle.edit_rules.proofs.Steadiness.{stays_feasible}
use Rattle.edit_rules.proofs.steady.steady_law.Goals as goal

pub returns : goal.returns
returns c = stays_feasible
