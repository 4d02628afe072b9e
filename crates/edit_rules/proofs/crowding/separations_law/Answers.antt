use Rattle.edit_rules.proofs.Keeping.{accepted_uncrowded}
use Rattle.edit_rules.proofs.crowding.separations_law.Goals as goal

pub returns : goal.returns
returns c = accepted_uncrowded
