use Rattle.axis_project.proofs.Together.{together}
use Rattle.axis_project.proofs.law.components_law.Goals as goal

pub returns : goal.returns
returns c = together
