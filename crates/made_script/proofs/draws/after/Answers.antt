use Rattle.made_script.proofs.Remainders.{next_law}
use Rattle.made_script.proofs.draws.after.Goals as goal

pub returns : goal.returns
returns c = next_law c.args.state
