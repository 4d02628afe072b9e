use Rattle.standard_run.proofs.Exiting.{IsStatus-run}
use Rattle.standard_run.proofs.process.run_process.Goals as goal

pub returns : goal.returns
returns g c = IsStatus-run _ _ _ _ _ c.run_over.ensures
