use Rattle.script_text.proofs.WholeFaults.{one_fault}
use Rattle.script_text.proofs.reading.one_fault.Goals as goal

pub returns : goal.returns
returns c = one_fault
