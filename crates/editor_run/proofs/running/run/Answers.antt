use Rattle.std.proofs.Common.{refl}
use Rattle.editor_run.specs.declared.outcome.Fault.TheVariants as fault
use Rattle.editor_run.proofs.Ending.{words_early, memory_early, early-HasCauses}
use Rattle.editor_run.proofs.running.run.Goals as goal

pub returns-in-Err-Refused-clause-causes : goal.returns-in-Err-Refused-clause-causes
returns-in-Err-Refused-clause-causes g c =
    early-HasCauses _ _ _ _ c.failed.result fault.Words c.failed.ensures words_early (record { left = refl; given = refl; faults = refl }) refl refl

pub returns-clause-causes : goal.returns-clause-causes
returns-clause-causes g c =
    early-HasCauses _ _ _ _ c.failed-in-Err-Memory.result fault.Memory c.failed-in-Err-Memory.ensures memory_early (record { left = refl; given = refl; faults = refl }) refl refl
