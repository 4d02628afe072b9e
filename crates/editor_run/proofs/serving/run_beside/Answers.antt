use Rattle.editor_run.proofs.Listed.{where_given, weaker_given, memory_ends}
use Rattle.editor_run.proofs.serving.run_beside.Goals as goal

pub returns-clause-run : goal.returns-clause-run
returns-clause-run g c = c.write_out.ensures.run _ c.in-Ok.ensures.input

pub returns-clause-causes : goal.returns-clause-causes
returns-clause-causes g c = c.write_out.ensures.causes _ c.in-Ok.ensures.input c.in-Ok.ensures.causes

pub returns-clause-complete : goal.returns-clause-complete
returns-clause-complete g c = λ calm. where_given _ _ _ _ (c.write_out.ensures.ends calm)

pub returns-in-Err-clause-complete : goal.returns-in-Err-clause-complete
returns-in-Err-clause-complete g c = λ _. weaker_given _ _ _ _ _ (memory_ends c.in-Err.fault c.failed.result c.failed.ensures) c.in-Err.ensures.complete
