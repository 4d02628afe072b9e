use Rattle.std.proofs.Common.{ap, inl, inr, Err}
use Rattle.editor_run.specs.declared.outcome.Outcome.{Outcome}
use Rattle.editor_run.proofs.Listed.{success-IsRun, success-HasCauses, stopped-IsRun, stopped-HasCauses, unwritten-IsRun, unwritten-HasCauses}
use Rattle.editor_run.proofs.Shown.{have_shown}
use Rattle.editor_run.proofs.results.write_out.Goals as goal

pub write_output-requires-clause-finished : goal.write_output-requires-clause-finished
write_output-requires-clause-finished g c = c.requires.played.history.finished

pub write_output-requires-clause-replies : goal.write_output-requires-clause-replies
write_output-requires-clause-replies g c =
    have_shown c.args.played.book c.args.script c.as_slice.result.now (rw c.as_slice.ensures c.requires.played.replies)

pub returns-in-Ok-clause-run : goal.returns-in-Ok-clause-run
returns-in-Ok-clause-run g c = λ reading input.
    success-IsRun _ reading _ c.finished.result _ _ _ _ _ c.requires.in_range input c.requires.played c.as_slice.ensures
    c.finished.ensures c.in-Ok.ensures.whole

pub returns-in-Ok-clause-causes : goal.returns-in-Ok-clause-causes
returns-in-Ok-clause-causes g c = λ reading input causes.
    success-HasCauses _ reading _ c.finished.result _ _ _ _ _ c.requires.in_range input c.requires.played c.as_slice.ensures _ causes
    c.finished.ensures c.in-Ok.ensures.calm

pub returns-in-Ok-clause-ends : goal.returns-in-Ok-clause-ends
returns-in-Ok-clause-ends g c = λ _. inl (ap (λ (o : Outcome). o.status) c.finished.ensures)

pub returns-in-Err-Failed-clause-run : goal.returns-in-Err-Failed-clause-run
returns-in-Err-Failed-clause-run g c = λ reading input.
    stopped-IsRun _ reading _ c.finished-in-Err-Failed.result _ _ _ _ _ c.requires.in_range input c.requires.played c.as_slice.ensures
    c.finished-in-Err-Failed.ensures

pub returns-in-Err-Failed-clause-causes : goal.returns-in-Err-Failed-clause-causes
returns-in-Err-Failed-clause-causes g c = λ reading input causes.
    stopped-HasCauses _ reading _ c.finished-in-Err-Failed.result _ _ _ _ _ c.requires.in_range input c.requires.played c.as_slice.ensures _ causes
    c.finished-in-Err-Failed.ensures (c.in-Err-Failed.ensures.failed (ap Err c.in-Err-Failed.field-0-is)) c.in-Err-Failed.ensures.part

pub returns-in-Err-Memory-clause-run : goal.returns-in-Err-Memory-clause-run
returns-in-Err-Memory-clause-run g c = λ reading input.
    unwritten-IsRun _ reading _ c.failed.result _ _ _ _ _ c.requires.in_range input c.requires.played c.as_slice.ensures
    c.failed.ensures

pub returns-in-Err-Memory-clause-causes : goal.returns-in-Err-Memory-clause-causes
returns-in-Err-Memory-clause-causes g c = λ reading input causes.
    unwritten-HasCauses _ reading _ c.failed.result _ _ _ _ _ c.requires.in_range input c.requires.played c.as_slice.ensures _ causes
    c.failed.ensures (c.in-Err-Memory.ensures.memory_calm (ap Err c.in-Err-Memory.field-0-is)) c.in-Err-Memory.ensures.part

pub returns-in-Err-Memory-clause-ends : goal.returns-in-Err-Memory-clause-ends
returns-in-Err-Memory-clause-ends g c = λ _. inr (ap (λ (o : Outcome). o.status) c.failed.ensures)
