use Rattle.std.proofs.Common.{◌∙◌}
use Rattle.std.proofs.lemmas.Result.{err_from_is_err_and}
use Rattle.script_text.proofs.Texts.{script_sound, one_script}
use Rattle.script_text.proofs.WholeFaults.{cause_sound, only_memory}
use Rattle.script_text.proofs.reading.read.Goals as goal

pub of-requires : goal.of-requires
of-requires c = c.in_ok-all_lines.ensures.0

pub returns-clause-spelled : goal.returns-clause-spelled
returns-clause-spelled c = rw c.of.ensures (script_sound c.args.bytes.now c.in_ok-all_lines.field-0.items c.in_ok-all_lines.ensures.0 c.in_ok-all_lines.ensures.1)

pub returns-clause-found : goal.returns-clause-found
returns-clause-found c lines h =
    c.of.ensures ∙ one_script c.args.bytes.now c.in_ok-all_lines.field-0.items lines (script_sound c.args.bytes.now c.in_ok-all_lines.field-0.items c.in_ok-all_lines.ensures.0 c.in_ok-all_lines.ensures.1) h

pub returns-in_err-all_lines-clause-found : goal.returns-in_err-all_lines-clause-found
returns-in_err-all_lines-clause-found c lines h =
    let p = err_from_is_err_and c.from_residual.result c.from_residual.ensures.1 in
    rw (p.1, p.2) (only_memory c.args.bytes.now c.in_err-all_lines.field-0.0 c.in_err-all_lines.ensures lines h)

pub returns-in_err-all_lines-clause-fault : goal.returns-in_err-all_lines-clause-fault
returns-in_err-all_lines-clause-fault c =
    let p = err_from_is_err_and c.from_residual.result c.from_residual.ensures.1 in
    rw (p.1, p.2) (cause_sound c.args.bytes.now c.in_err-all_lines.field-0.0 c.in_err-all_lines.ensures)
