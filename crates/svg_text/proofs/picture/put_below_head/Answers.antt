use Rattle.std.proofs.lemmas.Result.{err_from_is_err_and}
use Rattle.svg_text.proofs.Puts.{in_turn, not_in_turn}
use Rattle.svg_text.proofs.picture.put_below_head.Goals as goal

pub returns-in_err-put_parts : goal.returns-in_err-put_parts
returns-in_err-put_parts g c =
    let p = err_from_is_err_and c.from_residual.result c.from_residual.ensures.1 in
    rw (p.1, p.2) (not_in_turn _ _ _ _ _ _ _ c.in_err-put_parts.field-0.0 c.in_err-put_parts.ensures)

pub returns : goal.returns
returns g c = in_turn _ _ _ _ _ _ _ _ _ c.put.result c.in_ok-put_parts.ensures c.put.ensures
