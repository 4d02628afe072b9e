use Rattle.std.proofs.lemmas.Result.{err_from_is_err_and}
use Rattle.svg_text.proofs.Puts.{in_turn, not_in_turn}
use Rattle.svg_text.proofs.picture.put_picture.Goals as goal

pub returns-in_err-put_head : goal.returns-in_err-put_head
returns-in_err-put_head g c =
    let p = err_from_is_err_and c.from_residual.result c.from_residual.ensures.1 in
    rw (p.1, p.2) (not_in_turn _ _ _ _ _ _ _ c.in_err-put_head.field-0.0 c.in_err-put_head.ensures)

pub returns : goal.returns
returns g c = in_turn _ _ _ _ _ _ _ _ _ c.put_below_head.result c.in_ok-put_head.ensures c.put_below_head.ensures
