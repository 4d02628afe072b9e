use Rattle.std.proofs.Common.{drop, ◌+◌}
use Rattle.std.specs.List.{flat_map}
use Rattle.std.proofs.lemmas.Result.{err_from_is_err_and}
use Rattle.svg_text.specs.Steps.{all_parts, part_text}
use Rattle.svg_text.proofs.Lists.{texts_read}
use Rattle.svg_text.proofs.Puts.{one_more, stopped}
use Rattle.svg_text.proofs.picture.put_parts.Goals as goal

pub returns-in_err-put_part : goal.returns-in_err-put_part
returns-in_err-put_part g c =
    let p = err_from_is_err_and c.from_residual.result c.from_residual.ensures.1 in
    rw (p.1, p.2) (stopped _ _ _ _ _ _ _ _ _ _ _ c.in_err-put_part.field-0.0 c.loop-part.invariant
    (texts_read (part_text c.args.scene.now c.args.places.now c.args.x c.args.y) all_parts c.loop-part.part-index _ c.loop-part-test.true) c.in_err-put_part.ensures)

pub loop-part-preserved : goal.loop-part-preserved
loop-part-preserved g c =
    one_more _ _ _ _ _ _ _ _ _ (flat_map (part_text c.args.scene.now c.args.places.now c.args.x c.args.y) (drop (c.loop-part.part-index + 1) all_parts)) c.loop-part.invariant
    (texts_read (part_text c.args.scene.now c.args.places.now c.args.x c.args.y) all_parts c.loop-part.part-index _ c.loop-part-test.true)
    c.in_ok-put_part.ensures.whole c.in_ok-put_part.ensures.calm
