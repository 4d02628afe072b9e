use Rattle.std.proofs.Common.{ap, rules, w64, ◌∙◌}
use Rattle.std.specs.Prelude.{FitsSigned}
use Rattle.std.proofs.lemmas.Int.{to_z-of_z}
use Rattle.doc_book.specs.History.{frame_count}
use Rattle.svg_text.proofs.Puts.{as_text}
use Rattle.summary_text.proofs.Whole.{summary_is}
use Rattle.summary_text.proofs.summary.put_summary.Goals as goal

pub returns : goal.returns
returns g c =
    let f0 : FitsSigned w64 c.shapes_length-width.result = search rules in
    let f1 : FitsSigned w64 c.shapes_length-height.result = search rules in
    let h = simp to_z-of_z at c.put_lines.ensures in
    as_text _ _ _ _ _ _ _ _
    (summary_is c.args.number c.args.book.now.history c.args.replies.now c.requires.framed c.count_of-accepted.result c.count_of-refused.result c.frame_count-frames.result
    c.shapes_length-width.result c.shapes_length-height.result c.count_of-accepted.ensures c.count_of-refused.ensures
    (c.frame_count-frames.ensures.value ∙ ap frame_count c.history.ensures.value) c.shapes_length-width.ensures c.shapes_length-height.ensures)
    h
