use Rattle.std.proofs.Common.{rules, w64}
use Rattle.std.specs.Prelude.{FitsSigned}
use Rattle.std.proofs.lemmas.Int.{to_z-of_z}
use Rattle.summary_text.specs.Summary.{six_lines}
use Rattle.summary_text.proofs.summary.put_lines.Goals as goal

pub returns : goal.returns
unfolding six_lines
returns g c =
    let f0 : FitsSigned w64 c.from-number.result = search rules in
    let f1 : FitsSigned w64 c.from-accepted.result = search rules in
    let f2 : FitsSigned w64 c.from-refused.result = search rules in
    let f3 : FitsSigned w64 c.from-frames.result = search rules in
    let f4 : FitsSigned w64 c.args.numbers.now.width = search rules in
    let f5 : FitsSigned w64 c.args.numbers.now.height = search rules in
    let h = simp to_z-of_z at c.put_pieces.ensures in
    rw (c.from-number.ensures, c.from-accepted.ensures, c.from-refused.ensures, c.from-frames.ensures) at h
