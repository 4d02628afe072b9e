use Rattle.std.proofs.Common.{rules, w64}
use Rattle.std.specs.Prelude.{FitsSigned}
use Rattle.std.proofs.lemmas.Int.{to_z-of_z}
use Rattle.svg_text.specs.Picture.{head_text}
use Rattle.svg_text.proofs.elements.put_head.Goals as goal

pub returns : goal.returns
unfolding head_text
returns g c =
    let f0 : FitsSigned w64 c.args.x.low = search rules in
    let f1 : FitsSigned w64 c.args.y.low = search rules in
    let m0 : FitsSigned w64 c.length_of-width.result = search rules in
    let m1 : FitsSigned w64 c.length_of-height.result = search rules in
    let h = simp to_z-of_z at c.put_pieces.ensures in
    rw (← c.length_of-width.ensures, ← c.length_of-height.ensures) h
