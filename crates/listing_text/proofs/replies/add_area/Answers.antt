use Rattle.std.proofs.Common.{rules, [], ◌∷◌, FitsSigned}
use Rattle.std.specs.Prelude.{codes}
use Rattle.std.specs.Int.{w64}
use Rattle.std.specs.Fmt.{signed_decimal}
use Rattle.std.proofs.lemmas.Int.{to_z-of_z}
use Rattle.listing_text.proofs.Lines.{made_behind}
use Rattle.listing_text.proofs.replies.add_area.Goals as goal

pub returns : goal.returns
returns c =
    let x_low : FitsSigned w64 c.args.x_low = search rules in
    let y_low : FitsSigned w64 c.args.y_low = search rules in
    let x_high : FitsSigned w64 c.args.x_high = search rules in
    let y_high : FitsSigned w64 c.args.y_high = search rules in
    let low = simp to_z-of_z at c.in_ok-add_pair.ensures in
    let high = simp to_z-of_z at c.add_pair-2.ensures in
    made_behind c.add_pair-2.result c.args.text.now.items c.add_word.new.text.items c.add_pair.new.text.items c.add_pair-2.new.text.items
    (codes "area" ∷ []) (signed_decimal c.args.x_low ∷ signed_decimal c.args.y_low ∷ [])
    (signed_decimal c.args.x_high ∷ signed_decimal c.args.y_high ∷ [])
    c.in_ok-add_word.ensures low high
