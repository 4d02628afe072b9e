use Rattle.std.proofs.Common.{◌≡◌, ◌+◌, ◌<◌, [], ◌∷◌, ◌++◌, length, drop, get_or, ap, ◌∙◌, ℤ, arith, rules, w64, to_z, of_z}
use Rattle.std.specs.Prelude.{pos, FitsSigned}
use Rattle.std.proofs.lemmas.Int.{to_z-of_z}
use Rattle.std.specs.Fmt.{signed_decimal}
use Rattle.script_text.specs.Grammar.{axis_word}
use Rattle.doc_book.specs.Listing.{variable_word, fraction_word, text_line, text_lines, place_lines}
use Rattle.scene_model.specs.Variables.{variables}
use Rattle.listing_text.proofs.Lines.{places_more, grows}
use Rattle.listing_text.proofs.frames.add_places.Goals as goal

pub loop-var-preserved : goal.loop-var-preserved
loop-var-preserved c =
    let k = c.loop-var.var in
    let at = c.from-at.result in
    let vs = variables c.args.scene.now c.args.axis in
    let ds = c.args.desired.now in
    let ps = c.args.places.now in
    let d = get_or ds at (pos 0) in
    let line = λ (m : ℤ). text_line (axis_word c.args.axis ∷ variable_word c.variable-variable.result.name ∷ signed_decimal m ∷ fraction_word c.index-places-at.result ∷ []) in
    let fits_d : FitsSigned w64 d = search rules in
    let on_d : at < length ds = omega arith in
    let on_p : at < length ps = omega arith in
    let same_d : to_z w64 (of_z w64 d) ≡ d = to_z-of_z w64 d fits_d in
    let passed : c.add_place_line.new.text.items ≡ c.loop-var.text.items ++ line (to_z w64 (of_z w64 d)) = c.in_ok-add_place_line.ensures in
    let grown : c.add_place_line.new.text.items ≡ c.loop-var.text.items ++ line d = passed
    ∙ ap (λ (m : ℤ). c.loop-var.text.items ++ line m) same_d in
    grows c.loop-var.text.items c.add_place_line.new.text.items (line d)
    (text_lines (place_lines c.args.axis (drop k vs) (drop k ds) (drop k ps)))
    (text_lines (place_lines c.args.axis (drop (k + 1) vs) (drop (k + 1) ds) (drop (k + 1) ps)))
    (c.args.text.now.items ++ text_lines (place_lines c.args.axis vs ds ps))
    grown
    (places_more c.args.axis vs ds ps k at c.variable-variable.result c.index-places-at.result c.from-at.ensures c.variable-variable.ensures on_d on_p c.index-places-at.is)
    c.loop-var.invariant
