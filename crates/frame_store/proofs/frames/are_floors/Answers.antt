use Rattle.std.proofs.Common.{rules, ◌≡◌, ◌<◌, map, get_or, pos, sym, subst, ap, ◌∙◌, w64, to_z, FitsSigned}
use Rattle.std.proofs.lemmas.Int.{to_z-of_z}
use Rattle.std.proofs.lemmas.List.{take_more_same, get_or-map, length-map}
use Rattle.frac128.specs.Fraction.{floor_of}
use Rattle.frame_store.proofs.frames.are_floors.Goals as goal

pub loop-index-preserved : goal.loop-index-preserved
loop-index-preserved c =
    let at = c.loop-index.index in
    let fractions = c.args.fractions.now in
    let numbers = c.args.numbers.now in
    let floor_fits : FitsSigned w64 c.floor.result = search rules in
    let number_fits : FitsSigned w64 (get_or numbers at (pos 0)) = search rules in
    let same : c.floor.result ≡ get_or numbers at (pos 0) =
    sym (to_z-of_z w64 _ floor_fits) ∙ ap (to_z w64) c.if-floor-numbers.false ∙ to_z-of_z w64 _ number_fits in
    let drawn : get_or (map floor_of fractions) at (pos 0) ≡ floor_of c.index-fractions-index.result =
    get_or-map floor_of fractions at c.index-fractions-index.result (pos 0) c.loop-index-test.true ∙ ap floor_of (sym c.index-fractions-index.is) in
    take_more_same (map floor_of fractions) numbers at (pos 0)
    (subst (λ n. at < n) (sym (length-map fractions floor_of)) c.loop-index-test.true)
    (subst (λ n. at < n) c.if-fractions-numbers.false c.loop-index-test.true)
    c.loop-index.invariant (drawn ∙ sym c.floor.ensures ∙ same)
