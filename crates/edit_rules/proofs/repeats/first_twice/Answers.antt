use Rattle.std.proofs.Common.{refl, sym, ◌∙◌}
use Rattle.std.proofs.lemmas.Option.{slice_get_read}
use Rattle.edit_rules.proofs.Repeating.{twice_here, twice_later}
use Rattle.edit_rules.proofs.repeats.first_twice.Goals as goal

pub returns-then-is_among : goal.returns-then-is_among
returns-then-is_among c =
    let at = slice_get_read c.args.names.now _ c.loop-at.at c.index-names-at.result refl c.loop-at-test.true c.index-names-at.is in
    sym (c.loop-at.invariant ∙ twice_here c.args.names.now c.loop-at.at c.index-names-at.result at (sym c.is_among.ensures ∙ c.if-is_among.true))

pub loop-at-preserved : goal.loop-at-preserved
loop-at-preserved c =
    let at = slice_get_read c.args.names.now _ c.loop-at.at c.index-names-at.result refl c.loop-at-test.true c.index-names-at.is in
    c.loop-at.invariant ∙ twice_later c.args.names.now c.loop-at.at c.index-names-at.result at (sym c.is_among.ensures ∙ c.if-is_among.false)
