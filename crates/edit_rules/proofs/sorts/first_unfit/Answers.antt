use Rattle.std.proofs.Common.{refl, sym, ap, ◌∙◌}
use Rattle.std.specs.Prelude.{not}
use Rattle.std.proofs.lemmas.Option.{slice_get_read}
use Rattle.scene_model.specs.Names.{NameOf}
use Rattle.scene_model.proofs.Using.{find-at, find-next}
use Rattle.edit_rules.specs.Naming.{is_of_kind}
use Rattle.edit_rules.proofs.sorts.first_unfit.Goals as goal

pub returns-then-not-is_of_kind : goal.returns-then-not-is_of_kind
returns-then-not-is_of_kind c =
    let d = c.args.scene.now in
    let at = slice_get_read c.args.names.now _ c.loop-at.at c.index-names-at.result refl c.loop-at-test.true c.index-names-at.is in
    sym (find-at (λ (name : NameOf). not (is_of_kind d c.args.kind name)) c.args.names.now c.loop-at.at c.index-names-at.result c.loop-at.invariant at (ap not (sym c.is_of_kind.ensures ∙ c.if-not-is_of_kind.true)))

pub loop-at-preserved : goal.loop-at-preserved
loop-at-preserved c =
    let d = c.args.scene.now in
    let at = slice_get_read c.args.names.now _ c.loop-at.at c.index-names-at.result refl c.loop-at-test.true c.index-names-at.is in
    find-next (λ (name : NameOf). not (is_of_kind d c.args.kind name)) c.args.names.now c.loop-at.at c.index-names-at.result c.loop-at.invariant at (ap not (sym c.is_of_kind.ensures ∙ c.if-not-is_of_kind.false))
