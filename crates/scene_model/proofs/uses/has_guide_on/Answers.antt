use Rattle.std.proofs.Common.{ap, sym, ◌∙◌, ◌&&◌}
use Rattle.std.specs.Prelude.{option_copied}
use Rattle.scene_model.specs.declared.items.Guide.{Guide}
use Rattle.scene_model.specs.Names.{same_name, same_axis}
use Rattle.scene_model.proofs.Using.{any-at, any-next}
use Rattle.scene_model.proofs.uses.has_guide_on.Goals as goal

pub returns-then-is_guide_on : goal.returns-then-is_guide_on
returns-then-is_guide_on c =
    let guide = c.unwrap.result.now in
    let at = sym c.at.ensures ∙ ap option_copied c.unwrap.ensures in
    sym (any-at (λ (g : Guide). same_name c.args.name.now g.name && same_axis g.axis c.args.axis) c.args.guides.now c.loop-number.number guide at (sym c.is_guide_on.ensures ∙ c.if-is_guide_on.true))

pub loop-number-preserved : goal.loop-number-preserved
loop-number-preserved c =
    let at = sym c.at.ensures ∙ ap option_copied c.unwrap.ensures in
    any-next (λ (g : Guide). same_name c.args.name.now g.name && same_axis g.axis c.args.axis) c.args.guides.now c.loop-number.number c.unwrap.result.now
    c.loop-number.invariant at (sym c.is_guide_on.ensures ∙ c.if-is_guide_on.false)
