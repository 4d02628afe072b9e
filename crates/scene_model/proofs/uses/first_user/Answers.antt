use Rattle.std.proofs.Common.{ap, sym, ◌∙◌, arith}
use Rattle.std.specs.Prelude.{option_copied}
use Rattle.scene_model.specs.Uses.{is_used_in}
use Rattle.scene_model.proofs.Using.{first_user_at, find-next, no_user}
use Rattle.scene_model.proofs.uses.first_user.Goals as goal

pub returns-then-uses : goal.returns-then-uses
returns-then-uses g c =
    let at = sym c.at.ensures ∙ ap option_copied c.unwrap-item.ensures in
    let here = first_user_at g.T.HasName.name_of g.T.Uses.uses_of c.args.name.now c.args.items.now c.loop-number.number c.unwrap-item.result.now c.loop-number.invariant at (sym c.uses.ensures ∙ c.if-uses.true) in
    cc

pub loop-number-preserved : goal.loop-number-preserved
loop-number-preserved g c =
    let at = sym c.at.ensures ∙ ap option_copied c.unwrap-item.ensures in
    find-next (λ x. is_used_in (g.T.Uses.uses_of x) c.args.name.now) c.args.items.now c.loop-number.number c.unwrap-item.result.now c.loop-number.invariant at (sym c.uses.ensures ∙ c.if-uses.false)

pub returns : goal.returns
returns g c =
    no_user g.T.HasName.name_of g.T.Uses.uses_of c.args.name.now c.args.items.now c.loop-number.number (omega (arith, c.loop-number.auto, c.loop-number-test.false, c.len-number-end.ensures)) c.loop-number.invariant
