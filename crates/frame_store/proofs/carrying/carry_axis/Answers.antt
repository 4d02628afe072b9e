use Rattle.std.proofs.Common.{◌≡◌, ◌∙◌, rules, w64, to_z, of_z}
use Rattle.std.specs.Prelude.{FitsSigned}
use Rattle.std.proofs.lemmas.Int.{to_z-of_z}
use Rattle.scene_model.specs.Variables.{variables}
use Rattle.frame_store.specs.Carry.{kept_place}
use Rattle.frame_store.proofs.Steps.{map-next}
use Rattle.frame_store.proofs.carrying.carry_axis.Goals as goal

pub loop-var-preserved : goal.loop-var-preserved
loop-var-preserved c =
    let fits : FitsSigned w64 c.kept.result = search rules in
    let same : to_z w64 (of_z w64 c.kept.result) ≡ c.kept.result = to_z-of_z w64 _ fits in
    c.in_ok-push.ensures.items
    ∙ map-next (kept_place (variables c.args.before.now c.args.axis) c.args.places.now) (variables c.args.after.now c.args.axis) c.loop-var.var c.variable.result c.loop-var.next.items _ c.loop-var.invariant c.variable.ensures (same ∙ c.kept.ensures)
