use Rattle.std.proofs.Common.{◌≡◌, ◌∙◌, rules, w64, to_z, of_z}
use Rattle.std.specs.Prelude.{FitsSigned}
use Rattle.std.proofs.lemmas.Int.{to_z-of_z}
use Rattle.units.specs.declared.geometry.Axis.TheVariants.{X, Y}
use Rattle.stress_step.specs.Pulls.{pull}
use Rattle.stress_step.proofs.Totals.{row-next}
use Rattle.stress_step.proofs.candidates.all_pulls.Goals as goal

pub loop-shape-preserved : goal.loop-shape-preserved
loop-shape-preserved c =
    let x_fits : FitsSigned w64 c.pull.result = search rules in
    let x_read : to_z w64 (of_z w64 c.pull.result) ≡ c.pull.result = to_z-of_z w64 _ x_fits in
    let y_fits : FitsSigned w64 c.pull-in-loop-shape.result = search rules in
    let y_read : to_z w64 (of_z w64 c.pull-in-loop-shape.result) ≡ c.pull-in-loop-shape.result = to_z-of_z w64 _ y_fits in
    record {
      x = c.in_ok-push.ensures.items ∙ row-next (pull c.args.scene.now X c.args.places.now) c.loop-shape.shape c.loop-shape.x.items _ c.loop-shape.invariant.x (x_read ∙ c.pull.ensures.value);
      y = c.in_ok-push-2.ensures.items ∙ row-next (pull c.args.scene.now Y c.args.places.now) c.loop-shape.shape c.loop-shape.y.items _ c.loop-shape.invariant.y (y_read ∙ c.pull-in-loop-shape.ensures.value);
    }
