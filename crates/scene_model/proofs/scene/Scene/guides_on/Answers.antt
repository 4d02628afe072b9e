use Rattle.std.proofs.Common.{ap, arith, length, sym, ◌∙◌}
use Rattle.scene_model.proofs.Axes.{guides_on-here, guides_on-passed}
use Rattle.scene_model.proofs.scene.Scene.guides_on.Goals as goal
use Rattle.scene_model.proofs.scene.Scene.guides_on.Goals.{then-is_on, else-is_on}

pub loop-at-preserved : goal.loop-at-preserved
loop-at-preserved c =
    elim c.if-is_on.branch [
      | then-is_on w ↦
          let here = ap length (guides_on-here c.args.axis c.args.self.now.guides c.loop-at.at c.guide.result.now c.guide.ensures.value (sym c.is_on.ensures ∙ w.if-is_on.true)) in
          record { counted = omega arith; few = omega arith }
      | else-is_on w ↦
          let passed = ap length (guides_on-passed c.args.axis c.args.self.now.guides c.loop-at.at c.guide.result.now c.guide.ensures.value (sym c.is_on.ensures ∙ w.if-is_on.false)) in
          record { counted = omega arith; few = omega arith }
    ]
