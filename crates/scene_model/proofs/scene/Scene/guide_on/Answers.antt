use Rattle.std.proofs.Common.{arith, sym, ◌∙◌}
use Rattle.scene_model.proofs.Axes.{number_here, number_next, number_passed}
use Rattle.scene_model.proofs.scene.Scene.guide_on.Goals as goal
use Rattle.scene_model.proofs.scene.Scene.guide_on.Goals.{then-is_on+else-left-eq0, else-is_on}

pub returns-then-left-eq0 : goal.returns-then-left-eq0
returns-then-left-eq0 c =
    number_here c.args.axis c.args.self.now.guides c.loop-at.at c.loop-at.left c.guide-guide.result.now _ c.guide-guide.ensures.value (sym c.is_on.ensures ∙ c.if-is_on.true) c.if-left-eq0.true c.loop-at.invariant

pub loop-at-preserved : goal.loop-at-preserved
loop-at-preserved c =
    elim c.if-is_on.branch [
      | then-is_on+else-left-eq0 w ↦
          number_next c.args.axis c.args.self.now.guides c.loop-at.at c.loop-at.left _ c.guide-guide.result.now _ c.guide-guide.ensures.value (sym c.is_on.ensures ∙ w.if-is_on.true) (omega arith) c.loop-at.invariant
      | else-is_on w ↦
          number_passed c.args.axis c.args.self.now.guides c.loop-at.at c.loop-at.left _ c.guide-guide.result.now _ c.guide-guide.ensures.value (sym c.is_on.ensures ∙ w.if-is_on.false) (omega arith) c.loop-at.invariant
    ]
