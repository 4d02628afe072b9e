use Rattle.std.proofs.Common.{arith, sym, ◌∙◌}
use Rattle.scene_model.proofs.Axes.{place_here, place_next, place_passed}
use Rattle.scene_model.proofs.scene.Scene.guide_named.Goals as goal
use Rattle.scene_model.proofs.scene.Scene.guide_named.Goals.{then-is_on+else-eq, else-is_on}

pub returns-then-eq-clause-value : goal.returns-then-eq-clause-value
returns-then-eq-clause-value c =
    place_here c.args.axis c.args.name.now c.args.self.now.guides c.loop-at.at c.loop-at.passed c.guide-guide.result.now _ c.guide-guide.ensures.value (sym c.is_on.ensures ∙ c.if-is_on.true) (sym c.eq.ensures ∙ c.if-eq.true) c.loop-at.invariant.found

pub loop-at-preserved : goal.loop-at-preserved
loop-at-preserved c =
    elim c.if-is_on.branch [
      | then-is_on+else-eq w ↦ record {
        found = place_next c.args.axis c.args.name.now c.args.self.now.guides c.loop-at.at c.loop-at.passed _ c.guide-guide.result.now _ c.guide-guide.ensures.value (sym c.is_on.ensures ∙ w.if-is_on.true) (sym w.eq.ensures ∙ w.if-eq.false) w.passed-is c.loop-at.invariant.found;
        few = omega arith;
      }
      | else-is_on w ↦ record {
        found = place_passed c.args.axis c.args.name.now c.args.self.now.guides c.loop-at.at c.loop-at.passed _ c.guide-guide.result.now _ c.guide-guide.ensures.value (sym c.is_on.ensures ∙ w.if-is_on.false) w.passed-is c.loop-at.invariant.found;
        few = omega arith;
      }
    ]
