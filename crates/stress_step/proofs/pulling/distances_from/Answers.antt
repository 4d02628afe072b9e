use Rattle.std.proofs.Common.{◌∙◌, sym, subst}
use Rattle.std.specs.Prelude.{All}
use Rattle.std.proofs.lemmas.List.Elements.{All-push}
use Rattle.stress_step.specs.Stress.{distance}
use Rattle.stress_step.specs.Steps.{IsDistance}
use Rattle.stress_step.proofs.Totals.{row-next}
use Rattle.stress_step.proofs.pulling.distances_from.Goals as goal

pub loop-j-preserved : goal.loop-j-preserved
loop-j-preserved c = record {
  value = c.in_ok-push.ensures.items ∙ row-next (distance c.args.scene.now c.args.places.now c.args.i) c.loop-j.j c.loop-j.row.items _ c.loop-j.invariant.value c.distance.ensures.value;
  within = subst (All IsDistance) (sym c.in_ok-push.ensures.items) (All-push IsDistance c.loop-j.row.items c.distance.result c.loop-j.invariant.within (c.distance.ensures.positive, c.distance.ensures.small));
}
