use Rattle.std.proofs.Common.{arith, ◌∙◌}
use Rattle.scene_model.proofs.Axes.{length-edges, group_edge_at, page_edge_at}
use Rattle.scene_model.proofs.scene.Scene.edge.Goals as goal

pub returns-then-area-groups : goal.returns-then-area-groups
returns-then-area-groups c = group_edge_at c.args.self.now c.args.axis c.args.number c.group.result.now c.group.ensures.value (omega arith) ∙ c.group_edge.ensures

pub page_at-requires : goal.page_at-requires
page_at-requires c = omega (arith, length-edges c.args.self.now c.args.axis)

pub returns : goal.returns
returns c = page_edge_at c.args.self.now c.args.axis c.args.number _ c.page_at.result.now c.page_at.ensures (omega arith) ∙ c.page_edge.ensures
