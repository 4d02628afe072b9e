use Rattle.std.proofs.Common.{ap, sym, ◌∙◌, arith, Some}
use Rattle.scene_model.proofs.Axes.{shape_at, guide_at, edge_at, length-variables}
use Rattle.scene_model.proofs.scene.Scene.variable.Goals as goal

pub returns-then-var-shapes : goal.returns-then-var-shapes
returns-then-var-shapes c =
    shape_at c.args.self.now c.args.axis c.args.var c.shape.result.now c.shape.ensures.value (omega arith) ∙ ap Some (sym c.shape_variable.ensures)

pub returns-then-var-first_edge : goal.returns-then-var-first_edge
returns-then-var-first_edge c =
    guide_at c.args.self.now c.args.axis c.args.var _ c.guide_variable.result c.guide_variable.ensures (omega arith) (omega arith)

pub edge-requires : goal.edge-requires
edge-requires c = let count = length-variables c.args.self.now c.args.axis in omega arith

pub returns : goal.returns
returns c = edge_at c.args.self.now c.args.axis c.args.var _ c.edge.result c.edge.ensures (omega arith)
