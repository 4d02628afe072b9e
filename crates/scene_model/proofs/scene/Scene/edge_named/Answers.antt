use Rattle.std.proofs.Common.{sym, ◌∙◌, arith}
use Rattle.scene_model.proofs.Axes.{high_found, low_found, edge_missed, number_within}
use Rattle.scene_model.proofs.scene.Scene.edge_named.Goals as goal

pub returns-in_err-area-clause-value : goal.returns-in_err-area-clause-value
returns-in_err-area-clause-value c =
    c.from_residual.ensures ∙ edge_missed c.args.self.now c.args.axis c.args.name.now c.args.high (sym c.area_named.ensures.value ∙ c.in_err-area.was)

pub returns-then-high-clause-value : goal.returns-then-high-clause-value
returns-then-high-clause-value c =
    high_found c.args.self.now c.args.axis c.args.name.now c.args.high c.in_ok-area.area _ c.if-high.true (sym c.area_named.ensures.value ∙ c.in_ok-area.was) (omega arith)

pub returns-then-high-clause-within : goal.returns-then-high-clause-within
returns-then-high-clause-within c =
    number_within c.args.self.now c.args.axis _ _ (high_found c.args.self.now c.args.axis c.args.name.now c.args.high c.in_ok-area.area _ c.if-high.true (sym c.area_named.ensures.value ∙ c.in_ok-area.was) (omega arith))

pub returns-else-high-clause-value : goal.returns-else-high-clause-value
returns-else-high-clause-value c =
    low_found c.args.self.now c.args.axis c.args.name.now c.args.high c.in_ok-area.area _ c.if-high.false (sym c.area_named.ensures.value ∙ c.in_ok-area.was) (omega arith)

pub returns-else-high-clause-within : goal.returns-else-high-clause-within
returns-else-high-clause-within c =
    number_within c.args.self.now c.args.axis _ _ (low_found c.args.self.now c.args.axis c.args.name.now c.args.high c.in_ok-area.area _ c.if-high.false (sym c.area_named.ensures.value ∙ c.in_ok-area.was) (omega arith))
