use Rattle.std.proofs.Common.{◌+◌, ap, sym, ◌∙◌, Some}
use Rattle.std.specs.Prelude.{position}
use Rattle.scene_model.specs.Names.{same_name}
use Rattle.scene_model.specs.Diagram.{Diagram, shape_names}
use Rattle.scene_model.proofs.Axes.{shape_found, guide_found}
use Rattle.scene_model.proofs.scene.Scene.number_of_item.Goals as goal

pub returns-in-Some-clause-value : goal.returns-in-Some-clause-value
returns-in-Some-clause-value c =
    shape_found c.args.self.now c.args.axis c.args.name.now c.in-Some.at (sym (ap (λ (d : Diagram). position (same_name c.args.name.now) (shape_names d.shapes)) c.self.view_is) ∙ sym c.in-Some.ensures)

pub returns-in_err-number-clause-value : goal.returns-in_err-number-clause-value
returns-in_err-number-clause-value c =
    c.from_residual.ensures
    ∙ guide_found c.args.self.now c.args.axis c.args.name.now _ (sym (ap (λ (d : Diagram). position (same_name c.args.name.now) (shape_names d.shapes)) c.self.view_is) ∙ sym c.in-None.ensures) (sym c.guide_named.ensures.value ∙ c.in_err-number.was)

pub returns-clause-value : goal.returns-clause-value
returns-clause-value c =
    ap (λ s. Some (s + c.in_ok-number.number)) c.count.ensures.value
    ∙ guide_found c.args.self.now c.args.axis c.args.name.now (Some c.in_ok-number.number) (sym (ap (λ (d : Diagram). position (same_name c.args.name.now) (shape_names d.shapes)) c.self.view_is) ∙ sym c.in-None.ensures) (sym c.guide_named.ensures.value ∙ c.in_ok-number.was)
