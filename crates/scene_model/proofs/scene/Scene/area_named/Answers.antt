use Rattle.std.proofs.Common.{◌+◌, ap, sym, ◌∙◌, Some}
use Rattle.std.specs.Prelude.{position}
use Rattle.scene_model.specs.Names.{same_name}
use Rattle.scene_model.specs.Diagram.{Diagram, group_names, page_names}
use Rattle.scene_model.proofs.Axes.{group_found, page_found}
use Rattle.scene_model.proofs.scene.Scene.area_named.Goals as goal

pub returns-in-Some-clause-value : goal.returns-in-Some-clause-value
returns-in-Some-clause-value c =
    group_found c.args.self.now c.args.name.now c.in-Some.at (sym (ap (λ (d : Diagram). position (same_name c.args.name.now) (group_names d.groups)) c.self.view_is) ∙ sym c.in-Some.ensures)

pub returns-in_err-at-clause-value : goal.returns-in_err-at-clause-value
returns-in_err-at-clause-value c =
    c.from_residual.ensures
    ∙ page_found c.args.self.now c.args.name.now _ (sym (ap (λ (d : Diagram). position (same_name c.args.name.now) (group_names d.groups)) c.self.view_is) ∙ sym c.in-None.ensures)
    (sym (ap (λ (d : Diagram). position (same_name c.args.name.now) (page_names d.pages)) c.self.view_is) ∙ (sym c.number_of-2.ensures ∙ c.in_err-at.was))

pub returns-clause-value : goal.returns-clause-value
returns-clause-value c =
    ap (λ s. Some (s + c.in_ok-at.at)) c.count.ensures.value
    ∙ page_found c.args.self.now c.args.name.now (Some c.in_ok-at.at) (sym (ap (λ (d : Diagram). position (same_name c.args.name.now) (group_names d.groups)) c.self.view_is) ∙ sym c.in-None.ensures)
    (sym (ap (λ (d : Diagram). position (same_name c.args.name.now) (page_names d.pages)) c.self.view_is) ∙ (sym c.number_of-2.ensures ∙ c.in_ok-at.was))
