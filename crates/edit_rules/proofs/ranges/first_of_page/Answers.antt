use Rattle.std.proofs.Common.{[], ◌∷◌, ◌∙◌, to_z-of_z, w32, FitsSigned, rules}
use Rattle.std.specs.Prelude.{find}
use Rattle.std.specs.Option.{option_map}
use Rattle.edit_rules.specs.declared.ranges.Ranged.{Ranged}
use Rattle.edit_rules.specs.Ranges.{coordinate, page_extent, border, is_outside}
use Rattle.edit_rules.proofs.ranges.first_of_page.Goals as goal

pub returns : goal.returns
returns c =
    let fits_x : FitsSigned w32 c.args.x = search rules in
    let fits_y : FitsSigned w32 c.args.y = search rules in
    let fits_w : FitsSigned w32 c.args.w = search rules in
    let fits_h : FitsSigned w32 c.args.h = search rules in
    let fits_margin : FitsSigned w32 c.args.margin = search rules in
    c.first_outside.ensures
    ∙ ((λ i. option_map (λ (r : Ranged). r.value) (find is_outside (c.coordinate.ensures i ∷ c.coordinate-2.ensures i ∷ c.page_extent.ensures i ∷ c.page_extent-2.ensures i ∷ c.border.ensures i ∷ [])))
    ∙ (λ i. option_map (λ (r : Ranged). r.value) (find is_outside (coordinate (to_z-of_z fits_x i) ∷ coordinate (to_z-of_z fits_y i) ∷ page_extent (to_z-of_z fits_w i) ∷ page_extent (to_z-of_z fits_h i) ∷ border (to_z-of_z fits_margin i) ∷ []))))
