use Rattle.std.proofs.Common.{ap, sym, ◌∙◌, map}
use Rattle.std.specs.Option.{option_or}
use Rattle.scene_model.specs.Diagram.{Diagram}
use Rattle.scene_model.specs.Uses.{User, is_used_in, link_user, compound_user, group_user, user_of}
use Rattle.scene_model.proofs.Using.{first_of_three}
use Rattle.scene_model.proofs.scene.Scene.user_of.Goals as goal

pub returns : goal.returns
returns c =
    let d = c.self.inside in
    let three = first_of_three (λ (u : User). u.name) (λ (u : User). is_used_in u.uses c.args.name.now) (map link_user d.links) (map compound_user d.compounds) (map group_user d.groups) in
    c.or-2.ensures
    ∙ (ap (λ o. option_or o c.first_user-group.result) c.or.ensures
    ∙ ((λ j. option_or (option_or (c.first_user-link.ensures j) (c.first_user-compound.ensures j)) (c.first_user-group.ensures j))
    ∙ (sym three ∙ ap (λ (e : Diagram). user_of e c.args.name.now) c.self.view_is)))
