use Rattle.std.proofs.Common.{ap, ◌∙◌}
use Rattle.scene_model.specs.Items.{without, name_of_thing}
use Rattle.scene_model.proofs.Places.{without-put_back}
use Rattle.scene_model.proofs.scene.Scene.put_back.Goals as goal

pub returns-clause-back : goal.returns-clause-back
returns-clause-back c =
    ap (λ d. without d (name_of_thing c.args.thing)) c.in_ok-insert.ensures.added
    ∙ without-put_back c.args.self.now c.args.at c.args.thing c.requires.within c.requires.free
