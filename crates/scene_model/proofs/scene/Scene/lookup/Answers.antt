use Rattle.std.proofs.Common.{ap, ◌∙◌}
use Rattle.std.specs.Option.{is_some}
use Rattle.scene_model.specs.Diagram.{all_sorts}
use Rattle.scene_model.proofs.Places.{is_some-in}
use Rattle.scene_model.proofs.scene.Scene.lookup.Goals as goal

pub returns-clause-found : goal.returns-clause-found
returns-clause-found c = ap is_some c.first_named.ensures ∙ is_some-in c.args.self.now c.args.name.now all_sorts
