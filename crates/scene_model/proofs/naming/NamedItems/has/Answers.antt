use Rattle.std.proofs.Common.{ap, ◌∙◌}
use Rattle.std.specs.Option.{is_some}
use Rattle.scene_model.specs.Names.{same_name}
use Rattle.scene_model.proofs.Named.{is_some-position}
use Rattle.scene_model.proofs.naming.NamedItems.has.Goals as goal

pub returns : goal.returns
returns g c = c.is_some.ensures ∙ (ap is_some c.number_of.ensures ∙ is_some-position (same_name c.args.name.now) _)
