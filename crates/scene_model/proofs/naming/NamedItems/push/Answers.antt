use Rattle.scene_model.proofs.Keyed.{keyed-new, values-new}
use Rattle.scene_model.proofs.naming.NamedItems.push.Goals as goal

pub invariant_of-self-2 : goal.invariant_of-self-2
invariant_of-self-2 g c =
    keyed-new g.T.HasName.name_of c.self.inside.items.entries c.args.self.now c.name.result c.args.item c.self.invariant c.self.view_is c.name.ensures c.requires.free _ c.in_ok-insert.ensures.entries

pub returns-clause-added : goal.returns-clause-added
returns-clause-added g c =
    values-new g.T.HasName.name_of c.self.inside.items.entries c.args.self.now c.name.result c.args.item c.self.invariant c.self.view_is c.name.ensures c.requires.free _ c.in_ok-insert.ensures.entries
