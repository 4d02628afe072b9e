use Rattle.std.proofs.Common.{ap, sym, ◌∙◌, true≢false}
use Rattle.std.specs.Option.{is_some}
use Rattle.scene_model.proofs.Keyed.{lookup-new, keyed-put, values-put}
use Rattle.scene_model.proofs.naming.NamedItems.put_back.Goals as goal

pub shift_insert-requires-clause-below_len : goal.shift_insert-requires-clause-below_len
shift_insert-requires-clause-below_len g c =
    λ there.
    absurd
    (true≢false
    (sym there
    ∙ ap is_some (lookup-new g.T.HasName.name_of c.self.inside.items.entries c.args.self.now c.name.result c.args.item c.self.invariant c.self.view_is c.name.ensures c.requires.free)))

pub invariant_of-self-2 : goal.invariant_of-self-2
invariant_of-self-2 g c =
    keyed-put g.T.HasName.name_of c.self.inside.items.entries c.args.self.now c.name.result c.args.item c.self.invariant c.self.view_is c.name.ensures c.requires.free c.args.number c.requires.within _
    c.in_ok-shift_insert.ensures.entries

pub returns-clause-added : goal.returns-clause-added
returns-clause-added g c =
    values-put g.T.HasName.name_of c.self.inside.items.entries c.args.self.now c.name.result c.args.item c.self.invariant c.self.view_is c.name.ensures c.requires.free c.args.number c.requires.within _
    c.in_ok-shift_insert.ensures.entries
