use Rattle.std.proofs.Common.{ap, sym, ◌∙◌, subst, slice_get}
use Rattle.std.specs.List.{remove}
use Rattle.std.specs.Map.{values_of}
use Rattle.scene_model.proofs.Keyed.{IsKeyed, keyed-remove, values-remove, value-at}
use Rattle.scene_model.proofs.naming.NamedItems.take.Goals as goal

pub invariant_of-self-2 : goal.invariant_of-self-2
invariant_of-self-2 g c =
    subst (IsKeyed g.T.HasName.name_of) (sym c.in_ok-item.ensures.entries) (keyed-remove g.T.HasName.name_of c.self.inside.items.entries c.args.number c.self.invariant)

pub returns-clause-taken : goal.returns-clause-taken
returns-clause-taken g c = value-at c.self.inside.items.entries c.args.number c.in_ok-item.field-0-0 c.in_ok-item.item c.in_ok-item.ensures.entry ∙ ap (λ xs. slice_get xs c.args.number) c.self.view_is

pub returns-clause-others : goal.returns-clause-others
returns-clause-others g c =
    ap values_of c.in_ok-item.ensures.entries ∙ (values-remove c.self.inside.items.entries c.args.number ∙ ap (λ xs. remove xs c.args.number) c.self.view_is)
