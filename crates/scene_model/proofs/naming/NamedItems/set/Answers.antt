use Rattle.std.proofs.Common.{ap, sym, ◌∙◌, map, slice_get}
use Rattle.std.specs.Prelude.{position, slice_set}
use Rattle.std.specs.Option.{is_some}
use Rattle.std.specs.List.{list_any}
use Rattle.scene_model.specs.Names.{same_name}
use Rattle.scene_model.proofs.Keyed.{keyed-set, values-set}
use Rattle.scene_model.proofs.Named.{is_some-position}
use Rattle.scene_model.proofs.Places.{position_named}
use Rattle.scene_model.proofs.Using.{set-replaced}
use Rattle.scene_model.proofs.naming.NamedItems.set.Goals as goal

pub unwrap-number-requires : goal.unwrap-number-requires
unwrap-number-requires g c =
    let names = map g.T.HasName.name_of c.args.self.now in
    ap is_some c.number_of.ensures ∙ (is_some-position (same_name c.name-name.result) names ∙ (ap (λ n. list_any (same_name n) names) c.name-name.ensures ∙ c.requires.stands))

pub invariant_of-self : goal.invariant_of-self
invariant_of-self g c =
    let names = map g.T.HasName.name_of c.args.self.now in
    let there = position_named g.T.HasName.name_of c.args.self.now (g.T.HasName.name_of c.args.item) c.unwrap-number.result (ap (λ n. position (same_name n) names) (sym c.name-name.ensures) ∙ (sym c.number_of.ensures ∙ c.unwrap-number.ensures)) in
    keyed-set g.T.HasName.name_of c.self.inside.items.entries c.unwrap-number.result there.0 c.args.item (ap (λ xs. slice_get xs c.unwrap-number.result) c.self.view_is ∙ there.1) there.2 c.self.invariant

pub returns : goal.returns
returns g c =
    let names = map g.T.HasName.name_of c.args.self.now in
    values-set c.self.inside.items.entries c.unwrap-number.result c.args.item
    ∙ (ap (λ xs. slice_set xs c.unwrap-number.result c.args.item) c.self.view_is
    ∙ set-replaced g.T.HasName.name_of c.args.item c.args.self.now c.unwrap-number.result c.requires.distinct
    (ap (λ n. position (same_name n) names) (sym c.name-name.ensures) ∙ (sym c.number_of.ensures ∙ c.unwrap-number.ensures)))
