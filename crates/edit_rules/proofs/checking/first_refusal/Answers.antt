use Rattle.std.proofs.Common.{sym, ◌∙◌}
use Rattle.edit_rules.specs.Naming.{naming}
use Rattle.edit_rules.proofs.Accepting.{free_named}
use Rattle.edit_rules.proofs.Judging.{by_names, by_limits, refused_range, refused_named, refused_limit, refused_last}
use Rattle.edit_rules.proofs.checking.first_refusal.Goals as goal

pub returns-in-Some : goal.returns-in-Some
returns-in-Some c = refused_range c.args.scene.now c.args.edit.now _ (sym c.range_refusal.ensures ∙ c.in-Some.is)

pub returns-in-Some-named_refusal : goal.returns-in-Some-named_refusal
returns-in-Some-named_refusal c =
    let named = by_names c.args.scene.now _ (naming c.args.edit.now) c.names_of-names.ensures c.named_refusal.result c.named_refusal.ensures in
    refused_named c.args.scene.now c.args.edit.now _ (sym c.range_refusal.ensures ∙ c.in_default.is) (named ∙ c.in-Some-named_refusal.is)

pub returns-in-Some-limit_refusal : goal.returns-in-Some-limit_refusal
returns-in-Some-limit_refusal c =
    let named = by_names c.args.scene.now _ (naming c.args.edit.now) c.names_of-names.ensures c.named_refusal.result c.named_refusal.ensures in
    let limits = by_limits c.args.scene.now _ (naming c.args.edit.now) c.names_of-names.ensures c.limit_refusal.result c.limit_refusal.ensures in
    refused_limit c.args.scene.now c.args.edit.now _ (sym c.range_refusal.ensures ∙ c.in_default.is) (named ∙ c.in_default-named_refusal.is) (limits ∙ c.in-Some-limit_refusal.is)

pub separations_refusal-requires-clause-free : goal.separations_refusal-requires-clause-free
separations_refusal-requires-clause-free c =
    let named = by_names c.args.scene.now _ (naming c.args.edit.now) c.names_of-names.ensures c.named_refusal.result c.named_refusal.ensures in
    free_named c.args.scene.now (naming c.args.edit.now) (named ∙ c.in_default-named_refusal.is)

pub returns-in-Some-separations_refusal : goal.returns-in-Some-separations_refusal
returns-in-Some-separations_refusal c =
    let named = by_names c.args.scene.now _ (naming c.args.edit.now) c.names_of-names.ensures c.named_refusal.result c.named_refusal.ensures in
    let limits = by_limits c.args.scene.now _ (naming c.args.edit.now) c.names_of-names.ensures c.limit_refusal.result c.limit_refusal.ensures in
    refused_last c.args.scene.now c.args.edit.now (sym c.range_refusal.ensures ∙ c.in_default.is) (named ∙ c.in_default-named_refusal.is) (limits ∙ c.in_default-limit_refusal.is)
    ∙ (sym c.separations_refusal.ensures ∙ c.in-Some-separations_refusal.is)

pub returns : goal.returns
returns c =
    let named = by_names c.args.scene.now _ (naming c.args.edit.now) c.names_of-names.ensures c.named_refusal.result c.named_refusal.ensures in
    let limits = by_limits c.args.scene.now _ (naming c.args.edit.now) c.names_of-names.ensures c.limit_refusal.result c.limit_refusal.ensures in
    refused_last c.args.scene.now c.args.edit.now (sym c.range_refusal.ensures ∙ c.in_default.is) (named ∙ c.in_default-named_refusal.is) (limits ∙ c.in_default-limit_refusal.is)
    ∙ (sym c.separations_refusal.ensures ∙ c.in_default-separations_refusal.is)
