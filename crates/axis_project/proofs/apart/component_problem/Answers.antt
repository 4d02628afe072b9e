use Rattle.std.proofs.Common.{◌∙◌, ap, sym, subst}
use Rattle.units.specs.Problem.{IsBounded}
use Rattle.axis_project.specs.Components.{those}
use Rattle.axis_project.proofs.Components.{component_is, component_bounded}
use Rattle.axis_project.proofs.apart.component_problem.Goals as goal

pub new-requires : goal.new-requires
new-requires c =
    let apart = c.args.apart.now in
    let weights = c.in_ok-weights.ensures ∙ ap (λ ks. those c.args.key ks c.weights.result.now) c.deref.ensures.value ∙ ap (those c.args.key apart.keys.items) c.weights.ensures.value in
    let desired = c.in_ok-desired.ensures ∙ ap (λ ks. those c.args.key ks c.desired.result.now) c.deref-2.ensures.value ∙ ap (those c.args.key apart.keys.items) c.desired.ensures.value in
    let separations = c.in_ok-separations.ensures ∙ ap (λ ks. those c.args.key ks c.deref-4.result.now) c.deref-3.ensures.value ∙ ap (those c.args.key apart.separation_keys.items) c.deref-4.ensures.value in
    subst IsBounded (sym (component_is c.args.problem.now apart c.args.key c.weights.ensures.bounded c.requires weights desired separations))
    (component_bounded c.args.problem.now apart.keys.items c.weights.ensures.bounded c.requires.keys c.args.key)

pub returns : goal.returns
returns c =
    let apart = c.args.apart.now in
    let weights = c.in_ok-weights.ensures ∙ ap (λ ks. those c.args.key ks c.weights.result.now) c.deref.ensures.value ∙ ap (those c.args.key apart.keys.items) c.weights.ensures.value in
    let desired = c.in_ok-desired.ensures ∙ ap (λ ks. those c.args.key ks c.desired.result.now) c.deref-2.ensures.value ∙ ap (those c.args.key apart.keys.items) c.desired.ensures.value in
    let separations = c.in_ok-separations.ensures ∙ ap (λ ks. those c.args.key ks c.deref-4.result.now) c.deref-3.ensures.value ∙ ap (those c.args.key apart.separation_keys.items) c.deref-4.ensures.value in
    c.new.ensures ∙ component_is c.args.problem.now apart c.args.key c.weights.ensures.bounded c.requires weights desired separations
