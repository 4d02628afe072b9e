use Rattle.std.proofs.Common.{ap, sym, subst, length, List}
use Rattle.units.specs.declared.geometry.Sep.{Sep}
use Rattle.axis_project.specs.Parts.{ArePartsOf}
use Rattle.axis_project.proofs.Components.{all_keyed}
use Rattle.axis_project.proofs.apart.keyed.Goals as goal

pub returns-clause-keys : goal.returns-clause-keys
returns-clause-keys c =
    let problem = c.args.problem.now in
    let parts =
    subst (λ (seps : List Sep). ArePartsOf (length problem.desired) seps c.in_ok-parts.parts.items) c.seps.ensures.value
    (subst (λ n. ArePartsOf n c.seps.result.now c.in_ok-parts.parts.items) (ap length c.desired.ensures.value) c.in_ok-parts.ensures) in
    all_keyed problem c.deref.result.now c.keys_of.result c.desired.ensures.bounded
    (subst (ArePartsOf (length problem.desired) problem.separations) (sym c.deref.ensures.value) parts) c.keys_of.ensures.as_long c.keys_of.ensures.together
