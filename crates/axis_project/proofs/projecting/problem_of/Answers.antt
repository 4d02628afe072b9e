use Rattle.std.proofs.Common.{rules, ◌≡◌}
use Rattle.units.specs.Problem.{IsBounded}
use Rattle.axis_project.proofs.Projected.{bounded, at_lists}
use Rattle.axis_project.proofs.projecting.problem_of.Goals as goal

pub new-requires : goal.new-requires
new-requires c =
    let same : c.in_ok-desired.desired.items ≡ c.args.desired.now = search rules in
    at_lists IsBounded c.in_ok-weights.ensures same c.in_ok-separations.ensures
    (bounded c.args.scene.now c.args.axis c.args.desired.now c.vars-variables.ensures.sound c.requires.as_long c.requires.near c.requires.few)
