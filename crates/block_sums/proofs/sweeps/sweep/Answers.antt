use Rattle.std.proofs.Common.{◌<◌, rules, length}
use Rattle.std.specs.List.{All}
use Rattle.block_sums.specs.Solving.{IsSweep}
use Rattle.block_sums.proofs.Telling.{telling-rest}
use Rattle.block_sums.proofs.sweeps.sweep.Goals as goal

pub returns-clause-tells : goal.returns-clause-tells
returns-clause-tells c =
    let p = c.args.problem.now in
    let legs = c.in_ok-legs.legs.items in
    let within : All (λ leg. leg.variable < length p.desired) legs = search rules in
    let h : IsSweep p c.args.active.now c.args.root legs c.gathered-weights.result.items c.gathered-moments.result.items = search rules in
    telling-rest p c.args.active.now c.args.root legs c.gathered-weights.result.items c.gathered-moments.result.items c.requires.active within h
