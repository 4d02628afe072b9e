use Rattle.std.proofs.Common.{rules, arith, ap, ◌∙◌, ◌≡◌, ◌+◌, length}
use Rattle.concurrent_run.specs.Dealing.{callers_of}
use Rattle.concurrent_run.proofs.Dealt.{callers_count}
use Rattle.concurrent_run.proofs.beside.run_beside.Goals as goal

pub open-requires : goal.open-requires
open-requires g c = let e : c.deref.result.now ≡ callers_of c.args.workers = search rules in
    let long : length c.deref.result.now ≡ c.args.workers + 9 = ap length e ∙ callers_count c.args.workers in (omega (arith, long), omega (arith, long, c.requires.workers))
