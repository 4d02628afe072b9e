use Rattle.cycle_test.proofs.Sweeps.{state_same, same_at_rest}
use Rattle.cycle_test.proofs.sweep.relax_separation.Goals as goal

pub relax-requires-then-seps-sep-clause-state : goal.relax-requires-then-seps-sep-clause-state
relax-requires-then-seps-sep-clause-state c =
    let old = c.args.reaches.now.items in
    let new = c.relax.new.reaches.items in
    let same = same_at_rest c.args.seps.now old new _ c.in_ok-other.other c.in_ok-other.ensures c.in-AtRest.is in
    state_same c.args.seps.now old new same c.requires.state
