use Rattle.std.proofs.Common.{subst, arith}
use Rattle.cycle_test.specs.Search.{IsRelaxation}
use Rattle.cycle_test.proofs.Sweeps.{swept_state, swept_rest, swept_rise, swept_raised, swept_at_rest}
use Rattle.cycle_test.proofs.sweep.sweep.Goals as goal
use Rattle.cycle_test.proofs.sweep.sweep.Goals.{in-AtRest, in-Raised, then-raised, else-raised}

pub relax_separation-requires-clause-state : goal.relax_separation-requires-clause-state
relax_separation-requires-clause-state c =
    swept_state c.args.seps.now c.args.reaches.now.items c.loop-sep.reaches.items c.loop-sep.raised c.loop-sep.sep c.requires.state c.loop-sep.invariant

pub loop-sep-preserved : goal.loop-sep-preserved
loop-sep-preserved c =
    let seps = c.args.seps.now in
    let old = c.args.reaches.now.items in
    let mid = c.loop-sep.reaches.items in
    let new = c.relax_separation.new.reaches.items in
    elim c.match-branch-2.branch [
      | in-AtRest w ↦ rw w.raised-is (swept_rest seps old mid new c.loop-sep.raised c.loop-sep.sep c.loop-sep.invariant (subst (IsRelaxation seps mid new _) w.in-AtRest.is c.in_ok-relax_separation.ensures))
      | in-Raised w ↦ rw w.raised-is (swept_rise seps old mid new c.loop-sep.raised c.loop-sep.sep c.loop-sep.invariant (subst (IsRelaxation seps mid new _) w.in-Raised.is c.in_ok-relax_separation.ensures))
    ]

pub returns : goal.returns
returns c =
    let seps = c.args.seps.now in
    let old = c.args.reaches.now.items in
    let new = c.loop-sep.reaches.items in
    elim c.if-raised.branch [
      | then-raised w ↦ rw w.result-is (swept_raised seps old new c.loop-sep.raised c.loop-sep.sep w.if-raised.true c.loop-sep.invariant)
      | else-raised w ↦ rw w.result-is (swept_at_rest seps old new c.loop-sep.raised c.loop-sep.sep w.if-raised.false (omega arith) c.loop-sep.invariant)
    ]
