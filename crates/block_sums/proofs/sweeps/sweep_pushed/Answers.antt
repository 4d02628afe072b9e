use Rattle.std.proofs.Common.{subst}
use Rattle.block_sums.specs.Solving.{AreMarks}
use Rattle.block_sums.proofs.Telling.{telling}
use Rattle.block_sums.proofs.sweeps.sweep_pushed.Goals as goal

pub returns-clause-tells : goal.returns-clause-tells
returns-clause-tells c =
    let p = c.args.problem.now in
    let b = c.in_ok-block.block in
    let e = c.in_ok-block.ensures in
    telling p c.args.active.now c.args.closing c.args.root b.legs.items b.weights.items b.moments.items c.in_ok-marks.marks.items c.requires.active c.requires.closing c.requires.off c.marks_of.ensures.apart e.within e.sums
    (subst (λ l. AreMarks p c.args.closing l c.in_ok-marks.marks.items) c.deref.ensures.value c.in_ok-marks.ensures.marks)
