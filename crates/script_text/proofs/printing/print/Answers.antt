use Rattle.std.proofs.Common.{◌≡◌, ◌<◌, ◌≤◌, add-one, arith, get_or, length, ap}
use Rattle.script_text.proofs.Printed.{session_of_line, next_line, all_lines}
use Rattle.script_text.proofs.printing.print.Goals as goal

pub add_line-requires : goal.add_line-requires
add_line-requires c =
    session_of_line 2 c.lines-line-items.result.now c.loop-line.line-index c.line-item.result (rw c.lines-line-items.ensures.value c.lines-line-items.ensures.kept.are) c.loop-line-test.true c.line-item.is

pub loop-line-preserved : goal.loop-line-preserved
loop-line-preserved c =
    let same = c.lines-line-items.ensures.value in
    let lt : c.loop-line.line-index < length c.args.script.now = omega (arith, c.loop-line-test.true, ap length same) in
    let is : c.line-item.result ≡ get_or c.args.script.now c.loop-line.line-index c.line-item.result = rw same at c.line-item.is in
    rw add-one (next_line c.loop-line.text.items c.add_line.new.text.items c.args.script.now c.loop-line.line-index c.line-item.result lt is c.loop-line.invariant c.in_ok-add_line.ensures)

pub returns : goal.returns
returns c =
    let same = c.lines-line-items.ensures.value in
    let low : length c.args.script.now ≤ c.loop-line.line-index = omega (arith, c.loop-line-test.false, ap length same) in
    let high : c.loop-line.line-index ≤ length c.args.script.now = omega (arith, c.loop-line.auto.line-index-end, ap length same) in
    all_lines c.loop-line.text.items c.extend_from_slice.new.self.items c.args.script.now c.loop-line.line-index low high c.lines-line-items.ensures.kept c.loop-line.invariant c.in_ok-extend_from_slice.ensures.items
