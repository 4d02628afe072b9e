use Rattle.std.proofs.Common.{arith}
use Rattle.std.proofs.lemmas.Bool.{both_ways}
use Rattle.script_text.proofs.Loop.{at_line}
use Rattle.script_text.proofs.reading.commands.Goals as goal

pub loop-bytes-preserved : goal.loop-bytes-preserved
loop-bytes-preserved c =
    at_line c.args.lines.now c.loop-bytes.script.items c.loop-bytes.lines c.in-Some.bytes.now c.next.new.self c.len-before.result c.in-Ok.line c.push.new.self.items
    c.loop-bytes.invariant c.in-Some.ensures (λ n. both_ways _ c.if-is_done.false (c.is_done.ensures.1 n)) (omega arith) c.in-Ok.ensures.0 c.in-Ok.ensures.1 c.in_ok-push.ensures.items
