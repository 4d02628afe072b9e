use Rattle.std.proofs.Common.{length}
use Rattle.script_text.proofs.Loop.{SoFar}
use Rattle.script_text.proofs.reading.commands.Given as goal

abbrev pub invariant-loop-bytes : goal.invariant-loop-bytes
invariant-loop-bytes l = SoFar l.fn.lines l.script.items l.lines

abbrev pub decreases-loop-bytes : goal.decreases-loop-bytes
decreases-loop-bytes l = length l.lines
