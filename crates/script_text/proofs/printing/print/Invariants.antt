use Rattle.std.proofs.Common.{◌≡◌, ◌++◌, take}
use Rattle.std.specs.Prelude.{codes}
use Rattle.script_text.proofs.Printed.{lines_bytes}
use Rattle.script_text.proofs.printing.print.Given as goal

abbrev pub invariant-loop-line : goal.invariant-loop-line
invariant-loop-line l = l.text.items ≡ codes "dunnart 1\n" ++ lines_bytes (take l.line-index l.fn.script)
