use Rattle.std.proofs.Common.{take}
use Rattle.session_run.specs.Alone.{IsPlayedAlone}
use Rattle.session_run.proofs.alone.play_lines.Given as goal

abbrev pub invariant-loop-line : goal.invariant-loop-line
invariant-loop-line g l = IsPlayedAlone l.fn.book l.book (take l.line-index l.lines) l.lists.items
