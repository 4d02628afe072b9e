use Rattle.std.proofs.Common.{sym, subst}
use Rattle.std.specs.List.{AllByRecursion}
use Rattle.session_run.specs.Alone.{IsOfSession}
use Rattle.session_run.proofs.Playing.{of_sessions}
use Rattle.session_run.proofs.alone.play_alone.Goals as goal

pub play_lines-requires-clause-lines : goal.play_lines-requires-clause-lines
play_lines-requires-clause-lines g c κs within = subst (AllByRecursion IsOfSession) (sym c.lines.ensures.value) (of_sessions 2 c.args.script.now c.lines.ensures.kept.are)
