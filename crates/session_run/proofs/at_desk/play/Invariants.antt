use Rattle.std.proofs.Common.{◌≡◌}
use Rattle.session_run.proofs.AllLines.{IsPlaying}
use Rattle.session_run.proofs.at_desk.play.Given as goal

abbrev pub invariant-loop-line : goal.invariant-loop-line
invariant-loop-line g l = record {
  playing : IsPlaying (g.D.Desk.at l.fn.desk) (g.D.Desk.at l.desk) l.who l.lines l.line-index l.replies;
  key : g.D.Desk.key l.desk ≡ g.D.Desk.key l.fn.desk;
}
