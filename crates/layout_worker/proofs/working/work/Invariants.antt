use Rattle.std.proofs.Common.{◌≡◌, ℕ, List, None, length}
use Rattle.layout_worker.specs.Working.{IsWorked}
use Rattle.layout_worker.proofs.working.work.Given as goal

abbrev pub invariant-loop : goal.invariant-loop
invariant-loop g l =
    ((mine : List ℕ) × IsWorked (g.D.Desk.at l.fn.desk) (g.D.Desk.at l.desk) mine × (length mine ≡ l.published))
    × ((g.D.Desk.at l.desk).told.job ≡ None) × ((g.D.Desk.at l.desk).told.stale ≡ l.stale) × ((g.D.Desk.at l.desk).told.idle ≡ l.idle)
    × (g.D.Desk.key l.desk ≡ g.D.Desk.key l.fn.desk)
