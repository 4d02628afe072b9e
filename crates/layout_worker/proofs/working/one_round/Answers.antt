use Rattle.std.proofs.Common.{ap}
use Rattle.doc_book.specs.declared.looking.Look.TheVariants as look
use Rattle.doc_book.specs.declared.told.Told.{Told}
use Rattle.layout_worker.proofs.Rounds.{worked-looked, round-after}
use Rattle.layout_worker.proofs.working.one_round.Goals as goal

pub returns-in-Job-clause-round : goal.returns-in-Job-clause-round
returns-in-Job-clause-round g c =
    let e = c.in-Job.ensures in
    round-after (g.D.Desk.at c.args.desk.now) (g.D.Desk.at c.look.new.self) (g.D.Desk.at c.solve.new.desk) c.solve.result
    (worked-looked (g.D.Desk.at c.args.desk.now) (g.D.Desk.at c.look.new.self) (look.Job c.in-Job.job) e.called)
    (ap (λ (t : Told). t.stale) e.told) (ap (λ (t : Told). t.idle) e.told) c.solve.ensures.round
