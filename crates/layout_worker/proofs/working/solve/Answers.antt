use Rattle.std.proofs.Common.{ap}
use Rattle.doc_book.specs.declared.told.Told.{Told}
use Rattle.layout_worker.proofs.Rounds.{worked-published, worked-stale, worked-memory}
use Rattle.layout_worker.proofs.working.solve.Goals as goal

pub returns-in-Published-clause-round : goal.returns-in-Published-clause-round
returns-in-Published-clause-round g c =
    let e = c.in-Published.ensures in (
      (c.in-Published.place, worked-published (g.D.Desk.at c.args.desk.now) (g.D.Desk.at c.publish.new.self) c.in-Ok.solved c.in-Published.place e.called),
      record { stale_is = ap (λ (t : Told). t.stale) e.told; idle_is = ap (λ (t : Told). t.idle) e.told },
      ap (λ (t : Told). t.job) e.told,
      e.called.turned.short,
    )

pub returns-in-Stale-clause-round : goal.returns-in-Stale-clause-round
returns-in-Stale-clause-round g c =
    let e = c.in-Stale.ensures in (
      worked-stale (g.D.Desk.at c.args.desk.now) (g.D.Desk.at c.publish.new.self) (g.D.Desk.at c.args.desk.now).who 0 c.in-Ok.solved c.in-Stale.back c.in-Stale.front e.called,
      record { stale_is = ap (λ (t : Told). t.stale) e.told; idle_is = ap (λ (t : Told). t.idle) e.told },
      ap (λ (t : Told). t.job) e.told,
    )

pub returns-clause-round : goal.returns-clause-round
returns-clause-round g c =
    let e = c.in-Memory.ensures in (
      worked-memory (g.D.Desk.at c.args.desk.now) (g.D.Desk.at c.publish.new.self) (g.D.Desk.at c.args.desk.now).who 0 c.in-Ok.solved c.in-Memory.back e.called,
      record { stale_is = ap (λ (t : Told). t.stale) e.told; idle_is = ap (λ (t : Told). t.idle) e.told },
      tt,
    )
