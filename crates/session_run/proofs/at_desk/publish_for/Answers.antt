use Rattle.std.proofs.Common.{ap, ◌∙◌, sym}
use Rattle.doc_book.specs.declared.publishing.Publish.TheVariants as publish
use Rattle.doc_book.specs.Jobs.{JobOf}
use Rattle.session_run.proofs.OneLine.{published_kept, published_replied, stale_replied}
use Rattle.session_run.proofs.at_desk.publish_for.Goals as goal

pub returns-in-Published-clause-replied : goal.returns-in-Published-clause-replied
returns-in-Published-clause-replied g c =
    published_replied (g.D.Desk.at c.args.desk.now) (g.D.Desk.at c.publish.new.self) c.args.line.now c.in_ok-solved.solved c.in-Published.place c.requires.line
    (c.requires.all ∙ ap (λ (j : JobOf). j.front) (sym c.in_ok-solved.ensures)) c.in-Published.ensures.told c.in-Published.ensures.called

pub returns-in-Published-clause-kept : goal.returns-in-Published-clause-kept
returns-in-Published-clause-kept g c =
    published_kept (g.D.Desk.at c.args.desk.now) (g.D.Desk.at c.publish.new.self) (g.D.Desk.at c.args.desk.now).who c.args.line.now.number c.in_ok-solved.solved
    (publish.Published c.in-Published.place) c.in-Published.ensures.called

pub returns-in-Stale-clause-replied : goal.returns-in-Stale-clause-replied
returns-in-Stale-clause-replied g c =
    stale_replied (g.D.Desk.at c.args.desk.now) (g.D.Desk.at c.publish.new.self) c.args.line.now c.in_ok-solved.solved c.in-Stale.back c.in-Stale.front c.requires.line
    (c.requires.all ∙ ap (λ (j : JobOf). j.front) (sym c.in_ok-solved.ensures)) c.in-Stale.ensures.told c.in-Stale.ensures.called

pub returns-in-Stale-clause-kept : goal.returns-in-Stale-clause-kept
returns-in-Stale-clause-kept g c =
    published_kept (g.D.Desk.at c.args.desk.now) (g.D.Desk.at c.publish.new.self) (g.D.Desk.at c.args.desk.now).who c.args.line.now.number c.in_ok-solved.solved
    (publish.Stale c.in-Stale.front c.in-Stale.back) c.in-Stale.ensures.called

pub returns-clause-kept : goal.returns-clause-kept
returns-clause-kept g c =
    published_kept (g.D.Desk.at c.args.desk.now) (g.D.Desk.at c.publish.new.self) (g.D.Desk.at c.args.desk.now).who c.args.line.now.number c.in_ok-solved.solved
    (publish.Memory c.in-Memory.back) c.in-Memory.ensures.called
