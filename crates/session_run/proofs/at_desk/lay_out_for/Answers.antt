use Rattle.std.proofs.Common.{ap}
use Rattle.doc_book.specs.declared.looking.Look.TheVariants as look
use Rattle.doc_book.specs.declared.told.Told.{Told}
use Rattle.doc_book.specs.Calls.{IsLooked}
use Rattle.session_run.proofs.OneLine.{same_kept, kept-then, replied_after}
use Rattle.session_run.proofs.at_desk.lay_out_for.Goals as goal

pub returns-in-Job-clause-replied : goal.returns-in-Job-clause-replied
returns-in-Job-clause-replied g c =
    replied_after (λ o. IsLooked o (look.Job c.in-Job.job)) (g.D.Desk.at c.args.desk.now) (g.D.Desk.at c.look.new.self) (g.D.Desk.at c.publish_for.new.desk) c.args.line.now
    c.publish_for.result c.in-Job.ensures.called (ap (λ (t : Told). t.stale) c.in-Job.ensures.told) c.publish_for.ensures.replied

pub returns-in-Job-clause-kept : goal.returns-in-Job-clause-kept
returns-in-Job-clause-kept g c =
    kept-then (g.D.Desk.at c.args.desk.now) (g.D.Desk.at c.look.new.self) (g.D.Desk.at c.publish_for.new.desk)
    (same_kept (λ o. IsLooked o (look.Job c.in-Job.job)) (g.D.Desk.at c.args.desk.now) (g.D.Desk.at c.look.new.self) c.in-Job.ensures.called) c.publish_for.ensures.kept
