use Rattle.std.proofs.Common.{rules}
use Rattle.standard_run.proofs.Exiting.{ran-ExitsAsRun}
use Rattle.standard_run.proofs.process.run_words.Goals as goal

pub returns : goal.returns
returns g c =
    ran-ExitsAsRun _ _ _ _ _ c.run-outcome.result _ (search rules) c.run-outcome.ensures.run c.run-outcome.ensures.causes c.run-outcome.ensures.words_refused c.run-outcome.ensures.words_taken
    c.run-outcome.ensures.unread c.run-outcome.ensures.unwritten c.run-outcome.ensures.made c.run-outcome.ensures.complete
