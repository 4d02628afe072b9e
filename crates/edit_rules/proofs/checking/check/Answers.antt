use Rattle.edit_rules.proofs.Judging.{check_accepted, check_refused}
use Rattle.edit_rules.proofs.checking.check.Goals as goal

pub returns-clause-accepted : goal.returns-clause-accepted
returns-clause-accepted c = check_accepted c.args.scene.now c.args.edit.now c.first_refusal.result c.first_refusal.ensures

pub returns-clause-refused : goal.returns-clause-refused
returns-clause-refused c = check_refused c.args.scene.now c.args.edit.now c.first_refusal.result c.first_refusal.ensures
