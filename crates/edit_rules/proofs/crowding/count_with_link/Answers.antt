use Rattle.std.proofs.Common.{sym, ◌∙◌}
use Rattle.sep_gen.proofs.Changing.{same_with_link}
use Rattle.edit_rules.proofs.crowding.count_with_link.Goals as goal

pub returns : goal.returns
returns c = λ link. c.count.ensures.value ∙ sym (same_with_link c.args.scene.now c.args.axis link)
