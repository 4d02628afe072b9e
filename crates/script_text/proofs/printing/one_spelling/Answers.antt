use Rattle.std.proofs.Common.{sym, ◌∙◌}
use Rattle.script_text.proofs.printing.one_spelling.Goals as goal

pub returns : goal.returns
returns c = λ a b lines h g. h.text ∙ sym g.text
