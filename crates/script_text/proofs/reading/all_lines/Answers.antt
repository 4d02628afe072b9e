use Rattle.std.proofs.Common.{sym, ◌∙◌}
use Rattle.script_text.proofs.Loop.{behind_header}
use Rattle.script_text.proofs.reading.all_lines.Goals as goal

pub returns : goal.returns
returns c = behind_header _ c.header.new.lines c.commands.result (sym c.new-lines.ensures ∙ c.in_ok-header.ensures.0) c.commands.ensures
