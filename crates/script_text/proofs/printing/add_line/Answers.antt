use Rattle.std.proofs.Common.{◌∙◌}
use Rattle.script_text.proofs.Printed.{line_bytes}
use Rattle.script_text.proofs.printing.add_line.Goals as goal

pub returns : goal.returns
returns c =
    line_bytes c.args.text.now.items c.push.new.self.items c.push-2.new.self.items c.extend_from_slice.new.self.items c.push-3.new.self.items c.deref.result.now c.args.line.now
    c.requires c.in_ok-push.ensures.items c.in_ok-push-2.ensures.items (c.deref.ensures.value ∙ c.in_ok-command.ensures) c.in_ok-extend_from_slice.ensures.items c.in_ok-push-3.ensures.items
