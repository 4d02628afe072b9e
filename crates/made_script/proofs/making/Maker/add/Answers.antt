use Rattle.std.proofs.Common.{List, rules, subst, sym}
use Rattle.script_text.specs.declared.scripts.Line.{Line}
use Rattle.script_text.specs.Scripts.{AreLines}
use Rattle.made_script.proofs.Fine.{line_added}
use Rattle.made_script.proofs.making.Maker.add.Goals as goal

pub invariant_of-self-2 : goal.invariant_of-self-2
invariant_of-self-2 c =
    subst (λ (ls : List Line). AreLines 2 ls) (sym c.in_ok-push.ensures.items)
    (line_added c.self.inside.lines.items c.args.kind c.args.k c.self.inside.draws.state c.in_ok-command.command c.len.result c.self.invariant c.requires.number.1 (search rules) c.in_ok-command.ensures.command)
