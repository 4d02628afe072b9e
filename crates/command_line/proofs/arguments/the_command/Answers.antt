use Rattle.std.proofs.Common.{◌∙◌, ap, ap₂}
use Rattle.clap.specs.Words.{with_rule}
use Rattle.clap.specs.Simple.{app_of_fields}
use Rattle.command_line.specs.Command.{the_command}
use Rattle.command_line.proofs.arguments.the_command.Goals as goal

-- an argument after the other
pub returns : goal.returns
unfolding the_command
returns c =
    c.in_ok-command-4.ensures.shape c.number-3.ensures.local ∙ ap₂ with_rule
    (c.in_ok-command-3.ensures.shape c.flag.ensures.local ∙ ap₂ with_rule
    (c.in_ok-command-2.ensures.shape c.number-2.ensures.local ∙ ap₂ with_rule
    (c.in_ok-command.ensures.shape c.number.ensures.local ∙ ap₂ with_rule
    (ap app_of_fields c.about-command.ensures ∙ c.new.ensures.app) c.number.ensures.rule) c.number-2.ensures.rule) c.flag.ensures.rule) c.number-3.ensures.rule
