-- The command of the program, as a parse by clap reads it.
use Rattle.std.specs.Prelude.{◌≡◌, ℕ, List, [], Some, codes, pos}
use Rattle.clap.specs.Words.{App, Rule, Text, fault_of, new_app, new_rule, with_rule}
use Rattle.clap.specs.declared.builder.action.ArgAction.TheVariants.{Set, SetTrue}
use Rattle.clap.specs.declared.builder.value_parser.ValueParser.TheVariants as parser

-- an option `--NAME N` with a whole number from `least` to `most`
abbrev pub number_rule : Text → ℕ → ℕ → Rule
number_rule name least most = record (new_rule name) {
  long = Some name;
  value_names = 1;
  action = Some Set;
  parser = Some (parser.Signed (pos least) (pos most));
}

-- a flag `--NAME`
abbrev pub flag_rule : Text → Rule
flag_rule name = record (new_rule name) { long = Some name; action = Some SetTrue; parser = Some parser.Bool }

-- dunnart [--workers N] [--frames N] [--svg] [--make N]
unfoldable pub the_command : App
the_command =
    with_rule (with_rule (with_rule (with_rule (new_app (codes "dunnart"))
    (number_rule (codes "workers") 0 8))
    (number_rule (codes "frames") 0 512))
    (flag_rule (codes "svg")))
    (number_rule (codes "make") 1 1000000)

-- The command takes the words, of which the first is the program's name: a parse by clap finds no fault in them. A
-- request for help counts as a fault.
unfoldable pub TakesWords : List Text → Type 0
TakesWords words = fault_of the_command words ≡ []
