-- The command is simple, and what its shape says.
use Rattle.std.proofs.Common.{◌≡◌, ◌∙◌, true, false, List, refl, sym, ap, subst, codes, map, inl, inr, Ok}
use Rattle.std.specs.Str.{bytes_eq}
use Rattle.clap.specs.Words.{FailsBy, HasKind, HasMatchesOf, IsAmong, IsParsedFrom, Text, app_of, args_of, fault_of, found_of, is_simple, is_simple_and_free, kind_of, matches_of, rows_of, rule_of}
use Rattle.clap.specs.Built.{IsAuto}
use Rattle.clap.specs.Simple.{App, has_simple_rules, shape_of}
use Rattle.clap.specs.declared.builder.arg.Arg.{Arg}
use Rattle.clap.specs.declared.builder.command.Command.{Command}
use Rattle.clap.specs.declared.builder.value_parser.ValueParser.TheVariants as parser
use Rattle.clap.specs.declared.error.Error.{Error}
use Rattle.clap.specs.declared.error.kind.ErrorKind.TheVariants as kind
use Rattle.clap.specs.declared.parser.matches.ArgMatches.{ArgMatches}
use Rattle.command_line.specs.Command.{TakesWords, the_command}
use Rattle.command_line.specs.Plans.{plan_by, plan_of}
use Rattle.command_line.specs.Readings.{IsRead}
use Rattle.command_line.proofs.Shapes.{AreOnlyBy}
use Rattle.command_line.proofs.Optional.{optional_read}
use Rattle.std.specs.Prelude.{pos}

the_command_is_simple : is_simple the_command ≡ true
unfolding the_command
the_command_is_simple = refl

the_command_is_free : is_simple_and_free the_command ≡ true
unfolding the_command
the_command_is_free = refl

simple_rules : has_simple_rules the_command.top ≡ true
unfolding the_command
simple_rules = refl

-- the flags for help and the version have other ids
module _ (id : Text) (help : bytes_eq (codes "help") id ≡ false) (version : bytes_eq (codes "version") id ≡ false) where
  not_auto : (a : Arg) → IsAuto a → bytes_eq a.id.now id ≡ false
  not_auto a (inl is) = ap (λ (t : Text). bytes_eq t id) is ∙ help
  not_auto a (inr is) = ap (λ (t : Text). bytes_eq t id) is ∙ version

workers_rule : AreOnlyBy (codes "workers") (parser.Signed (pos 0) (pos 8)) the_command.top.rules
unfolding the_command
workers_rule = (λ _. (refl, refl), (λ e. absurd cc, (λ e. absurd cc, (λ e. absurd cc, tt))))

frames_rule : AreOnlyBy (codes "frames") (parser.Signed (pos 0) (pos 512)) the_command.top.rules
unfolding the_command
frames_rule = (λ e. absurd cc, (λ _. (refl, refl), (λ e. absurd cc, (λ e. absurd cc, tt))))

svg_rule : AreOnlyBy (codes "svg") parser.Bool the_command.top.rules
unfolding the_command
svg_rule = (λ e. absurd cc, (λ e. absurd cc, (λ _. (refl, refl), (λ e. absurd cc, tt))))

make_rule : AreOnlyBy (codes "make") (parser.Signed (pos 1) (pos 1000000)) the_command.top.rules
unfolding the_command
make_rule = (λ e. absurd cc, (λ e. absurd cc, (λ e. absurd cc, (λ _. (refl, refl), tt))))

-- what a parse of the command found passed the parsers
pub command_read : (c : Command) (m : ArgMatches) → app_of c ≡ the_command → IsParsedFrom c m → IsRead (found_of m)
command_read c m is p =
    let simple : has_simple_rules (shape_of c) ≡ true = ap (λ (a : App). has_simple_rules a.top) is ∙ simple_rules in
    let rules : map rule_of (args_of c) ≡ the_command.top.rules = ap (λ (a : App). a.top.rules) is in
    record {
      workers = optional_read c m p simple _ _ (subst (AreOnlyBy (codes "workers") (parser.Signed (pos 0) (pos 8))) (sym rules) workers_rule) (λ e. absurd cc) (not_auto _ refl refl);
      frames = optional_read c m p simple _ _ (subst (AreOnlyBy (codes "frames") (parser.Signed (pos 0) (pos 512))) (sym rules) frames_rule) (λ e. absurd cc) (not_auto _ refl refl);
      svg = optional_read c m p simple _ _ (subst (AreOnlyBy (codes "svg") parser.Bool) (sym rules) svg_rule) (λ e. absurd cc) (not_auto _ refl refl);
      make = optional_read c m p simple _ _ (subst (AreOnlyBy (codes "make") (parser.Signed (pos 1) (pos 1000000))) (sym rules) make_rule) (λ e. absurd cc) (not_auto _ refl refl);
    }

-- the plan is that of the matches
pub plan_is : (c : Command) (words : List Text) (m : ArgMatches) → app_of c ≡ the_command → HasMatchesOf (app_of c) words m → plan_by (rows_of (found_of m)) ≡ plan_of words
unfolding plan_of
plan_is c words m is has =
    let rows = (has (ap is_simple is ∙ the_command_is_simple)).0 in
    ap plan_by (rows ∙ ap (λ (a : App). matches_of a words) is)

-- where there are matches the words are taken
pub taken : (c : Command) (words : List Text) → app_of c ≡ the_command → (m : ArgMatches) → FailsBy (fault_of (app_of c) words) (Ok m) → TakesWords words
unfolding TakesWords
taken c words is m none = ap (λ (a : App). fault_of a words) (sym is) ∙ none

-- where there is an error that isn't for want of memory they aren't
pub not_taken : (c : Command) (words : List Text) (e : Error) → app_of c ≡ the_command → HasKind (fault_of (app_of c) words) e → (kind_of e ≡ kind.OutOfMemory → ⊥)
    → TakesWords words → ⊥
unfolding TakesWords
not_taken c words e is (inl memory) other none = other memory
not_taken c words e is (inr among) other none =
    subst (IsAmong (kind_of e)) (ap (λ (a : App). fault_of a words) is ∙ none) among

pub is_free : (c : Command) → app_of c ≡ the_command → is_simple_and_free (app_of c) ≡ true
is_free c is = ap is_simple_and_free is ∙ the_command_is_free
