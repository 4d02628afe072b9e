-- The plans of worked words, by computation.
use Rattle.std.specs.Prelude.{◌≡◌, [], ◌∷◌, None, Some, codes, false, true, refl}
use Rattle.clap.specs.Words.{Text, fault_of}
use Rattle.clap.specs.declared.error.kind.ErrorKind.TheVariants as kind
use Rattle.clap.proofs.OnLiterals.{clap_on_literals}
use Rattle.command_line.specs.Command.{TakesWords, the_command}
use Rattle.command_line.specs.Plans.{plan_of}
use Rattle.command_line.specs.declared.plans.Plan.{Plan}

abbrev name : Text
name = codes "dunnart"

abbrev plain : Plan
plain = record { workers = 0; frames = 64; svg = false; made = None }

-- no words ask for the same as the program's name alone
no_words : plan_of [] ≡ plain
unfolding plan_of the_command clap_on_literals
no_words = refl

no_words_taken : TakesWords []
unfolding TakesWords the_command clap_on_literals
no_words_taken = refl

name_alone : plan_of (name ∷ []) ≡ plain
unfolding plan_of the_command clap_on_literals
name_alone = refl

-- a value behind `=`, and a flag
frames_and_svg : plan_of (name ∷ codes "--frames=3" ∷ codes "--svg" ∷ []) ≡ record plain { frames = 3; svg = true }
unfolding plan_of the_command clap_on_literals
frames_and_svg = refl

frames_and_svg_taken : TakesWords (name ∷ codes "--frames=3" ∷ codes "--svg" ∷ [])
unfolding TakesWords the_command clap_on_literals
frames_and_svg_taken = refl

-- a made script has no workers
made : plan_of (name ∷ codes "--make" ∷ codes "7" ∷ codes "--workers" ∷ codes "2" ∷ []) ≡ record plain { made = Some 7 }
unfolding plan_of the_command clap_on_literals
made = refl

-- a number above its range
nine_workers : fault_of the_command (name ∷ codes "--workers" ∷ codes "9" ∷ []) ≡ kind.ValueValidation ∷ []
unfolding the_command clap_on_literals
nine_workers = refl

-- a flag twice
svg_twice : fault_of the_command (name ∷ codes "--svg" ∷ codes "--svg" ∷ []) ≡ kind.ArgumentConflict ∷ []
unfolding the_command clap_on_literals
svg_twice = refl

-- a request for help, and one for a version, which the command hasn't
help : fault_of the_command (name ∷ codes "-h" ∷ []) ≡ kind.DisplayHelp ∷ []
unfolding the_command clap_on_literals
help = refl

version : fault_of the_command (name ∷ codes "--version" ∷ []) ≡ kind.UnknownArgument ∷ []
unfolding the_command clap_on_literals
version = refl

-- `--` alone is taken, and a word behind it isn't
dashes : TakesWords (name ∷ codes "--" ∷ [])
unfolding TakesWords the_command clap_on_literals
dashes = refl

word_behind_dashes : fault_of the_command (name ∷ codes "--" ∷ codes "--svg" ∷ []) ≡ kind.UnknownArgument ∷ []
unfolding the_command clap_on_literals
word_behind_dashes = refl

-- an option without a value
no_value : fault_of the_command (name ∷ codes "--frames" ∷ []) ≡ kind.InvalidValue ∷ []
unfolding the_command clap_on_literals
no_value = refl

-- a flag with a value, and the beginning of an option's name
svg_with_value : fault_of the_command (name ∷ codes "--svg=true" ∷ []) ≡ kind.TooManyValues ∷ []
unfolding the_command clap_on_literals
svg_with_value = refl

prefix : fault_of the_command (name ∷ codes "--work" ∷ codes "2" ∷ []) ≡ kind.UnknownArgument ∷ []
unfolding the_command clap_on_literals
prefix = refl

-- zero with a sign: `-0` stands for itself behind `=`, and is a flag by itself
minus_zero : plan_of (name ∷ codes "--workers=-0" ∷ []) ≡ plain
unfolding plan_of the_command clap_on_literals
minus_zero = refl

minus_zero_alone : fault_of the_command (name ∷ codes "--workers" ∷ codes "-0" ∷ []) ≡ kind.UnknownArgument ∷ []
unfolding the_command clap_on_literals
minus_zero_alone = refl

plus_five : plan_of (name ∷ codes "--workers" ∷ codes "+5" ∷ []) ≡ record plain { workers = 5 }
unfolding plan_of the_command clap_on_literals
plus_five = refl

-- an option twice, and the short flag for a version
frames_twice : fault_of the_command (name ∷ codes "--frames" ∷ codes "3" ∷ codes "--frames=4" ∷ []) ≡ kind.ArgumentConflict ∷ []
unfolding the_command clap_on_literals
frames_twice = refl

short_version : fault_of the_command (name ∷ codes "-V" ∷ []) ≡ kind.UnknownArgument ∷ []
unfolding the_command clap_on_literals
short_version = refl

long_help : fault_of the_command (name ∷ codes "--help" ∷ []) ≡ kind.DisplayHelp ∷ []
unfolding the_command clap_on_literals
long_help = refl
