use Rattle.std.proofs.Common.{◌≡◌, ◌++◌, length}
use Rattle.std.specs.List.{list_all}
use Rattle.units.specs.Name.{is_name}
use Rattle.script_text.proofs.fields.names.Given as goal

abbrev pub invariant-loop-word : goal.invariant-loop-word
invariant-loop-word l = record {
  parts : l.names.items ++ l.words ≡ l.fn.words;
  all : list_all is_name l.words ≡ list_all is_name l.fn.words;
}

abbrev pub decreases-loop-word : goal.decreases-loop-word
decreases-loop-word l = length l.words
