use Rattle.std.proofs.Common.{◌≡◌, ◌+◌, ◌*◌, length}
use Rattle.std.specs.Prelude.{fold}
use Rattle.made_script.specs.Made.{rounds, with_step}
use Rattle.made_script.proofs.making.add_rounds.Given as goal

abbrev pub invariant-loop-round : goal.invariant-loop-round
invariant-loop-round l = record {
  all : l.maker ≡ fold with_step l.initial.maker (rounds l.round);
  longer : length l.maker.lines ≡ length l.initial.maker.lines + 6 * l.round;
}
