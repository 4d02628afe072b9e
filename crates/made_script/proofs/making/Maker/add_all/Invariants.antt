use Rattle.std.proofs.Common.{◌≡◌, ◌+◌, length}
use Rattle.std.specs.Prelude.{fold}
use Rattle.made_script.specs.Made.{numbered, with_step}
use Rattle.made_script.proofs.making.Maker.add_all.Given as goal

abbrev pub invariant-loop-k : goal.invariant-loop-k
invariant-loop-k l = record {
  all : l.self ≡ fold with_step l.initial.self (numbered l.kind l.k);
  longer : length l.self.lines ≡ length l.initial.self.lines + l.k;
}
