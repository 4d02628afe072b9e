use Rattle.std.proofs.Common.{◌≡◌, take}
use Rattle.scene_model.proofs.naming.NamedItems.copy.Given as goal

abbrev pub invariant-loop-number : goal.invariant-loop-number
invariant-loop-number g l = l.copy ≡ take l.number l.self
