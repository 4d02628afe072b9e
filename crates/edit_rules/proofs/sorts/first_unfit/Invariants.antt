use Rattle.std.proofs.Common.{◌≡◌, None, take}
use Rattle.std.specs.Prelude.{find, not}
use Rattle.edit_rules.specs.Naming.{is_of_kind}
use Rattle.edit_rules.proofs.sorts.first_unfit.Given as goal

abbrev pub invariant-loop-at : goal.invariant-loop-at
invariant-loop-at l = find (λ name. not (is_of_kind l.scene l.kind name)) (take l.at l.names) ≡ None
