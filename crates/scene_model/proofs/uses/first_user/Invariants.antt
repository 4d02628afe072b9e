use Rattle.std.proofs.Common.{◌≡◌, take, None}
use Rattle.std.specs.Prelude.{find}
use Rattle.scene_model.specs.Uses.{is_used_in}
use Rattle.scene_model.proofs.uses.first_user.Given as goal

abbrev pub invariant-loop-number : goal.invariant-loop-number
invariant-loop-number g l = find (λ x. is_used_in (g.T.Uses.uses_of x) l.name) (take l.number l.items) ≡ None
