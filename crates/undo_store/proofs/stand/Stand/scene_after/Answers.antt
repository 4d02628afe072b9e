use Rattle.std.proofs.Common.{sym, ◌∙◌, subst}
use Rattle.edit_rules.specs.Effects.{HasFewMoves}
use Rattle.edit_rules.proofs.Changing.{HasFewMoves-left}
use Rattle.undo_store.proofs.Lasting.{few_moves}
use Rattle.undo_store.proofs.stand.Stand.scene_after.Goals as goal

pub apply-requires-clause-few : goal.apply-requires-clause-few
apply-requires-clause-few c =
    HasFewMoves-left c.in_ok-scene.scene c.in_ok-copy.field-0
    (subst (HasFewMoves 4294967294) (sym (c.in_ok-scene.ensures ∙ c.self.invariant.scene_is)) (few_moves c.self.inside.edits.items c.self.invariant.few))
