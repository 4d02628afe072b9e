use Rattle.std.proofs.Common.{◌≡◌, map, take}
use Rattle.scene_model.specs.Variables.{variables}
use Rattle.frame_store.specs.Carry.{kept_place}
use Rattle.frame_store.proofs.carrying.carry_axis.Given as goal

abbrev pub invariant-loop-var : goal.invariant-loop-var
invariant-loop-var l = l.next.items ≡ map (kept_place (variables l.before l.axis) l.places) (take l.var (variables l.after l.axis))
