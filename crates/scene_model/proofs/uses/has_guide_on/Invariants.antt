use Rattle.std.proofs.Common.{◌≡◌, ◌&&◌, false, take}
use Rattle.std.specs.List.{list_any}
use Rattle.scene_model.specs.declared.items.Guide.{Guide}
use Rattle.scene_model.specs.Names.{same_name, same_axis}
use Rattle.scene_model.proofs.uses.has_guide_on.Given as goal

abbrev pub invariant-loop-number : goal.invariant-loop-number
invariant-loop-number l = list_any (λ (g : Guide). same_name l.name g.name && same_axis g.axis l.axis) (take l.number l.guides) ≡ false
