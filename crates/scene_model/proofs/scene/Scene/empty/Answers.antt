use Rattle.std.proofs.Common.{sym, subst, arith}
use Rattle.std.specs.Prelude.{[]}
use Rattle.std.specs.List.{IsDistinct}
use Rattle.scene_model.specs.Names.{same_name}
use Rattle.scene_model.specs.Diagram.{empty_diagram}
use Rattle.scene_model.specs.Sound.{IsSound}
use Rattle.scene_model.proofs.scene.Scene.empty.Goals as goal

none_differ : IsDistinct same_name []
unfolding IsDistinct
none_differ = tt

empty_sound : IsSound empty_diagram
empty_sound = record {
  distinct = none_differ;
  counts = record { shapes = omega arith; guides = omega arith; links = omega arith; compounds = omega arith; groups = omega arith; pages = omega arith };
  shapes = tt;
  guides = tt;
  links = tt;
  compounds = tt;
  groups = tt;
  pages = tt;
}

pub invariant_of-result : goal.invariant_of-result
invariant_of-result c =
    subst IsSound
    (sym (λ i. record {
      shapes = c.new.ensures i;
      guides = c.new-2.ensures i;
      links = c.new-3.ensures i;
      compounds = c.new-4.ensures i;
      groups = c.new-5.ensures i;
      pages = c.new-6.ensures i;
    }))
    empty_sound
