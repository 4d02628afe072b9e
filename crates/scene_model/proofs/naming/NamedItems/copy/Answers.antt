use Rattle.std.proofs.Common.{◌++◌, ◌∷◌, [], ap, sym, ◌∙◌, map, subst}
use Rattle.std.specs.List.{IsDistinct}
use Rattle.scene_model.specs.Names.{same_name}
use Rattle.scene_model.specs.Naming.{has_name}
use Rattle.scene_model.proofs.Keyed.{free_so_far}
use Rattle.scene_model.proofs.Named.{take-next}
use Rattle.scene_model.proofs.naming.NamedItems.copy.Goals as goal

pub push-requires : goal.push-requires
push-requires g c =
    record {
      free =
          ap (has_name g.T.HasName.name_of (g.T.HasName.name_of c.in_ok-item.item)) c.loop-number.invariant
          ∙ free_so_far g.T.HasName.name_of c.args.self.now c.loop-number.number c.in_ok-item.item
          (subst (IsDistinct same_name) (c.self.invariant ∙ ap (map g.T.HasName.name_of) c.self.view_is) c.len-number-end.ensures.unique) c.in_ok-item.ensures;
    }

pub loop-number-preserved : goal.loop-number-preserved
loop-number-preserved g c =
    c.in_ok-push.ensures.added
    ∙ (ap (λ items. items ++ c.in_ok-item.item ∷ []) c.loop-number.invariant ∙ sym (take-next c.args.self.now c.loop-number.number c.in_ok-item.item c.in_ok-item.ensures))
