use Rattle.std.proofs.Common.{◌+◌, ◌*◌, ◌∙◌, List, ap, sym, length, refl}
use Rattle.scene_model.specs.Names.{NameOf}
use Rattle.sep_gen.proofs.Additions.{with_group}
use Rattle.sep_gen.proofs.adding.count_with_group.Goals as goal

pub returns : goal.returns
returns c = λ group members. with_group c.args.scene.now c.args.axis c.count.result c.count.ensures.value group c.of_grouped.result _ (c.of_grouped.ensures.value ∙ ap (λ (ms : List NameOf). 2 * length ms + 1) (sym members)) refl
