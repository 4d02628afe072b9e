use Rattle.std.proofs.Common.{ap, ◌∙◌}
use Rattle.scene_model.specs.Items.{with_thing_at, count_of}
use Rattle.scene_model.proofs.Sound.{IsSound-put_back, with_thing_at-end}
use Rattle.scene_model.proofs.scene.Scene.add.Goals as goal

pub insert-requires-clause-sound : goal.insert-requires-clause-sound
insert-requires-clause-sound c = IsSound-put_back c.args.self.now c.count-at.result c.args.thing c.count-at.ensures.sound c.requires.free c.requires.sound c.requires.room

pub returns-clause-added : goal.returns-clause-added
returns-clause-added c =
    c.in_ok-insert.ensures.added
    ∙ (ap (λ k. with_thing_at c.args.self.now k c.args.thing) (c.count-at.ensures.value ∙ ap (λ s. count_of c.args.self.now s) c.sort.ensures)
    ∙ with_thing_at-end c.args.self.now c.args.thing)
