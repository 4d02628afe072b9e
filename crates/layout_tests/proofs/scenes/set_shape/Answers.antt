use Rattle.scene_model.proofs.Sound.{IsSound-set_shape}
use Rattle.layout_tests.proofs.scenes.set_shape.Goals as goal

pub set-requires-clause-sound : goal.set-requires-clause-sound
set-requires-clause-sound c = IsSound-set_shape c.args.scene.now c.args.shape c.count-shapes.ensures.sound c.requires
