use Rattle.std.proofs.Common.{rules, ◌≡◌, true, false}
use Rattle.std.specs.Prelude.{is_some}
use Rattle.scene_model.specs.Uses.{user_of}
use Rattle.scene_model.specs.Items.{stands}
use Rattle.scene_model.proofs.Testing.{taken}
use Rattle.layout_tests.proofs.scenes.take_and_put_back.Goals as goal

pub take-at-requires-clause-sound : goal.take-at-requires-clause-sound
take-at-requires-clause-sound c =
    let stood : stands c.args.scene.now c.args.name ≡ true = search rules in
    let none : is_some (user_of c.args.scene.now c.args.name) ≡ false = search rules in
    taken c.args.scene.now c.args.name c.count-shapes.ensures.sound stood none
