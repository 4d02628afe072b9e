use Rattle.std.proofs.Common.{◌≡◌, true, false}
use Rattle.scene_model.specs.declared.uses.Wanted.TheVariants as wanted
use Rattle.scene_model.specs.Names.{same_name}
use Rattle.scene_model.specs.Uses.{has_shape}
use Rattle.scene_model.proofs.Testing.{two}
use Rattle.layout_tests.proofs.made_scenes.add_link.Goals as goal

pub add-requires-clause-sound : goal.add-requires-clause-sound
add-requires-clause-sound c =
    let a = c.args.link.a in
    let b = c.args.link.b in
    let shapes = c.args.scene.now.shapes in
    let differ : same_name a b ≡ false = cc in
    let first : has_shape shapes a ≡ true = cc in
    let second : has_shape shapes b ≡ true = cc in
    two shapes c.args.scene.now.guides wanted.Shape a b differ first second
