use Rattle.std.proofs.Common.{◌≡◌, true, false, rules}
use Rattle.units.specs.declared.geometry.Axis.TheVariants.{X}
use Rattle.scene_model.specs.declared.uses.Wanted.TheVariants as wanted
use Rattle.scene_model.specs.Names.{same_name}
use Rattle.scene_model.specs.Uses.{stands_as}
use Rattle.scene_model.proofs.Testing.{two}
use Rattle.layout_tests.proofs.made_scenes.add_apart.Goals as goal

pub add-requires-clause-sound : goal.add-requires-clause-sound
add-requires-clause-sound c =
    let a = c.args.a in
    let b = c.args.b in
    let shapes = c.args.scene.now.shapes in
    let guides = c.args.scene.now.guides in
    let differ : same_name a b ≡ false = cc in
    let first : stands_as shapes guides (wanted.Placed X) a ≡ true = cc in
    let second : stands_as shapes guides (wanted.Placed X) b ≡ true = cc in
    record { gap = search (rules, c.requires); user = two shapes guides (wanted.Placed X) a b differ first second }
