use Rattle.edit_rules.proofs.Accepting.{accepted, made_free, made_room, made_sound}
use Rattle.edit_rules.proofs.applying.apply.Goals as goal

pub add-requires-clause-free : goal.add-requires-clause-free
add-requires-clause-free c = let ok = accepted c.args.scene.now c.args.edit c.requires.accepted in made_free c.args.scene.now c.args.edit c.in-Ok.thing c.in-Ok.ensures ok.taken

pub add-requires-clause-room : goal.add-requires-clause-room
add-requires-clause-room c = let ok = accepted c.args.scene.now c.args.edit c.requires.accepted in made_room c.args.scene.now c.args.edit c.in-Ok.thing c.in-Ok.ensures ok.full

pub add-requires-clause-sound : goal.add-requires-clause-sound
add-requires-clause-sound c =
    made_sound c.args.scene.now c.args.edit c.in-Ok.thing c.in-Ok.ensures (accepted c.args.scene.now c.args.edit c.requires.accepted) c.count-shapes.ensures.sound
