use Rattle.std.proofs.Common.{subst}
use Rattle.edit_rules.proofs.Accepting.{IsAccepted, accepted, remove_fits, unlink_fits, drop_fits}
use Rattle.edit_rules.proofs.applying.change.Goals as goal

pub remove-requires-clause-sound : goal.remove-requires-clause-sound
remove-requires-clause-sound c =
    (remove_fits c.args.scene.now c.in-Remove.name (subst (IsAccepted c.args.scene.now) c.in-Remove.is (accepted c.args.scene.now c.args.edit.now c.requires.accepted)) c.count-shapes.ensures.sound).1

pub remove-requires-in-Unlink-clause-sound : goal.remove-requires-in-Unlink-clause-sound
remove-requires-in-Unlink-clause-sound c =
    (unlink_fits c.args.scene.now c.in-Unlink.name (subst (IsAccepted c.args.scene.now) c.in-Unlink.is (accepted c.args.scene.now c.args.edit.now c.requires.accepted)) c.count-shapes.ensures.sound).1

pub remove-requires-in-Drop-clause-sound : goal.remove-requires-in-Drop-clause-sound
remove-requires-in-Drop-clause-sound c =
    (drop_fits c.args.scene.now c.in-Drop.name (subst (IsAccepted c.args.scene.now) c.in-Drop.is (accepted c.args.scene.now c.args.edit.now c.requires.accepted)) c.count-shapes.ensures.sound).1
