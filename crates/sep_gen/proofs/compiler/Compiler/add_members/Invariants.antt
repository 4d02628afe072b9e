use Rattle.std.proofs.Common.{◌≡◌, ◌++◌, drop}
use Rattle.std.specs.List.{flat_map}
use Rattle.scene_model.specs.Separations.{within}
use Rattle.sep_gen.proofs.compiler.Compiler.add_members.Given as goal

abbrev pub invariant-loop-member : goal.invariant-loop-member
invariant-loop-member l = l.list.items ++ flat_map (within l.self.scene.now l.self.axis l.area l.inset) (drop l.member-index l.members) ≡ l.initial.list.items ++ flat_map (within l.self.scene.now l.self.axis l.area l.inset) l.members
