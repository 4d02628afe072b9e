use Rattle.std.proofs.Common.{drop}
use Rattle.std.specs.Prelude.{◌↔◌}
use Rattle.std.specs.List.{AllByRecursion}
use Rattle.scene_model.specs.Meaning.{IsWithin}
use Rattle.compound_sense.proofs.placed.Placed.are_within.Given as goal

abbrev pub invariant-loop-member : goal.invariant-loop-member
invariant-loop-member l =
    AllByRecursion (IsWithin l.self.scene.now l.self.axis l.self.places.now l.self.denominator l.area l.inset) l.members
    ↔ AllByRecursion (IsWithin l.self.scene.now l.self.axis l.self.places.now l.self.denominator l.area l.inset) (drop l.member-index l.members)
