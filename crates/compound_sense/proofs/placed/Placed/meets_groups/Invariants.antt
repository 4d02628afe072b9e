use Rattle.std.proofs.Common.{drop}
use Rattle.std.specs.Prelude.{◌↔◌}
use Rattle.std.specs.List.{AllByRecursion}
use Rattle.scene_model.specs.Meaning.{MeetsGroup}
use Rattle.compound_sense.proofs.placed.Placed.meets_groups.Given as goal

abbrev pub invariant-loop-at : goal.invariant-loop-at
invariant-loop-at l =
    AllByRecursion (MeetsGroup l.self.scene.now l.self.axis l.self.places.now l.self.denominator) l.self.scene.now.groups
    ↔ AllByRecursion (MeetsGroup l.self.scene.now l.self.axis l.self.places.now l.self.denominator) (drop l.at l.self.scene.now.groups)
