use Rattle.std.proofs.Common.{drop}
use Rattle.std.specs.Prelude.{◌↔◌}
use Rattle.std.specs.List.{AllByRecursion}
use Rattle.scene_model.specs.Meaning.{MeetsCompound}
use Rattle.compound_sense.proofs.placed.Placed.meets_compounds.Given as goal

abbrev pub invariant-loop-at : goal.invariant-loop-at
invariant-loop-at l =
    AllByRecursion (MeetsCompound l.self.scene.now l.self.axis l.self.places.now l.self.denominator) l.self.scene.now.compounds
    ↔ AllByRecursion (MeetsCompound l.self.scene.now l.self.axis l.self.places.now l.self.denominator) (drop l.at l.self.scene.now.compounds)
