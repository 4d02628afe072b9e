use Rattle.std.proofs.Common.{◌≡◌, ◌+◌, ◌*◌, ◌≤◌, drop}
use Rattle.sep_gen.specs.Counted.{compound_count, total_of}
use Rattle.sep_gen.proofs.counting.of_compounds.Given as goal

abbrev pub invariant-loop-at : goal.invariant-loop-at
invariant-loop-at l =
    (l.total + total_of (compound_count l.axis l.scene.guides) (drop l.at l.scene.compounds) ≡ total_of (compound_count l.axis l.scene.guides) l.scene.compounds)
    × (l.total ≤ 64 * l.at)
