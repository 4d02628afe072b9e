use Rattle.edit_rules.proofs.Edges.{low_corner_is, high_corner_is}
use Rattle.edit_rules.proofs.corners.corner_law.Goals as goal

pub returns-clause-low : goal.returns-clause-low
returns-clause-low c = low_corner_is

pub returns-clause-high : goal.returns-clause-high
returns-clause-high c = high_corner_is
