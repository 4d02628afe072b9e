use Rattle.std.proofs.Common.{◌≡◌, false}
use Rattle.hop_graph.specs.Walks.{any_below}
use Rattle.hop_graph.specs.Search.{has_distance}
use Rattle.hop_graph.proofs.search.any_has_distance.Given as goal

abbrev pub invariant-loop-shape : goal.invariant-loop-shape
invariant-loop-shape l = any_below (has_distance l.row l.level) l.shape ≡ false
