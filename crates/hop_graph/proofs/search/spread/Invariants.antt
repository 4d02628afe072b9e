use Rattle.std.proofs.Common.{◌+◌, ◌&&◌}
use Rattle.hop_graph.specs.Links.{is_linked}
use Rattle.hop_graph.specs.Walks.{any_below}
use Rattle.hop_graph.specs.Search.{IsMarked, has_distance}
use Rattle.hop_graph.proofs.search.spread.Given as goal

abbrev pub invariant-loop-shape : goal.invariant-loop-shape
invariant-loop-shape l = IsMarked l.fn.row (l.level + 1) (λ j. any_below (λ i. has_distance l.fn.row l.level i && is_linked l.scene i j) l.shape) l.row
