use Rattle.std.proofs.Common.{take, nat_eq}
use Rattle.std.specs.List.{list_any}
use Rattle.hop_graph.specs.Search.{IsMarked}
use Rattle.hop_graph.proofs.search.mark.Given as goal

abbrev pub invariant-loop-target : goal.invariant-loop-target
invariant-loop-target l = IsMarked l.fn.row l.hops (λ j. list_any (nat_eq j) (take l.target-index l.targets)) l.row
