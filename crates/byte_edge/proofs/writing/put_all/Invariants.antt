use Rattle.std.proofs.Common.{◌-◌, length}
use Rattle.byte_edge.proofs.Front.{PutsSoFar}
use Rattle.byte_edge.proofs.writing.put_all.Given as goal

abbrev pub invariant-loop-at : goal.invariant-loop-at
invariant-loop-at g l = PutsSoFar (g.K.Sink.put l.fn.sink) (g.K.Sink.put l.sink) (g.K.Sink.faults l.fn.sink) (g.K.Sink.faults l.sink) l.bytes l.at

abbrev pub decreases-loop-at : goal.decreases-loop-at
decreases-loop-at g l = length l.bytes - l.at
