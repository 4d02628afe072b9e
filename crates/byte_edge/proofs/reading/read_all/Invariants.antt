use Rattle.std.proofs.Common.{◌≡◌, ◌-◌, length}
use Rattle.std.specs.Prelude.{vec_len}
use Rattle.byte_edge.proofs.SoFar.{GivesSoFar}
use Rattle.byte_edge.proofs.reading.read_all.Given as goal

abbrev pub invariant-turns : goal.invariant-turns
invariant-turns g l = (length l.buf ≡ 4096) × GivesSoFar l.limit (g.S.Source.left l.fn.source) (g.S.Source.left l.source) (g.S.Source.given l.fn.source) (g.S.Source.given l.source) (g.S.Source.faults l.fn.source) (g.S.Source.faults l.source) l.bytes.items

abbrev pub decreases-turns : goal.decreases-turns
decreases-turns g l = l.limit - vec_len l.bytes
