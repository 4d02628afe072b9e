use Rattle.std.proofs.Common.{arith}
use Rattle.byte_edge.proofs.Front.{gives_rest}
use Rattle.byte_edge.proofs.sure.SureSourceSource.read.Goals as goal

pub returns-clause-moved : goal.returns-clause-moved
returns-clause-moved c =
    let all = c.deref.ensures.value in
    let count = rw all at c.give-count.ensures.count in
    let copied = rw all at c.give-count.ensures.copied in
    rw (← c.self.view_is) (gives_rest c.self.inside.bytes.items _ _ c.self.inside.given _ count (omega arith) (omega arith) copied)
