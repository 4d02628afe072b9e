use Rattle.std.proofs.Common.{arith}
use Rattle.std.proofs.lemmas.List.{take_rest}
use Rattle.byte_edge.proofs.Front.{gives_step}
use Rattle.byte_edge.proofs.slow.SlowSourceSource.read.Goals as goal

pub returns-clause-moved : goal.returns-clause-moved
returns-clause-moved c =
    let all = c.deref.ensures.value in
    let rest = take_rest c.self.inside.bytes.items c.self.inside.given in
    let offered = rw (all, rest) at c.front.ensures in
    let count = rw offered at c.give-count.ensures.count in
    let copied = rw offered at c.give-count.ensures.copied in
    rw (← c.self.view_is) (gives_step c.self.inside.bytes.items _ _ c.self.inside.given _ _ count (omega arith) copied)
