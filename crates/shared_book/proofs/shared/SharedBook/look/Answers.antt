use Rattle.std.proofs.Common.{rules, ◌≡◌, List}
use Rattle.doc_book.specs.declared.entries.Entry.{Entry}
use Rattle.shared_book.proofs.Owning.{kept_same}
use Rattle.shared_book.proofs.shared.SharedBook.look.Goals as goal

pub invariant_of-pass : goal.invariant_of-pass
invariant_of-pass g c = let list : List Entry = c.take-turn.result.book.history in
    let s : c.give.new.seat.seen ≡ list = search rules in
    let o : c.give.new.seat.own ≡ c.pass.inside.seat.own = search rules in
    (search rules, kept_same c.pass.inside.who c.pass.inside.seat.seen list c.give.new.seat.seen c.pass.inside.seat.own c.give.new.seat.own c.take-turn.ensures.begins c.pass.invariant.1 s o)
