use Rattle.std.proofs.Common.{rules, subst, sym, ◌≡◌, ◌++◌, take, drop, length, List}
use Rattle.std.proofs.Math.Seq.{take-append_seam}
use Rattle.concurrent_run.specs.declared.elements.Session.{Session}
use Rattle.concurrent_run.specs.Leading.{IsLed}
use Rattle.concurrent_run.proofs.branches.branches.Goals as goal

pub returns-clause-led : goal.returns-clause-led
returns-clause-led g c = let new : List Session = c.both.new.sessions in let rest : List Session = drop (length c.both.new.sessions) c.args.sessions.now.items in
    let n : length new ≡ c.args.sessions.now.len = let k = c.both.ensures.sessions.count in let m = c.as_mut_slice.ensures.len in search (rules, k, m) in
    let e : take c.args.sessions.now.len (new ++ rest) ≡ new = subst (λ k. take k (new ++ rest) ≡ new) n (take-append_seam new rest) in
    subst (λ (z : List Session). IsLed c.args.book.now c.args.run.now c.both.new.run z) (sym e) c.both.ensures.led
