use Rattle.std.proofs.Common.{arith}
use Rattle.concurrent_run.proofs.Together.{session_count, tables, all_come, run_whole}
use Rattle.concurrent_run.proofs.beside.run_open.Goals as goal

pub shut-requires-clause-few : goal.shut-requires-clause-few
shut-requires-clause-few g c = let e = c.branches.ensures in let eight = session_count c.args.book c.args.people c.requires.people in (omega (arith, eight, e.sessions.count), omega (arith, e.workers.count, c.requires.all.0))

pub shut-requires-clause-tables : goal.shut-requires-clause-tables
shut-requires-clause-tables g c = let e = c.branches.ensures in
    tables c.args.book c.args.lines.now c.args.people c.branches.new.run c.branches.new.sessions.items c.branches.new.workers.items c.requires.people e.led e.sessions e.workers

pub shut-requires-clause-all : goal.shut-requires-clause-all
shut-requires-clause-all g c = let e = c.branches.ensures in
    let come = all_come c.args.book c.args.lines.now c.args.people c.branches.new.run c.branches.new.sessions.items c.branches.new.workers.items c.requires.people e.led e.sessions e.workers in omega (arith, come, c.requires.all.1)

pub returns : goal.returns
returns g c = let e = c.branches.ensures in let s = c.in-Some.ensures in
    run_whole c.args.book c.args.lines.now c.args.people c.branches.new.run c.branches.new.sessions.items c.branches.new.workers.items c.requires.people e.led e.sessions e.workers
    c.in-Some.beside.book c.in-Some.beside.replies c.in-Some.beside.tallies c.requires.book s.closed s.lists s.tallies s.enough
