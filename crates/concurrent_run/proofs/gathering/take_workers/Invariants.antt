use Rattle.std.proofs.Common.{◌≡◌, ◌++◌, map, false}
use Rattle.std.specs.List.{AllByRecursion}
use Rattle.std.specs.Vec.{vec_capacity}
use Rattle.concurrent_run.specs.Gathering.{worker_pass, worker_tally, lacked_memory}
use Rattle.concurrent_run.proofs.gathering.take_workers.Given as goal

abbrev pub invariant-loop-worker : goal.invariant-loop-worker
invariant-loop-worker l = record {
  passes : l.passes.items ≡ l.fn.passes.items ++ map worker_pass l.yielded;
  tallies : l.tallies.items ≡ map worker_tally l.yielded;
  enough : AllByRecursion (λ t. lacked_memory t.last ≡ false) l.tallies.items;
  room : vec_capacity l.passes ≡ vec_capacity l.fn.passes;
  space : vec_capacity l.tallies ≡ vec_capacity l.fn.tallies;
}
