use Rattle.std.proofs.Common.{◌≡◌, ◌+◌, ◌≤◌, ◌+ℤ◌, nat_abs, drop}
use Rattle.block_sums.specs.Loads.{sum_of, sizes}
use Rattle.block_sums.proofs.sums.total.Given as goal

abbrev pub invariant-loop-load : goal.invariant-loop-load
invariant-loop-load l = (l.sum +ℤ sum_of (drop l.load-index l.loads) ≡ sum_of l.loads) × (nat_abs l.sum + sizes (drop l.load-index l.loads) ≤ sizes l.loads)
