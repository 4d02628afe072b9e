use Rattle.block_sums.specs.Solving.{IsActive}
use Rattle.block_sums.specs.Rest.{HasRest}
use Rattle.vpsc_solve.specs.Places.{ArePlaced}
use Rattle.vpsc_solve.proofs.Potential.{left_over}
use Rattle.vpsc_solve.proofs.solving.close_all.Given as goal

abbrev pub invariant-closings : goal.invariant-closings
invariant-closings l = record {
  active : IsActive l.problem l.active.items;
  rest : HasRest l.problem l.active.items;
  placed : ArePlaced l.problem l.active.items l.places;
}

abbrev pub decreases-closings : goal.decreases-closings
decreases-closings l = left_over l.problem l.places
