-- An exact separation turned round.
use Rattle.std.specs.Prelude.{ℕ, neg_ℤ, slice_set}
use Rattle.units.specs.declared.geometry.Sep.{Sep}
use Rattle.units.specs.Problem.{Problem}
use Rattle.units.specs.Separation.{separation_at}

-- from its right to its left end, with its gap negated
abbrev pub turned_separation : Sep → Sep
turned_separation separation =
    record { left = separation.right; right = separation.left; gap = neg_ℤ separation.gap; exact = separation.exact }

-- the problem with the separation of this number turned round
abbrev pub turned_problem : Problem → ℕ → Problem
turned_problem problem number = record {
  weights = problem.weights;
  desired = problem.desired;
  separations = slice_set problem.separations number (turned_separation (separation_at problem.separations number));
}
