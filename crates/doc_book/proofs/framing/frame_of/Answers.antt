use Rattle.units.specs.declared.geometry.Axis.TheVariants.{X, Y}
use Rattle.doc_book.proofs.framing.frame_of.Goals as goal

pub project_both-requires-clause-feasible_x : goal.project_both-requires-clause-feasible_x
project_both-requires-clause-feasible_x g c κs within = c.requires.feasible X

pub project_both-requires-clause-feasible_y : goal.project_both-requires-clause-feasible_y
project_both-requires-clause-feasible_y g c κs within = c.requires.feasible Y
