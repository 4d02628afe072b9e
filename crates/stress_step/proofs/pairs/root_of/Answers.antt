use Rattle.stress_step.proofs.Roots.{root-is, root-small}
use Rattle.stress_step.proofs.pairs.root_of.Goals as goal

pub returns-clause-value : goal.returns-clause-value
returns-clause-value c = root-is c.isqrt.result c.args.squared c.isqrt.ensures.square_le c.isqrt.ensures.next_square_gt

pub returns-clause-small : goal.returns-clause-small
returns-clause-small c = root-small c.isqrt.result c.args.squared c.requires c.isqrt.ensures.square_le
