use Rattle.std.proofs.Common.{arith}
use Rattle.std.specs.Int.{w32, w64, w128}
use Rattle.block_sums.proofs.Passing.{passed-small, fits-64, fits-128}
use Rattle.block_sums.proofs.stops.closing_force.Goals as goal

pub product-pushed-requires-clause-moment : goal.product-pushed-requires-clause-moment
product-pushed-requires-clause-moment c = passed-small w64 c.args.left_moment 66822000000000 c.ranges.left_moment c.requires.left_moment

pub product-pushed-requires-clause-weight : goal.product-pushed-requires-clause-weight
product-pushed-requires-clause-weight c = passed-small w64 c.args.right_weight 258000 c.ranges.right_weight c.requires.right_weight

pub stretched-requires-clause-gap : goal.stretched-requires-clause-gap
stretched-requires-clause-gap c = passed-small w32 c.args.gap 1000000 c.ranges.gap c.requires.gap

pub stretched-requires-clause-weight : goal.stretched-requires-clause-weight
stretched-requires-clause-weight c = passed-small w64 c.args.left_weight 258000 c.ranges.left_weight c.requires.left_weight

pub stretched_twice-missing-requires-clause-stretched : goal.stretched_twice-missing-requires-clause-stretched
stretched_twice-missing-requires-clause-stretched c = passed-small w64 c.stretched.result 258000000000 (fits-64 c.stretched.result 258000000000 c.stretched.ensures.small (omega arith)) c.stretched.ensures.small

pub stretched_twice-missing-requires-clause-weight : goal.stretched_twice-missing-requires-clause-weight
stretched_twice-missing-requires-clause-weight c = passed-small w64 c.args.right_weight 258000 c.ranges.right_weight c.requires.right_weight

pub product-pulled-requires-clause-moment : goal.product-pulled-requires-clause-moment
product-pulled-requires-clause-moment c = passed-small w64 c.args.right_moment 66822000000000 c.ranges.right_moment c.requires.right_moment

pub product-pulled-requires-clause-weight : goal.product-pulled-requires-clause-weight
product-pulled-requires-clause-weight c = passed-small w64 c.args.left_weight 258000 c.ranges.left_weight c.requires.left_weight

pub twice_sum-requires-clause-first : goal.twice_sum-requires-clause-first
twice_sum-requires-clause-first c = passed-small w128 c.product-pushed.result 17240076000000000000 (fits-128 c.product-pushed.result 17240076000000000000 c.product-pushed.ensures.small (omega arith)) c.product-pushed.ensures.small

pub twice_sum-requires-clause-second : goal.twice_sum-requires-clause-second
twice_sum-requires-clause-second c = passed-small w128 c.stretched_twice-missing.result 66564000000000000 (fits-128 c.stretched_twice-missing.result 66564000000000000 c.stretched_twice-missing.ensures.small (omega arith)) c.stretched_twice-missing.ensures.small

pub twice_sum-requires-clause-third : goal.twice_sum-requires-clause-third
twice_sum-requires-clause-third c = passed-small w128 c.product-pulled.result 17240076000000000000 (fits-128 c.product-pulled.result 17240076000000000000 c.product-pulled.ensures.small (omega arith)) c.product-pulled.ensures.small

pub together-requires-clause-first : goal.together-requires-clause-first
together-requires-clause-first c = passed-small w64 c.args.left_weight 258000 c.ranges.left_weight c.requires.left_weight

pub together-requires-clause-second : goal.together-requires-clause-second
together-requires-clause-second c = passed-small w64 c.args.right_weight 258000 c.ranges.right_weight c.requires.right_weight
