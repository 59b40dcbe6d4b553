use Rattle.term_shapes.proofs.Sizes.{sum-nodes}
use Rattle.term_shapes.proofs.laws.sums_of_shapes_are_small.Goals as goal

pub returns : goal.returns
returns c = sum-nodes
