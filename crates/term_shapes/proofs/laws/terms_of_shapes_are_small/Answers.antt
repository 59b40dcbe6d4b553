use Rattle.term_shapes.proofs.Sizes.{block-nodes, block-depth}
use Rattle.term_shapes.proofs.laws.terms_of_shapes_are_small.Goals as goal

pub returns-clause-nodes : goal.returns-clause-nodes
returns-clause-nodes c = block-nodes

pub returns-clause-depth : goal.returns-clause-depth
returns-clause-depth c = block-depth
