use Rattle.block_terms.proofs.FewOnes.{tree-few, tree-nodes}
use Rattle.block_terms.proofs.laws.terms_of_unions_have_few_ones.Goals as goal

pub returns-clause-few : goal.returns-clause-few
returns-clause-few c = tree-few

pub returns-clause-nodes : goal.returns-clause-nodes
returns-clause-nodes c = tree-nodes
