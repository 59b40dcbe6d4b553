use Rattle.u_normal.proofs.costs.FewOnes.{normal-few, normal-blocks_few, normal-sizes}
use Rattle.u_normal.proofs.laws.normal_terms_have_few_ones.Goals as goal

pub returns-clause-whole : goal.returns-clause-whole
returns-clause-whole c = normal-few

pub returns-clause-blocks : goal.returns-clause-blocks
returns-clause-blocks c = normal-blocks_few

pub returns-clause-sizes : goal.returns-clause-sizes
returns-clause-sizes c = normal-sizes
