use Rattle.u_normal.proofs.costs.FewOnes.{blocks-small}
use Rattle.u_normal.proofs.laws.blocks_of_sums_are_small.Goals as goal

pub returns : goal.returns
returns c = blocks-small
