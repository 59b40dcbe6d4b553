use Rattle.u_normal.proofs.costs.NormalCosts.{normal-steps, normal-nodes, normal-depth, normal-bytes}
use Rattle.u_normal.proofs.laws.sums_become_normal_within_costs.Goals as goal

pub returns-clause-steps : goal.returns-clause-steps
returns-clause-steps c = normal-steps

pub returns-clause-nodes : goal.returns-clause-nodes
returns-clause-nodes c = normal-nodes

pub returns-clause-depth : goal.returns-clause-depth
returns-clause-depth c = normal-depth

pub returns-clause-bytes : goal.returns-clause-bytes
returns-clause-bytes c = normal-bytes
