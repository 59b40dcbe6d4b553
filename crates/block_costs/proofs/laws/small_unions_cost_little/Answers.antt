use Rattle.block_costs.proofs.Totals.{union-steps, union-nodes, union-depth, union-bytes}
use Rattle.block_costs.proofs.laws.small_unions_cost_little.Goals as goal

pub returns-clause-steps : goal.returns-clause-steps
returns-clause-steps c = union-steps

pub returns-clause-nodes : goal.returns-clause-nodes
returns-clause-nodes c = union-nodes

pub returns-clause-depth : goal.returns-clause-depth
returns-clause-depth c = union-depth

pub returns-clause-bytes : goal.returns-clause-bytes
returns-clause-bytes c = union-bytes
