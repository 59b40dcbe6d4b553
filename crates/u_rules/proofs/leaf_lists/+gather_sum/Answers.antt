use Rattle.std.proofs.Common.{arith}
use Rattle.std.proofs.lemmas.Grind.{common_steps}
use Rattle.u_rules.proofs.multisets.LeavesAt.{add_leaves-leaf, gathering}
use Rattle.u_rules.proofs.leaf_lists.+gather_sum.Goals as goal

pub returns-in_ok-push-in_default : goal.returns-in_ok-push-in_default
returns-in_ok-push-in_default t c = grind (arith, common_steps, gathering, add_leaves-leaf c.args.sum.now c.in_default.not-Zero c.in_default.not-Add)
