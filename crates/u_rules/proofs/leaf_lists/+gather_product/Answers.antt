use Rattle.std.proofs.Common.{arith}
use Rattle.std.proofs.lemmas.Grind.{common_steps}
use Rattle.u_rules.proofs.multisets.LeavesAt.{mul_leaves-leaf, gathering}
use Rattle.u_rules.proofs.leaf_lists.+gather_product.Goals as goal

pub returns-in_ok-push-in_default : goal.returns-in_ok-push-in_default
returns-in_ok-push-in_default t c = grind (arith, common_steps, gathering, mul_leaves-leaf c.args.product.now c.in_default.not-One c.in_default.not-Mul)
