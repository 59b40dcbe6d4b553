use Rattle.std.proofs.Common.{length, ap, arith}
use Rattle.std.proofs.lemmas.Grind.{common_steps}
use Rattle.std.proofs.lemmas.List.{length-append}
use Rattle.u_rules.proofs.multisets.LeavesAt.{mul_leaves-leaf, gathering}
use Rattle.u_equal.proofs.gather.+factors.Goals as goal

pub returns-in-Mul : goal.returns-in-Mul
returns-in-Mul t c = grind (arith, common_steps, gathering, length-append)

pub returns-in_default : goal.returns-in_default
returns-in_default t c = omega (arith, ap length (mul_leaves-leaf c.args.product.now c.in_default.not-One c.in_default.not-Mul))
