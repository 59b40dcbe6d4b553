use Rattle.std.proofs.Common.{arith}
use Rattle.std.proofs.lemmas.Grind.{common_steps}
use Rattle.u_terms.proofs.Mapped.{mapped-Mul}
use Rattle.u_terms.proofs.Parts.{parts-Mul}
use Rattle.u_rules.proofs.table_same.are_both.Goals as goal

pub returns-then-is_factor : goal.returns-then-is_factor
returns-then-is_factor c = rw (c.in-Mul.is, mapped-Mul) (λ yes. grind (arith, common_steps), λ e. let h = parts-Mul _ _ _ _ e in grind (arith, common_steps))

pub returns-else-is_factor : goal.returns-else-is_factor
returns-else-is_factor c = rw (c.in-Mul.is, mapped-Mul) (λ yes. grind (arith, common_steps), λ e. let h = parts-Mul _ _ _ _ e in grind (arith, common_steps))
