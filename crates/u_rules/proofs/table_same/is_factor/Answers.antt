use Rattle.std.proofs.Common.{arith}
use Rattle.std.proofs.lemmas.Grind.{common_steps}
use Rattle.u_terms.proofs.Mapped.{mapped-Rel, mapped-Eq}
use Rattle.u_terms.proofs.Parts.{parts-Rel}
use Rattle.u_rules.proofs.table_same.is_factor.Goals as goal

pub returns-then-found-table : goal.returns-then-found-table
returns-then-found-table c = rw (c.in-Row.is, c.in-Rel.is, mapped-Rel) (λ yes. grind (arith, common_steps), λ e. let h = parts-Rel _ _ _ _ e in grind (arith, common_steps))

pub returns-in_default : goal.returns-in_default
returns-in_default c = rw (c.in-Row.is, mapped-Rel) (λ never. absurd (cc), λ e. absurd (c.in_default.not-Rel _ _ e))

pub returns-in_default-u : goal.returns-in_default-u
returns-in_default-u c = rw (c.in-Columns.is, mapped-Eq) (λ never. absurd (cc), λ e. absurd (c.in_default-u.not-Eq _ _ e))

pub returns-in_default-u-2 : goal.returns-in_default-u-2
returns-in_default-u-2 c = rw (c.in-Values.is, mapped-Eq) (λ never. absurd (cc), λ e. absurd (c.in_default-u-2.not-Eq _ _ e))
