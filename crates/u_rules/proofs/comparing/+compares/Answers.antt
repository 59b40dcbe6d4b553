use Rattle.std.proofs.Common.{arith, ap, ◌∙◌}
use Rattle.std.proofs.lemmas.Grind.{common_steps}
use Rattle.u_terms.specs.Size.{depth}
use Rattle.u_terms.proofs.Sizes.{depth-positive, depth-Sum}
use Rattle.u_terms.proofs.Mapped.{mapped-Zero, mapped-One, mapped-Add, mapped-Mul, mapped-Squash, mapped-Not, mapped-Sum, mapped-Eq, mapped-Pred}
use Rattle.u_terms.proofs.Parts.{parts-Add, parts-Mul, parts-Squash, parts-Not, parts-Sum, parts-Pred}
use Rattle.u_rules.proofs.comparing.+compares.Goals as goal

pub overflow_add-binders : goal.overflow_add-binders
overflow_add-binders t c =
    let e = ap depth c.in-Sum-u.is ∙ depth-Sum c.in-Sum-u.x in
    let p = depth-positive c.in-Sum-u.x in
    omega (arith, c.requires.shallow)

pub returns-in_default : goal.returns-in_default
returns-in_default t c = rw (c.in-Zero.is, mapped-Zero) (λ never. absurd (cc), λ e. absurd (c.in_default.not-Zero e))

pub returns-in_default-matches : goal.returns-in_default-matches
returns-in_default-matches t c = rw (c.in-One.is, mapped-One) (λ never. absurd (cc), λ e. absurd (c.in_default-matches.not-One e))

pub returns-in_default-u : goal.returns-in_default-u
returns-in_default-u t c = rw (c.in-Add.is, mapped-Add) (λ never. absurd (cc), λ e. absurd (c.in_default-u.not-Add _ _ e))

pub returns-in_default-u-2 : goal.returns-in_default-u-2
returns-in_default-u-2 t c = rw (c.in-Mul.is, mapped-Mul) (λ never. absurd (cc), λ e. absurd (c.in_default-u-2.not-Mul _ _ e))

pub returns-in_default-u-3 : goal.returns-in_default-u-3
returns-in_default-u-3 t c = rw (c.in-Squash.is, mapped-Squash) (λ never. absurd (cc), λ e. absurd (c.in_default-u-3.not-Squash _ e))

pub returns-in_default-u-4 : goal.returns-in_default-u-4
returns-in_default-u-4 t c = rw (c.in-Not.is, mapped-Not) (λ never. absurd (cc), λ e. absurd (c.in_default-u-4.not-Not _ e))

pub returns-in_default-u-5 : goal.returns-in_default-u-5
returns-in_default-u-5 t c = rw (c.in-Sum.is, mapped-Sum) (λ never. absurd (cc), λ e. absurd (c.in_default-u-5.not-Sum _ e))

pub returns-in_default-u-6 : goal.returns-in_default-u-6
returns-in_default-u-6 t c = rw (c.in-Eq.is, mapped-Eq) (λ never. absurd (cc), λ e. absurd (c.in_default-u-6.not-Eq _ _ e))

pub returns-in_default-u-7 : goal.returns-in_default-u-7
returns-in_default-u-7 t c = rw (c.in-PlaceEq.is, mapped-Eq) (λ never. absurd (cc), λ e. absurd (c.in_default-u-7.not-Eq _ _ e))

pub returns-in_default-u-8 : goal.returns-in_default-u-8
returns-in_default-u-8 t c = rw (c.in-Pred.is, mapped-Pred) (λ never. absurd (cc), λ e. absurd (c.in_default-u-8.not-Pred _ _ e))

pub returns-then-compares_inside : goal.returns-then-compares_inside
returns-then-compares_inside t c = rw (c.in-Add.is, c.in-Add-u.is, mapped-Add) (λ yes. grind (arith, common_steps), λ e. let h = parts-Add _ _ _ _ e in grind (arith, common_steps))

pub returns-else-compares_inside : goal.returns-else-compares_inside
returns-else-compares_inside t c = rw (c.in-Add.is, c.in-Add-u.is, mapped-Add) (λ yes. grind (arith, common_steps), λ e. let h = parts-Add _ _ _ _ e in grind (arith, common_steps))

pub returns-then-compares_inside-2 : goal.returns-then-compares_inside-2
returns-then-compares_inside-2 t c = rw (c.in-Mul.is, c.in-Mul-u.is, mapped-Mul) (λ yes. grind (arith, common_steps), λ e. let h = parts-Mul _ _ _ _ e in grind (arith, common_steps))

pub returns-else-compares_inside-2 : goal.returns-else-compares_inside-2
returns-else-compares_inside-2 t c = rw (c.in-Mul.is, c.in-Mul-u.is, mapped-Mul) (λ yes. grind (arith, common_steps), λ e. let h = parts-Mul _ _ _ _ e in grind (arith, common_steps))

pub returns-in-Squash-u : goal.returns-in-Squash-u
returns-in-Squash-u t c = rw (c.in-Squash.is, c.in-Squash-u.is, mapped-Squash) (λ yes. grind (arith, common_steps), λ e. let h = parts-Squash _ _ e in grind (arith, common_steps))

pub returns-in-Not-u : goal.returns-in-Not-u
returns-in-Not-u t c = rw (c.in-Not.is, c.in-Not-u.is, mapped-Not) (λ yes. grind (arith, common_steps), λ e. let h = parts-Not _ _ e in grind (arith, common_steps))

pub returns-in-Sum-u : goal.returns-in-Sum-u
returns-in-Sum-u t c = rw (c.in-Sum.is, c.in-Sum-u.is, mapped-Sum) (λ yes. grind (arith, common_steps), λ e. let h = parts-Sum _ _ e in grind (arith, common_steps))

pub returns-then-num-m : goal.returns-then-num-m
returns-then-num-m t c = rw (c.in-Pred.is, c.in-Pred-u.is, mapped-Pred) (λ yes. grind (arith, common_steps), λ e. let h = parts-Pred _ _ _ _ e in grind (arith, common_steps))
