use Rattle.std.proofs.Common.{◌≡◌, true, false, refl, sym, subst, ◌∙◌}
use Rattle.u_terms.specs.Syntax.{U}
use Rattle.u_normal.specs.Vanishing.{Vanishes}
use Rattle.u_normal.proofs.terms.Vanishings.{vanishes-Zero, vanishes-Add, vanishes-Mul_left, vanishes-Mul_right, vanishes-Sum, first-vanishes, second-vanishes, other-vanishes, body-vanishes}
use Rattle.u_normal.proofs.vanishing.+vanishes.Goals as goal

pub returns-in-Zero : goal.returns-in-Zero
returns-in-Zero t c = (λ h. vanishes-Zero c.args.u.now c.in-Zero.is, λ h. refl)

pub returns-then-vanishes : goal.returns-then-vanishes
returns-then-vanishes t c = (
  λ h. vanishes-Add c.args.u.now c.in-Add.a c.in-Add.b c.in-Add.is (subst (λ x. Vanishes x) c.get.ensures (c.vanishes.ensures.0 c.if-vanishes.true))
      (subst (λ x. Vanishes x) c.get-then-vanishes.ensures (c.vanishes-then-vanishes.ensures.0 h)),
  λ h. c.vanishes-then-vanishes.ensures.1 (subst (λ x. Vanishes x) (sym c.get-then-vanishes.ensures) (second-vanishes c.args.u.now h c.in-Add.a c.in-Add.b c.in-Add.is)),
)

pub returns-else-vanishes : goal.returns-else-vanishes
returns-else-vanishes t c = (
  λ h. let e : false ≡ true = sym c.if-vanishes.false ∙ h in absurd (cc),
  λ h. c.vanishes.ensures.1 (subst (λ x. Vanishes x) (sym c.get.ensures) (first-vanishes c.args.u.now h c.in-Add.a c.in-Add.b c.in-Add.is)),
)

pub returns-then-vanishes-2 : goal.returns-then-vanishes-2
returns-then-vanishes-2 t c = (
  λ h. vanishes-Mul_left c.args.u.now c.in-Mul.a c.in-Mul.b c.in-Mul.is (subst (λ x. Vanishes x) c.get-in-Mul.ensures (c.vanishes-in-Mul.ensures.0 c.if-vanishes-2.true)),
  λ h. c.if-vanishes-2.true,
)

pub returns-else-vanishes-2 : goal.returns-else-vanishes-2
returns-else-vanishes-2 t c = (
  λ h. vanishes-Mul_right c.args.u.now c.in-Mul.a c.in-Mul.b c.in-Mul.is (subst (λ x. Vanishes x) c.get-else-vanishes-2.ensures (c.vanishes-else-vanishes-2.ensures.0 h)),
  λ h. c.vanishes-else-vanishes-2.ensures.1 (subst (λ x. Vanishes x) (sym c.get-else-vanishes-2.ensures)
      (other-vanishes c.args.u.now h c.in-Mul.a c.in-Mul.b c.in-Mul.is
      (λ k. let e : false ≡ true = sym c.if-vanishes-2.false ∙ c.vanishes-in-Mul.ensures.1 (subst (λ x. Vanishes x) (sym c.get-in-Mul.ensures) k) in absurd (cc)))),
)

pub returns-in-Sum : goal.returns-in-Sum
returns-in-Sum t c = (
  λ h. vanishes-Sum c.args.u.now c.in-Sum.f c.in-Sum.is (subst (λ x. Vanishes x) c.get-in-Sum.ensures (c.vanishes-in-Sum.ensures.0 h)),
  λ h. c.vanishes-in-Sum.ensures.1 (subst (λ x. Vanishes x) (sym c.get-in-Sum.ensures) (body-vanishes c.args.u.now h c.in-Sum.f c.in-Sum.is)),
)
