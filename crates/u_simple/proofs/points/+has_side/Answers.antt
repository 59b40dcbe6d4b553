use Rattle.std.proofs.Common.{◌≡◌, true, false, sym, subst, ◌∙◌}
use Rattle.u_simple.specs.Sums.{HasSide}
use Rattle.u_simple.proofs.Sides.{side-left, side-right, side-under, side-first, side-second, side-of_product, side-of_sum, side-of_equality}
use Rattle.u_simple.proofs.points.+has_side.Goals as goal

pub returns-in-Sum : goal.returns-in-Sum
returns-in-Sum t c = (
  λ h. side-under c.args.count c.args.u.now c.in-Sum.f c.in-Sum.is (subst (λ x. HasSide c.args.count x) c.get.ensures (c.has_side.ensures.0 h)),
  λ h. c.has_side.ensures.1 (subst (λ x. HasSide c.args.count x) (sym c.get.ensures) (side-of_sum c.args.count c.args.u.now h c.in-Sum.f c.in-Sum.is)),
)

pub returns-then-has_side : goal.returns-then-has_side
returns-then-has_side t c = (
  λ h. side-left c.args.count c.args.u.now c.in-Mul.a c.in-Mul.b c.in-Mul.is (subst (λ x. HasSide c.args.count x) c.get-in-Mul.ensures (c.has_side-in-Mul.ensures.0 c.if-has_side.true)),
  λ h. c.if-has_side.true,
)

pub returns-else-has_side : goal.returns-else-has_side
returns-else-has_side t c = (
  λ h. side-right c.args.count c.args.u.now c.in-Mul.a c.in-Mul.b c.in-Mul.is (subst (λ x. HasSide c.args.count x) c.get-else-has_side.ensures (c.has_side-else-has_side.ensures.0 h)),
  λ h. c.has_side-else-has_side.ensures.1 (subst (λ x. HasSide c.args.count x) (sym c.get-else-has_side.ensures)
      (side-of_product c.args.count c.args.u.now h c.in-Mul.a c.in-Mul.b c.in-Mul.is
      (λ k. let e : false ≡ true = sym c.if-has_side.false ∙ c.has_side-in-Mul.ensures.1 (subst (λ x. HasSide c.args.count x) (sym c.get-in-Mul.ensures) k) in absurd (cc)))),
)

pub returns-then-is_place : goal.returns-then-is_place
returns-then-is_place t c = (
  λ h. side-first c.args.count c.args.u.now c.in-Eq.a c.in-Eq.b c.in-Eq.is (c.is_place.ensures.0 c.if-is_place.true),
  λ h. c.if-is_place.true,
)

pub returns-else-is_place : goal.returns-else-is_place
returns-else-is_place t c = (
  λ h. side-second c.args.count c.args.u.now c.in-Eq.a c.in-Eq.b c.in-Eq.is (c.is_place-else-is_place.ensures.0 h),
  λ h. c.is_place-else-is_place.ensures.1
      (side-of_equality c.args.count c.args.u.now h c.in-Eq.a c.in-Eq.b c.in-Eq.is (λ k. let e : false ≡ true = sym c.if-is_place.false ∙ c.is_place.ensures.1 k in absurd (cc))),
)
