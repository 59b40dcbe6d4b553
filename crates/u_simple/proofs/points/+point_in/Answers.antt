use Rattle.std.proofs.Common.{◌≡◌, refl, subst}
use Rattle.std.specs.Prelude.{IfSome}
use Rattle.u_terms.specs.Syntax.{U}
use Rattle.u_rules.specs.Terms.{◌⊗◌}
use Rattle.u_simple.specs.Points.{IsPoint}
use Rattle.u_simple.proofs.Known.{point-before, point-behind, point-first, point-second}
use Rattle.u_simple.proofs.points.+point_in.Goals as goal

pub returns-in_ok-before-in-Some : goal.returns-in_ok-before-in-Some
returns-in_ok-before-in-Some t c =
    let found : IsPoint c.args.name c.get.result.now c.in-Some.found = subst (λ o. IfSome o (IsPoint c.args.name c.get.result.now)) c.in-Some.is (c.in_ok-found-in-Mul.ensures {u = tt}) in
    let whole = c.in_ok-before-in-Some.ensures {u = tt} in
    point-before c.args.name c.args.u.now c.in-Mul.a c.in-Mul.b c.in-Some.found c.in_ok-before-in-Some.field-0 c.in-Mul.is
    (subst (λ (a : U). IsPoint c.args.name a c.in-Some.found) c.get.ensures found) whole.value whole.turned
    (subst (λ (b : U). c.in_ok-before-in-Some.field-0.rest ≡ c.in-Some.found.rest ⊗ b) c.get-in-Some.ensures whole.rest)

pub returns-in_ok-behind-in-Some-2 : goal.returns-in_ok-behind-in-Some-2
returns-in_ok-behind-in-Some-2 t c =
    let found : IsPoint c.args.name c.get-in-None.result.now c.in-Some-2.found = subst (λ o. IfSome o (IsPoint c.args.name c.get-in-None.result.now)) c.in-Some-2.is (c.in_ok-found-in-None.ensures {u = tt}) in
    let whole = c.in_ok-behind-in-Some-2.ensures {u = tt} in
    point-behind c.args.name c.args.u.now c.in-Mul.a c.in-Mul.b c.in-Some-2.found c.in_ok-behind-in-Some-2.field-0 c.in-Mul.is
    (subst (λ (b : U). IsPoint c.args.name b c.in-Some-2.found) c.get-in-None.ensures found) whole.value whole.turned
    (subst (λ (a : U). c.in_ok-behind-in-Some-2.field-0.rest ≡ a ⊗ c.in-Some-2.found.rest) c.get-in-Some-2.ensures whole.rest)

pub returns-in_ok-alone-in-Eq : goal.returns-in_ok-alone-in-Eq
returns-in_ok-alone-in-Eq t c =
    let says = c.says.ensures.0 c.if-says.true in
    let whole = c.in_ok-alone-in-Eq.ensures {u = tt} in
    point-first c.args.name c.args.u.now c.in-Eq.a c.in-Eq.b c.in_ok-alone-in-Eq.field-0 c.in-Eq.is says.0 says.1 whole.value whole.turned whole.rest

pub returns-in_ok-alone-in-Eq-2 : goal.returns-in_ok-alone-in-Eq-2
returns-in_ok-alone-in-Eq-2 t c =
    let says = c.if-says-2.ensures.0 refl in
    let whole = c.in_ok-alone-in-Eq-2.ensures {u = tt} in
    point-second c.args.name c.args.u.now c.in-Eq-2.a c.in-Eq-2.b c.in_ok-alone-in-Eq-2.field-0 c.in-Eq-2.is says.0 says.1 whole.value whole.turned whole.rest
